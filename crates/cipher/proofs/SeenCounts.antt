-- The count of a seen word's ones tells whether its numbers are below the bound and differ; so it decides the test of a coding.
use Rattle.std.proofs.Common.{◌≡◌, ℕ, eqb, sym, ◌∙◌, eq-eqb, eqb-true}
use lib.Count.{ones}
use Rattle.seen.specs.SeenWord.{seen_word}
use Rattle.seen.proofs.SeenLaws.{counted}
use Rattle.cipher.specs.Chain.{is_one_to_one}
use Rattle.cipher.specs.SeenCount.{CountTells}
use Rattle.cipher.proofs.ChainTests.{one_tested, tested_one}

pub count_tested : (n m : ℕ) (f : ℕ → ℕ) → eqb (ones (seen_word n m f)) n ≡ is_one_to_one n m f
unfolding is_one_to_one
count_tested n m f = counted m f n

pub count_tells : (n m : ℕ) (f : ℕ → ℕ) → CountTells n m f
count_tells n m f = record {
  full = λ e. one_tested n m f (sym (count_tested n m f) ∙ eq-eqb (ones (seen_word n m f)) n e);
  counts = λ h. eqb-true (ones (seen_word n m f)) n (count_tested n m f ∙ tested_one n m f h);
}
