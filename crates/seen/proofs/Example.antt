-- The examples come out by computation.
use mathlib.Core.Path.{refl, ap₂, ◌∙◌}
use Prim.Native.Nat.{ℕ, ◌+◌}
use lib.Count.{ones_cat, ones-ones}
use lib.Dec.{lit<}
use Rattle.seen.specs.SeenWord.{seen_word}
use Rattle.seen.specs.Examples.{MarkedWords}

pub marked_words : MarkedWords
unfolding seen_word
marked_words = record {
  bit_0 = refl;
  bit_15 = refl;
  none_16 = refl;
  none_255 = refl;
  all = refl;
  all_count = ones-ones 16;
  repeated = refl;
  repeated_count = ones_cat 6 1023 31 (lit< tt) ∙ ap₂ (λ (a b : ℕ). a + b) (ones-ones 10) (ones-ones 5);
  too_large = refl;
}
