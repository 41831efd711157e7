-- n rounds of tables, decoded by set n, are the first n rounds of LEA on the bytes decoded by set 0 (document 01, "The model
-- session of demand 3", its paragraph on n rounds): for any rows of round keys and any bytes.
use Rattle.std.proofs.Common.{◌≡◌, ℕ, zero, suc, ◌<◌, ◌≤◌, List, [], get_or, sym, refl, ap, ◌∙◌}
use native.Mathlib.Nat.{le_of_suc-le}
use Rattle.words.specs.Word.{words4, bytes}
use Rattle.cipher.specs.Lea.{round, forward, first_rounds}
use Rattle.cipher.specs.Coding.{Set, Permutations, decoded}
use Rattle.cipher.specs.Tables.{RoundCodings, ValidRound, RoundTables, table_round, table_rounds}
use Rattle.cipher.proofs.LeaLaws.{bytes_words}
use Rattle.cipher.proofs.CodingLaws.{block_decoded}
use Rattle.cipher.proofs.RoundLaw.{round_law}

-- r rounds: round l goes from set l to set l + 1, by the tables t l under row l
module _ (r : ℕ) (S : ℕ → Set) (c : ℕ → RoundCodings) (rows : List (List ℕ)) (t : ℕ → List ℕ)
    (before : (l : ℕ) → (c l).before ≡ S l) (after : (l : ℕ) → (c l).after ≡ S (suc l))
    (valid : (l : ℕ) → l < r → ValidRound (c l)) (tables : (l : ℕ) → l < r → RoundTables (c l) (get_or rows l []) (t l))
    (b : List ℕ) where
  words_law : (n : ℕ) → n ≤ r → words4 (decoded (S n) (table_rounds t n b)) ≡ forward rows n (words4 (decoded (S 0) b))
  unfolding table_rounds forward
  words_law zero h = refl
  words_law (suc n) h =
      ap (λ (s : Set). words4 (decoded s (table_round (t n) (table_rounds t n b)))) (sym (after n))
      ∙ round_law (c n) (valid n h) (get_or rows n []) (t n) (tables n h) (table_rounds t n b)
      ∙ ap (λ (s : Set). round (get_or rows n []) (words4 (decoded s (table_rounds t n b)))) (before n)
      ∙ ap (round (get_or rows n [])) (words_law n (le_of_suc-le h))

  pub rounds_law : (n : ℕ) → n ≤ r → Permutations (S n) → decoded (S n) (table_rounds t n b) ≡ first_rounds rows n (decoded (S 0) b)
  unfolding first_rounds
  rounds_law n h p = sym (bytes_words (block_decoded (S n) p (table_rounds t n b))) ∙ ap bytes (words_law n h)
