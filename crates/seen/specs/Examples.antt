-- Seen words of some codings (document 02, 2026-04), as they come out by hand.
use Rattle.std.specs.Prelude.{◌≡◌, List, [], ◌∷◌, ℕ, get_or}
use Rattle.std.specs.Int.Count.{ones}
use Rattle.seen.specs.SeenWord.{bit_of, seen_word}

abbrev pub word_of : List ℕ → ℕ
word_of s = seen_word 16 16 (λ v. get_or s v 0)

-- a permutation; the same with 3 for its 5, so that 3 comes twice; and with 16 for its 5
abbrev pub right : List ℕ
right = 14 ∷ 3 ∷ 0 ∷ 9 ∷ 5 ∷ 12 ∷ 7 ∷ 1 ∷ 15 ∷ 10 ∷ 2 ∷ 6 ∷ 13 ∷ 4 ∷ 11 ∷ 8 ∷ []

abbrev pub twice : List ℕ
twice = 14 ∷ 3 ∷ 0 ∷ 9 ∷ 3 ∷ 12 ∷ 7 ∷ 1 ∷ 15 ∷ 10 ∷ 2 ∷ 6 ∷ 13 ∷ 4 ∷ 11 ∷ 8 ∷ []

abbrev pub over : List ℕ
over = 14 ∷ 3 ∷ 0 ∷ 9 ∷ 16 ∷ 12 ∷ 7 ∷ 1 ∷ 15 ∷ 10 ∷ 2 ∷ 6 ∷ 13 ∷ 4 ∷ 11 ∷ 8 ∷ []

pub record MarkedWords : Type 0 where
  pub bit_0 : bit_of 16 0 ≡ 1
  pub bit_15 : bit_of 16 15 ≡ 32768
  pub none_16 : bit_of 16 16 ≡ 0
  pub none_255 : bit_of 16 255 ≡ 0
  -- all bits; all but bit 5, both times
  pub all : word_of right ≡ 65535
  pub all_count : ones (word_of right) ≡ 16
  pub repeated : word_of twice ≡ 65503
  pub repeated_count : ones (word_of twice) ≡ 15
  pub too_large : word_of over ≡ 65503
