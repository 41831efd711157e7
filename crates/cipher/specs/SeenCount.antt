-- What the count of a seen word's ones tells (document 02, 2026-04).
use Rattle.std.specs.Prelude.{◌≡◌, ℕ, count_ones}
use Rattle.seen.specs.SeenWord.{seen_word}
use Rattle.cipher.specs.Coding.{OneToOne}

-- n numbers, the first values of f, set as many bits of a word of m bits exactly where they are below m and no two are the
-- same. "The count is 16 exactly for a permutation": n and m are 16, the numbers a coding's entries
pub record CountTells (n m : ℕ) (f : ℕ → ℕ) : Type 0 where
  pub full : count_ones (seen_word n m f) ≡ n → OneToOne n m f
  pub counts : OneToOne n m f → count_ones (seen_word n m f) ≡ n
