-- The four words of a block that a set decodes.
use Rattle.std.proofs.Common.{◌≡◌, ℕ, ◌^◌, ◌<◌, List, [], ◌∷◌, ap, ◌∙◌, lit<}
use Rattle.lists.specs.HalfBytes.{half_byte, joined}
use Rattle.lists.proofs.HalfByteLaws.{joined_lt, nib_joined, joined_is}
use Rattle.words.specs.Word.{words4}
use Rattle.cipher.specs.Coding.{Set, Permutations, decode, block_half, of_halves, decoded}
use Rattle.cipher.proofs.Permutation.{decode_lt}
use Rattle.cipher.proofs.CodingLaws.{Halves, block_half_lt, block_half_of, words_halves}

-- word w of the block b, decoded by S
pub opened_word : Set → List ℕ → ℕ → ℕ
opened_word S b w = joined 8 (λ j. decode (S w j) (block_half b w j))

module _ (S : Set) (p : Permutations S) (b : List ℕ) (w : ℕ) (hw : w < 4) where
  low : (j : ℕ) → j < 8 → decode (S w j) (block_half b w j) < 16
  low j l = decode_lt (S w j) (p w j hw l) (block_half b w j) (block_half_lt b w j)

  pub half_opened : (j : ℕ) → j < 8 → half_byte (opened_word S b w) j ≡ decode (S w j) (block_half b w j)
  unfolding opened_word
  half_opened = nib_joined 8 (λ j. decode (S w j) (block_half b w j)) low

  pub opened_word_lem : opened_word S b w < 2 ^ 32
  unfolding opened_word
  opened_word_lem = joined_lt 8 (λ j. decode (S w j) (block_half b w j)) low

pub words_opened : (S : Set) (b : List ℕ) → words4 (decoded S b) ≡ opened_word S b 0 ∷ opened_word S b 1 ∷ opened_word S b 2 ∷ opened_word S b 3 ∷ []
unfolding decoded opened_word
words_opened S b = words_halves (λ w j. decode (S w j) (block_half b w j))

-- a block is made of the half bytes x, and these are decoded to those of the words y
module _ (S : Set) (x : ℕ → ℕ → ℕ) (h : Halves x) (y : ℕ → ℕ) (hy : (w : ℕ) → w < 4 → y w < 2 ^ 32)
    (e : (w j : ℕ) → w < 4 → j < 8 → decode (S w j) (x w j) ≡ half_byte (y w) j) where
  opened_is : (w : ℕ) → w < 4 → opened_word S (of_halves x) w ≡ y w
  unfolding opened_word
  opened_is w hw =
      joined_is 8 (y w) (λ j. decode (S w j) (block_half (of_halves x) w j)) (hy w hw) (λ j l.
      ap (decode (S w j)) (block_half_of x h w j hw l) ∙ e w j hw l)

  pub words_made : words4 (decoded S (of_halves x)) ≡ y 0 ∷ y 1 ∷ y 2 ∷ y 3 ∷ []
  words_made =
      words_opened S (of_halves x)
      ∙ (λ i. opened_is 0 (lit< tt) i ∷ opened_is 1 (lit< tt) i ∷ opened_is 2 (lit< tt) i ∷ opened_is 3 (lit< tt) i ∷ [])
