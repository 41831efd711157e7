-- Laws of blocks by their half bytes: a block is made of them, xor goes through them, coding and decoding by a set of
-- permutations undo each other, and the words of a block are its half bytes joined by eights.
use Rattle.std.proofs.Common.{◌≡◌, ℕ, zero, suc, ◌+◌, ◌*◌, ◌/◌, ◌%◌, ◌<◌, List, [], ◌∷◌, get_or, refl, arith}
use lib.Bits.{bit_xor}
use Rattle.lists.specs.Tabulation.{tab}
use Rattle.lists.specs.Blocks.{Block, xor_block}
use Rattle.lists.specs.HalfBytes.{half_byte, joined}
use Rattle.lists.proofs.TabulationLaws.{get_or_tab, tab_is, tab_ext}
use Rattle.lists.proofs.BlockLaws.{block_tab, xor_at}
use Rattle.lists.proofs.HalfByteLaws.{half_lt, half_xor}
use Rattle.words.specs.Word.{word, word_at, words4}
use Rattle.cipher.specs.Coding.{Set, Permutations, decode, block_half, of_halves, coded, decoded}
use Rattle.cipher.proofs.Permutation.{decode_lt, decode_code, code_decode, decode_ext}

-- half bytes of a whole block
abbrev pub Halves : (ℕ → ℕ → ℕ) → Type 0
Halves x = (w j : ℕ) → w < 4 → j < 8 → x w j < 16

-- ---- blocks and half bytes

pub block_half_lt : (b : List ℕ) (w j : ℕ) → block_half b w j < 16
unfolding block_half
block_half_lt b w j = half_lt (get_or b (4 * w + j / 2) 0) (j % 2)

-- byte k of the block of half bytes x
abbrev byte_of : (ℕ → ℕ → ℕ) → ℕ → ℕ
byte_of x k = x (k / 4) (2 * (k % 4)) + 16 * x (k / 4) (2 * (k % 4) + 1)

pub of_halves_at : (x : ℕ → ℕ → ℕ) (k : ℕ) → k < 16 → get_or (of_halves x) k 0 ≡ x (k / 4) (2 * (k % 4)) + 16 * x (k / 4) (2 * (k % 4) + 1)
unfolding of_halves
of_halves_at x k h = get_or_tab 16 (byte_of x) k h

pub block_half_of : (x : ℕ → ℕ → ℕ) → Halves x → (w j : ℕ) → w < 4 → j < 8 → block_half (of_halves x) w j ≡ x w j
unfolding block_half half_byte
block_half_of x h w j hw hj =
    let p : (4 * w + j / 2) / 4 ≡ w = omega arith in
    let q : (4 * w + j / 2) % 4 ≡ j / 2 = omega arith in
    let l : 4 * w + j / 2 < 16 = omega arith in
    rw (of_halves_at x (4 * w + j / 2) l, p, q) (go (j % 2) refl)
  where
    go : (r : ℕ) → j % 2 ≡ r → half_byte (x w (2 * (j / 2)) + 16 * x w (2 * (j / 2) + 1)) r ≡ x w j
    go zero e =
        let f : 2 * (j / 2) ≡ j = omega arith in
        let b = h w j hw hj in
        rw f (omega arith)
    go (suc zero) e =
        let f : 2 * (j / 2) + 1 ≡ j = omega arith in
        let a = h w (2 * (j / 2)) hw (omega arith) in
        let b = h w j hw hj in
        rw f (omega arith)
    go (suc (suc r)) e = absurd (omega arith)

-- a block is made of its half bytes
pub block_is : (x : ℕ → ℕ → ℕ) (b : List ℕ) → Block b → ((w j : ℕ) → w < 4 → j < 8 → x w j ≡ block_half b w j) → of_halves x ≡ b
unfolding of_halves block_half half_byte
block_is x b h e = tab_is 16 (byte_of x) b h.size at
  where
    at : (k : ℕ) → k < 16 → x (k / 4) (2 * (k % 4)) + 16 * x (k / 4) (2 * (k % 4) + 1) ≡ get_or b k 0
    at k l =
        let p : 4 * (k / 4) + 2 * (k % 4) / 2 ≡ k = omega arith in
        let q : 4 * (k / 4) + (2 * (k % 4) + 1) / 2 ≡ k = omega arith in
        let r : 2 * (k % 4) % 2 ≡ 0 = omega arith in
        let s : (2 * (k % 4) + 1) % 2 ≡ 1 = omega arith in
        let m = h.bytes k in
        rw (e (k / 4) (2 * (k % 4)) (omega arith) (omega arith), e (k / 4) (2 * (k % 4) + 1) (omega arith) (omega arith), p, q, r, s) (omega arith)

pub of_halves_ext : (x y : ℕ → ℕ → ℕ) → ((w j : ℕ) → w < 4 → j < 8 → x w j ≡ y w j) → of_halves x ≡ of_halves y
unfolding of_halves
of_halves_ext x y h =
    tab_ext 16 (byte_of x) (byte_of y) (λ k l.
    rw (h (k / 4) (2 * (k % 4)) (omega arith) (omega arith), h (k / 4) (2 * (k % 4) + 1) (omega arith) (omega arith)))

pub block_halves : (x : ℕ → ℕ → ℕ) → Halves x → Block (of_halves x)
unfolding of_halves
block_halves x h = block_tab (byte_of x) (λ k l.
    let a = h (k / 4) (2 * (k % 4)) (omega arith) (omega arith) in
    let b = h (k / 4) (2 * (k % 4) + 1) (omega arith) (omega arith) in
    omega arith)

pub block_half_xor : (a b : List ℕ) (w j : ℕ) → w < 4 → j < 8 → block_half (xor_block a b) w j ≡ bit_xor (block_half a w j) (block_half b w j)
unfolding block_half
block_half_xor a b w j hw hj =
    rw (xor_at a b (4 * w + j / 2) (omega arith)) (half_xor (get_or a (4 * w + j / 2) 0) (get_or b (4 * w + j / 2) 0) (j % 2))

-- ---- the words of a block

word_of_halves : (x : ℕ → ℕ → ℕ) (w : ℕ) → w < 4 → word_at (of_halves x) (4 * w) ≡ joined 8 (x w)
unfolding word_at word of_halves tab joined
word_of_halves x zero h = omega arith
word_of_halves x (suc zero) h = omega arith
word_of_halves x (suc (suc zero)) h = omega arith
word_of_halves x (suc (suc (suc zero))) h = omega arith
word_of_halves x (suc (suc (suc (suc w)))) h = omega arith

pub words_halves : (x : ℕ → ℕ → ℕ) → words4 (of_halves x) ≡ joined 8 (x 0) ∷ joined 8 (x 1) ∷ joined 8 (x 2) ∷ joined 8 (x 3) ∷ []
unfolding words4
words_halves x = λ i.
    word_of_halves x 0 (omega arith) i ∷ word_of_halves x 1 (omega arith) i ∷ word_of_halves x 2 (omega arith) i ∷ word_of_halves x 3 (omega arith) i ∷ []

-- ---- coding and decoding a block

module _ (S : Set) (p : Permutations S) (b : List ℕ) where
  decoded_low : Halves (λ w j. decode (S w j) (block_half b w j))
  decoded_low w j hw hj = decode_lt (S w j) (p w j hw hj) (block_half b w j) (block_half_lt b w j)

  coded_low : Halves (λ w j. S w j (block_half b w j))
  coded_low w j hw hj = (p w j hw hj).low (block_half b w j) (block_half_lt b w j)

  pub block_decoded : Block (decoded S b)
  unfolding decoded
  block_decoded = block_halves (λ w j. decode (S w j) (block_half b w j)) decoded_low

  pub block_coded : Block (coded S b)
  unfolding coded
  block_coded = block_halves (λ w j. S w j (block_half b w j)) coded_low

  pub half_decoded : (w j : ℕ) → w < 4 → j < 8 → block_half (decoded S b) w j ≡ decode (S w j) (block_half b w j)
  unfolding decoded
  half_decoded = block_half_of (λ w j. decode (S w j) (block_half b w j)) decoded_low

  pub half_coded : (w j : ℕ) → w < 4 → j < 8 → block_half (coded S b) w j ≡ S w j (block_half b w j)
  unfolding coded
  half_coded = block_half_of (λ w j. S w j (block_half b w j)) coded_low

  pub decoded_coded : Block b → decoded S (coded S b) ≡ b
  unfolding decoded
  decoded_coded h =
      block_is (λ w j. decode (S w j) (block_half (coded S b) w j)) b h (λ w j hw hj.
      rw (half_coded w j hw hj) (decode_code (S w j) (p w j hw hj) (block_half b w j) (block_half_lt b w j)))

  pub coded_decoded : Block b → coded S (decoded S b) ≡ b
  unfolding coded
  coded_decoded h =
      block_is (λ w j. S w j (block_half (decoded S b) w j)) b h (λ w j hw hj.
      rw (half_decoded w j hw hj) (code_decode (S w j) (p w j hw hj) (block_half b w j) (block_half_lt b w j)))

-- ---- two sets that agree on the places and values that a set has

abbrev pub Agree : Set → Set → Type 0
Agree S S' = (w j v : ℕ) → w < 4 → j < 8 → v < 16 → S w j v ≡ S' w j v

module _ (S S' : Set) (a : Agree S S') where
  pub decoded_agree : decoded S ≡ decoded S'
  unfolding decoded
  decoded_agree = λ i b. at b i
    where
      at : (b : List ℕ) → decoded S b ≡ decoded S' b
      at b =
          of_halves_ext (λ w j. decode (S w j) (block_half b w j)) (λ w j. decode (S' w j) (block_half b w j)) (λ w j hw hj.
          decode_ext (S w j) (S' w j) (block_half b w j) (λ v l. a w j v hw hj l))

  pub coded_agree : coded S ≡ coded S'
  unfolding coded
  coded_agree = λ i b. at b i
    where
      at : (b : List ℕ) → coded S b ≡ coded S' b
      at b =
          of_halves_ext (λ w j. S w j (block_half b w j)) (λ w j. S' w j (block_half b w j)) (λ w j hw hj.
          a w j (block_half b w j) hw hj (block_half_lt b w j))
