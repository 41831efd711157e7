-- Codings, sets of codings, and blocks coded by a set (document 01, "Chain of codings", its first paragraph). A coding is
-- read as a function on the numbers 0 to 15, a set as a function of word, half byte and value.
use Rattle.std.specs.Prelude.{◌≡◌, ℕ, zero, suc, ◌+◌, ◌*◌, ◌/◌, ◌%◌, ◌<◌, cond, List, ◌==◌, slice_index}
use Rattle.lists.specs.Tabulation.{tab, chunks}
use Rattle.lists.specs.HalfBytes.{half_byte}
use Rattle.lists.specs.Blocks.{block_length}
use Rattle.cipher.specs.Lengths.{coding_length, set_length}

-- f sends the numbers below n to numbers below m, no two to the same
pub record OneToOne (n m : ℕ) (f : ℕ → ℕ) : Type 0 where
  pub low : (i : ℕ) → i < n → f i < m
  pub once : (i k : ℕ) → i < n → k < n → f i ≡ f k → i ≡ k

-- what a coding (01's term) must be: a permutation of 0 to 15. The coding f sends v to f v
abbrev pub Permutation : (ℕ → ℕ) → Type 0
Permutation f = OneToOne 16 16 f

-- the first place below n where f has the value v, or n where it has it nowhere
unfoldable pub place_of : (ℕ → ℕ) → ℕ → ℕ → ℕ
place_of f zero v = zero
place_of f (suc n) v = cond (f zero == v) zero (suc (place_of (λ i. f (suc i)) n v))

-- a value decoded: the number that the coding f sends to it
unfoldable pub decode : (ℕ → ℕ) → ℕ → ℕ
decode f v = place_of f 16 v

-- a set (01's term): a coding S w j for each half byte j of each word w of a block
abbrev pub Set : Type 0
Set = ℕ → ℕ → ℕ → ℕ

-- what a set must be: 32 permutations
abbrev pub Permutations : Set → Type 0
Permutations S = (w j : ℕ) → w < 4 → j < 8 → Permutation (S w j)

-- word `to` of the set S' is coded as word `from` of the set S
abbrev pub SameWord : ℕ → ℕ → Set → Set → Type 0
SameWord from to S S' = (j v : ℕ) → j < 8 → v < 16 → S' to j v ≡ S from j v

-- where codings lie in bytes s, one after another and 16 bytes each: what coding k sends v to
abbrev pub coding_at : List ℕ → ℕ → ℕ → ℕ
coding_at s k v = slice_index s (coding_length * k + v)

-- the first n codings in s are permutations
abbrev pub FirstPermutations : ℕ → List ℕ → Type 0
FirstPermutations n s = (k : ℕ) → k < n → Permutation (coding_at s k)

-- the set that lies in s: half byte j of word w has coding 8w + j
abbrev pub set_of : List ℕ → Set
set_of s w j = coding_at s (8 * w + j)

-- the bytes of the set in s are half bytes, as those of permutations are
abbrev pub LowSet : List ℕ → Type 0
LowSet s = (i : ℕ) → i < set_length → slice_index s i < 16

-- byte k of a block, x, coded by the set in s: codings 2k and 2k + 1 serve its halves
abbrev pub byte_coded : List ℕ → ℕ → ℕ → ℕ
byte_coded s k x = slice_index s (32 * k + x % 16) + 16 * slice_index s (32 * k + 16 + x / 16 % 16)

-- half byte j of word w of a block, counted 8w + j: each byte holds two, the even one low
unfoldable pub block_half : List ℕ → ℕ → ℕ → ℕ
block_half b w j = half_byte (slice_index b (4 * w + j / 2)) (j % 2)

-- the block whose half byte j of word w is x w j
unfoldable pub of_halves : (ℕ → ℕ → ℕ) → List ℕ
of_halves x = tab block_length (λ k. x (k / 4) (2 * (k % 4)) + 16 * x (k / 4) (2 * (k % 4) + 1))

-- a block coded, and decoded, by a set: each half byte by its own coding
unfoldable pub coded : Set → List ℕ → List ℕ
coded S b = of_halves (λ w j. S w j (block_half b w j))

unfoldable pub decoded : Set → List ℕ → List ℕ
decoded S b = of_halves (λ w j. decode (S w j) (block_half b w j))

-- the first n codings in s inverted, each in its place: what it sends to v stands at v
unfoldable pub inverted : ℕ → List ℕ → List ℕ
inverted n s = chunks n (λ k. tab coding_length (decode (coding_at s k)))
