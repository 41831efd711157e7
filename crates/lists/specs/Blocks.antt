-- Bytes, and blocks of 16 of them.
use Rattle.std.specs.Prelude.{◌≡◌, List, [], ◌∷◌, ℕ, zero, suc, ◌*◌, ◌/◌, ◌<◌, length, get_or, take, drop, replicate}
use Rattle.std.specs.Int.Bits.{bit_xor}
use Rattle.lists.specs.Tabulation.{tab}

-- every number of l is below b; past its end `get_or` gives 0, so the index has no bound
abbrev pub Below : ℕ → List ℕ → Type 0
Below b l = (k : ℕ) → get_or l k 0 < b

-- every number of l is a byte
abbrev pub Bytes : List ℕ → Type 0
Bytes l = Below 256 l

-- how many bytes a block has
abbrev pub block_length : ℕ
block_length = 16

-- a block
pub record Block (b : List ℕ) : Type 0 where
  pub size : length b ≡ block_length
  pub bytes : Bytes b

-- sixteen zero bytes
abbrev pub zeros : List ℕ
zeros = replicate block_length 0

-- the xor of two blocks, byte by byte
unfoldable pub xor_block : List ℕ → List ℕ → List ℕ
xor_block a b = tab block_length (λ k. bit_xor (get_or a k 0) (get_or b k 0))

-- block k of l
abbrev pub block_of : List ℕ → ℕ → List ℕ
block_of l k = take block_length (drop (block_length * k) l)

-- what stands in front of block k of a text: the IV in front of the first
unfoldable pub block_before : List ℕ → List ℕ → ℕ → List ℕ
block_before iv text zero = iv
block_before iv text (suc k) = block_of text k

-- what g makes of each block and of the block before it, which is x for the first
unfoldable pub each_after : (List ℕ → List ℕ → List ℕ) → List ℕ → List (List ℕ) → List (List ℕ)
each_after g x [] = []
each_after g x (b ∷ bs) = g x b ∷ each_after g b bs

-- the first n blocks of l
unfoldable pub cut : ℕ → List ℕ → List (List ℕ)
cut zero l = []
cut (suc n) l = take block_length l ∷ cut n (drop block_length l)

-- the whole blocks of l, in order
unfoldable pub blocks : List ℕ → List (List ℕ)
blocks l = cut (length l / block_length) l
