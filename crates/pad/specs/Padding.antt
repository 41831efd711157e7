-- How the pad (document 01's term; "Pad, driver, archive", the pad's paragraph) pads a message and codes what it has padded.
use Rattle.std.specs.Prelude.{◌≡◌, Bool, cond, not, ◌&&◌, ℕ, ◌+◌, ◌-◌, ◌%◌, ◌≤◌, ◌<◌, eqb, length, get_or, take, replicate}
use mathlib.Core.List.{List, [], ◌∷◌, ◌++◌, map, flatten}
use Rattle.lists.specs.Blocks.{blocks, block_length}
use Rattle.cipher.specs.Coding.{Set, coded, decoded}

-- ---- for sealing (document 01, "Papers": PKCS#7)

-- how many bytes are added to n: what leads to the end of the next block, 1 to 16
abbrev pub sealing_added : ℕ → ℕ
sealing_added n = block_length - n % block_length

-- each added byte says how many they are
unfoldable pub padded_for_sealing : List ℕ → List ℕ
padded_for_sealing m = m ++ replicate (sealing_added (length m)) (sealing_added (length m))

-- the last byte of a text
abbrev pub last_byte : List ℕ → ℕ
last_byte text = get_or text (length text - 1) 0

-- the text ends in such padding, by what refusal 11 asks of an opened text: its last byte v is 1 to 16, and so many bytes at
-- its end are all v
pub record SealingPadded (text : List ℕ) : Type 0 where
  pub some : 1 ≤ last_byte text
  pub most : last_byte text ≤ block_length
  pub room : last_byte text ≤ length text
  pub all : (k : ℕ) → k < last_byte text → get_or text (length text - last_byte text + k) 0 ≡ last_byte text

-- the padding taken off
unfoldable pub stripped : List ℕ → List ℕ
stripped text = take (length text - last_byte text) text

-- ---- for a tag ("Pad, driver, archive")

-- a message of n bytes fills whole blocks and is not empty
unfoldable pub fills_blocks : ℕ → Bool
fills_blocks n = not (eqb n 0) && eqb (n % block_length) 0

-- the kind (01's term) of a message of n bytes: 0 where it needs no padding, else 1
unfoldable pub kind_of : ℕ → ℕ
kind_of n = cond (fills_blocks n) 0 1

-- how many bytes are added to n
unfoldable pub tag_added : ℕ → ℕ
tag_added n = cond (fills_blocks n) 0 (block_length - n % block_length)

-- nothing is added to kind 0; else hex 80, and zeros to the end of the block
unfoldable pub padded_for_tag : List ℕ → List ℕ
padded_for_tag m = m ++ cond (fills_blocks (length m)) [] (0x80 ∷ replicate (15 - length m % block_length) 0)

-- ---- coded ("Chain of codings": each half byte of a block by its own coding)

-- a text of whole blocks, each of them coded, and decoded, by the set S
unfoldable pub coded_text : Set → List ℕ → List ℕ
coded_text S text = flatten (map (coded S) (blocks text))

unfoldable pub decoded_text : Set → List ℕ → List ℕ
decoded_text S text = flatten (map (decoded S) (blocks text))
