-- Sealed blocks read by a reading book of r rounds, and what of LEA the first of its rounds undo (document 02, 2026-01).
use mathlib.Core.List.{List, map, flatten}
use Rattle.std.specs.Prelude.{ℕ, zero, suc}
use Rattle.lists.specs.Blocks.{block_of, block_before, blocks, each_after}
use Rattle.cipher.specs.Lea.{unround}
use Rattle.cipher.specs.Coding.{Set, decoded}
use Rattle.cipher.specs.Tables.{table_fold}
use Rattle.reading.specs.Tables.{read_rounds}
use Rattle.reading.specs.Book.{row_back, reading_round_at, reading_group_at}

-- the last n of r rounds undone, on four words
unfoldable pub undone_last : List (List ℕ) → ℕ → ℕ → List ℕ → List ℕ
undone_last rows r zero x = x
undone_last rows r (suc n) x = unround (row_back r rows n) (undone_last rows r n x)

-- a sealed block c goes through the rounds, and the block before it is folded in: the result is coded by U
unfoldable pub read_block : List ℕ → ℕ → List ℕ → List ℕ → List ℕ
read_block bk r before c = table_fold (reading_group_at r bk) (read_rounds (reading_round_at bk) r c) before

-- sealed blocks one after another, the IV before the first
abbrev pub read_blocks : List ℕ → ℕ → List ℕ → List (List ℕ) → List (List ℕ)
read_blocks bk r iv cs = each_after (read_block bk r) iv cs

-- a sealed text read, coded by U; and a coded text opened by a set
unfoldable pub read_text : List ℕ → ℕ → List ℕ → List ℕ → List ℕ
read_text bk r iv sealed = flatten (read_blocks bk r iv (blocks sealed))

unfoldable pub text_opened : Set → List ℕ → List ℕ
text_opened U text = flatten (map (decoded U) (blocks text))

-- as a loop goes: block k read
unfoldable pub read_at : List ℕ → ℕ → List ℕ → List ℕ → ℕ → List ℕ
read_at bk r iv sealed k = read_block bk r (block_before iv sealed k) (block_of sealed k)
