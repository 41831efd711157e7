-- A sealed text opened block by block, where f decodes a block, under any rows: inner functions' own words for `opened_text`.
use Rattle.std.specs.Prelude.{List, ℕ}
use Rattle.lists.specs.Blocks.{xor_block, block_of, block_before}
use Rattle.cipher.specs.Lea.{undone_rounds}

-- block k opened
unfoldable pub opened_block : List (List ℕ) → ℕ → (List ℕ → List ℕ) → List ℕ → List ℕ → ℕ → List ℕ
opened_block rows r f iv text k = xor_block (undone_rounds rows r (f (block_of text k))) (f (block_before iv text k))
