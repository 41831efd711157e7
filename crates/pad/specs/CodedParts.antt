-- How the code goes about the coding of a text: part by part, and byte by byte in a part. Only inner functions promise this;
-- `CodedPartLaws` says that it is the coding of blocks.
use Rattle.std.specs.Prelude.{List, ℕ, ◌+◌, ◌%◌, length, get_or}
use Rattle.lists.specs.Blocks.{block_length}
use Rattle.lists.specs.Tabulation.{tab}

-- a part of a text, which begins at byte `from` of it, where byte v at place k becomes f k v
unfoldable pub coded_part : (ℕ → ℕ → ℕ) → ℕ → List ℕ → List ℕ
coded_part f from part = tab (length part) (λ i. f ((from + i) % block_length) (get_or part i 0))
