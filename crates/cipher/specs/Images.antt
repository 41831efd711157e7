-- Coding by one look-up: what each byte becomes in each place of a block is worked out once. Only inner functions promise this;
-- `ImageLaws` says that it is the coding of blocks.
use Rattle.std.specs.Prelude.{ℕ, ◌+◌, ◌*◌, ◌/◌, ◌%◌, List, slice_index}
use Rattle.lists.specs.Tabulation.{tab}
use Rattle.lists.specs.Blocks.{block_length}
use Rattle.cipher.specs.Lengths.{place_length, images_length}
use Rattle.cipher.specs.Coding.{byte_coded}

-- what the bytes become by the set in s: byte v at place k of a block stands at 256k + v
unfoldable pub images_of : List ℕ → List ℕ
images_of s = tab images_length (λ i. byte_coded s (i / place_length) (i % place_length))

-- byte v at place k, looked up in such a table
abbrev pub image_at : List ℕ → ℕ → ℕ → ℕ
image_at t k v = slice_index t (place_length * k + v)

-- a block coded by such a table
unfoldable pub imaged : List ℕ → List ℕ → List ℕ
imaged t b = tab block_length (λ k. image_at t k (slice_index b k))
