-- A reading round byte by byte: the inner functions' own words for the definitions of `Rattle.reading.specs.Tables`.
use Rattle.std.specs.Prelude.{List, ℕ, ◌+◌, ◌*◌, ◌%◌, ◌<◌, get_or}
use Rattle.cipher.specs.Lengths.{turn_length}
use Rattle.cipher.specs.Coding.{block_half}
use Rattle.reading.specs.Tables.{turned_at}
use Rattle.table_reader.specs.Reading.{TwoIs, three_words}
use Rattle.reader.specs.declared.round.ByteOfEach.{ByteOfEach}

-- half bytes j and j + 1, mod 8, of word i of a block b as one byte, the first one low
abbrev pub pair_of : List ℕ → ℕ → ℕ → ℕ
pair_of b i j = block_half b i (j % 8) + 16 * block_half b i ((j + 1) % 8)

-- half byte j of word i turned by the turn tables in t from the half bytes j + v and j + v + 1, and byte m
unfoldable pub turned_half : List ℕ → List ℕ → ℕ → ℕ → ℕ → ℕ
turned_half t b i j v = get_or t (turn_length * (8 * i + j) + pair_of b i (j + v)) 0 % 16

unfoldable pub turned_byte : List ℕ → List ℕ → ℕ → ℕ → ℕ → ℕ
turned_byte t b i m v = turned_half t b i (2 * m) v + 16 * turned_half t b i (2 * m + 1) v

-- the words 0 to 2 of a block b turned back by the tables in t
abbrev pub turned_bytes : List ℕ → List ℕ → List ℕ
turned_bytes t b = three_words (turned_at t b)

-- the borrows of three bytes are bits
abbrev pub Bits : ByteOfEach → Type 0
Bits r = (r.word1.carry < 2) × (r.word2.carry < 2) × (r.word3.carry < 2)

-- r has byte m of three differences, read two half bytes at a time from the subtract tables in t, in front of which 12 of their length
-- would stand: each takes from a turned word in s what the one before it gave, the first x, and the borrow of its byte before, in o
pub record EachIs (t s : List ℕ) (m x : ℕ) (o r : ByteOfEach) : Type 0 where
  pub first : TwoIs t (12 + 2 * m) o.word1.carry (get_or s m 0) x r.word1.sum r.word1.carry
  pub second : TwoIs t (12 + 2 * m + 8) o.word2.carry (get_or s (m + 4) 0) r.word1.sum r.word2.sum r.word2.carry
  pub third : TwoIs t (12 + 2 * m + 16) o.word3.carry (get_or s (m + 8) 0) r.word2.sum r.word3.sum r.word3.carry
