-- Lengths in bytes that are the same for all key sizes, each by one name: of the parts of a chain (document 01, "Chain of codings"), of
-- the parts of a book ("Book"), and what refusal 8 allows ("Refusals from the input"). A block's is in `lists`.  docs/FORMAT.md shows where they stand.
use Rattle.std.specs.Prelude.{ℕ, ◌+◌, ◌*◌}

-- the longest message, and the most bytes that are sealed or opened
abbrev pub longest_message : ℕ
longest_message = 1048575

abbrev pub longest_code : ℕ
longest_code = 1048576

-- a coding, the codings of one word, and a set
abbrev pub coding_length : ℕ
coding_length = 16

abbrev pub word_length : ℕ
word_length = 128

abbrev pub set_length : ℕ
set_length = 512

-- what a chain has for a round: its 24 middle codings, and these with the 24 masks after them
abbrev pub middles_length : ℕ
middles_length = 384

abbrev pub round_codings_length : ℕ
round_codings_length = 408

-- an add table, a turn table and a fold table
abbrev pub add_length : ℕ
add_length = 512

abbrev pub turn_length : ℕ
turn_length = 256

abbrev pub fold_length : ℕ
fold_length = 256

-- a round's add tables, after which its turn tables stand, and all of its tables
abbrev pub adds_length : ℕ
adds_length = 12288

abbrev pub round_length : ℕ
round_length = 18432

-- the offset of a book's body, in which all its parts stand: after the byte that states the key's length
abbrev pub body_start : ℕ
body_start = 1

-- in the body the start, a group of fold tables, and the offset of the first round
abbrev pub start_length : ℕ
start_length = 16

abbrev pub group_length : ℕ
group_length = 8192

abbrev pub rounds_start : ℕ
rounds_start = start_length + 3 * group_length

-- the table of what each byte becomes in each place of a block: one place, and all
abbrev pub place_length : ℕ
place_length = 256

abbrev pub images_length : ℕ
images_length = 4096
