-- The round program (document 01, "Table of examples", its last paragraph): the parts of its input, and what it prints for
-- any input.
use Rattle.std.specs.Prelude.{◌≡◌, Option, Some, None, Bool, not, List, [], ◌∷◌, ◌++◌, ℕ, suc, ◌+◌, ◌-◌, ◌≤◌, eqb, length, get_or, take, drop}
use Rattle.lists.specs.Blocks.{block_length}
use Rattle.lists.specs.Refusals.{first}
use Rattle.cipher.specs.KeySize.{rounds, key_length, chain_length, size_of_key}
use Rattle.cipher.specs.Schedules.{key_rows}
use Rattle.cipher.specs.Coding.{decoded}
use Rattle.cipher.specs.Tables.{table_rounds}
use Rattle.cipher.specs.Chain.{Chain, chain_set, chain_tests}
use Rattle.cipher.specs.Book.{book_round}
use Rattle.cipher.specs.Answers.{key_length_tests, key_length_size, block_tests}
use Rattle.cipher.specs.declared.size.KeySize.{KeySize}
use Rattle.cipher.specs.declared.schedules.Schedule.TheVariants.{Lea}
use Rattle.round.specs.Text.{line, refused_text}

-- ---- the rounds of a key of size z and a chain ch

-- what the rounds need of key and chain
abbrev pub Ready : KeySize → List ℕ → List ℕ → Type 0
Ready z key ch = (length key ≡ key_length z) × Chain z ch

-- the tables of round l of the book that they make by LEA's own schedule, which this program stays with (02, 2026-07)
abbrev pub tables_of : KeySize → List ℕ → List ℕ → ℕ → List ℕ
tables_of z key ch l = book_round (rounds z) (key_rows Lea z key) ch l

-- a block by the rounds 1 to n - 1, which come after round 0
abbrev pub later_rounds : KeySize → List ℕ → List ℕ → ℕ → List ℕ → List ℕ
later_rounds z key ch n x = table_rounds (λ l. tables_of z key ch (suc l)) (n - 1) x

-- the opened block after n rounds: the coded block b by the tables of n rounds, decoded by set n
abbrev pub opened_after : KeySize → List ℕ → List ℕ → ℕ → List ℕ → List ℕ
opened_after z key ch n b = decoded (chain_set ch n) (table_rounds (tables_of z key ch) n b)

-- the two lines, for round 1 and for round r; all three numbers r have two digits
unfoldable pub two_lines : KeySize → List ℕ → List ℕ → List ℕ → List ℕ
two_lines z key ch b = line 1 1 (opened_after z key ch 1 b) ++ line 2 (rounds z) (opened_after z key ch (rounds z) b)

-- ---- the input: key length byte, key, chain, coded block; later bytes are unread

-- the length byte; a missing one is read as 0, which is no length of a key
abbrev pub length_byte : List ℕ → ℕ
length_byte i = get_or i 0 0

-- of the bytes after it, as many as there are of the n of the key, and what is after those
abbrev pub key_part : ℕ → List ℕ → List ℕ
key_part n i = take n (drop 1 i)

abbrev pub after_key : ℕ → List ℕ → List ℕ
after_key n i = drop (1 + n) i

-- of what is after the key, as many as there are of the chain's bytes, and of the block's
abbrev pub chain_part : KeySize → List ℕ → List ℕ
chain_part z s = take (chain_length z) s

abbrev pub block_part : KeySize → List ℕ → List ℕ
block_part z s = take block_length (drop (chain_length z) s)

-- ---- what is printed

-- refusal 1 where bytes of the key are missing
abbrev pub key_whole : ℕ → List ℕ → List (Bool × ℕ)
key_whole n key = (not (eqb (length key) n), 1) ∷ []

-- refusals 2 to 5 of the chain, and 7 of the block
abbrev pub rest_tests : KeySize → List ℕ → List ℕ → List (Bool × ℕ)
rest_tests z ch b = chain_tests z ch ++ block_tests b

-- all of them, for an input
abbrev pub input_tests : List ℕ → List (Bool × ℕ)
input_tests i =
    let n = length_byte i in
    let z = key_length_size n in
    key_length_tests n ++ (key_whole n (key_part n i) ++ rest_tests z (chain_part z (after_key n i)) (block_part z (after_key n i)))

-- the refusal whose number is the lowest, or the two lines
unfoldable pub printed : List ℕ → List ℕ
printed i =
    let n = length_byte i in
    let z = key_length_size n in
    let key = key_part n i in
    let ch = chain_part z (after_key n i) in
    let b = block_part z (after_key n i) in
    first (input_tests i) refused_text (two_lines z key ch b)

-- the same where length byte and key are taken, from a key of size z, the chain's bytes and what is after them
unfoldable pub printed_on : KeySize → List ℕ → List ℕ → List ℕ → List ℕ
printed_on z key ch s = first (rest_tests z ch (take block_length s)) refused_text (two_lines z key ch (take block_length s))

-- and from a key and what is after it
unfoldable pub printed_after : KeySize → List ℕ → List ℕ → List ℕ
printed_after z key s = printed_on z key (chain_part z s) (drop (chain_length z) s)

-- an input that is not refused: length byte and key of size z, a valid chain, 16 bytes more
pub record Input (z : KeySize) (i : List ℕ) : Type 0 where
  pub size : size_of_key (length_byte i) ≡ Some z
  pub key : length (key_part (length_byte i) i) ≡ length_byte i
  pub chain : Chain z (chain_part z (after_key (length_byte i) i))
  pub block : block_length ≤ length (drop (chain_length z) (after_key (length_byte i) i))

-- the block that its coded block is by set 0
abbrev pub plain_block : KeySize → List ℕ → List ℕ
plain_block z i = decoded (chain_set (chain_part z (after_key (length_byte i) i)) 0) (block_part z (after_key (length_byte i) i))

-- how many bytes the program reads where the first is x
abbrev pub wanted_of : Option KeySize → ℕ
wanted_of (Some z) = 1 + key_length z + chain_length z + block_length
wanted_of None = 1

abbrev pub wanted : ℕ → ℕ
wanted x = wanted_of (size_of_key x)
