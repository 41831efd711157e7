-- What the operations on a key and a block answer: the number of a refusal and zeros, or 0 and what was asked for. And what
-- the checks of sets and chains answer: the number of a refusal, or 0.
use Rattle.std.specs.Prelude.{ℕ, ◌%◌, Bool, cond, not, ◌||◌, List, [], ◌∷◌, ◌++◌, length, ◌==◌, nat_le, nat_lt, slice_index_or, Result, Ok, Err}
use Rattle.lists.specs.Blocks.{zeros, block_length}
use Rattle.lists.specs.Refusals.{first}
use Rattle.cipher.specs.KeySize.{rounds}
use Rattle.cipher.specs.Lengths.{longest_code}
use Rattle.cipher.specs.Refusal.{number_of}
use Rattle.words.specs.Rows.{blank}
use Rattle.cipher.specs.Schedules.{key_rows}
use Rattle.cipher.specs.Lea.{first_rounds, encipher, decipher}
use Rattle.cipher.specs.Chain.{set_tests, chain_tests}
use Rattle.cipher.specs.declared.size.KeySize.{KeySize}
use Rattle.cipher.specs.declared.size.KeySize.TheVariants.{Bytes16, Bytes24, Bytes32}
use Rattle.cipher.specs.declared.schedules.Schedule.{Schedule}
use Rattle.cipher.specs.declared.schedules.Schedule.TheVariants.{Lea, WfLea}
use Rattle.cipher.specs.declared.refusal.Refusal.{Refusal}

-- an answer as a number and a value: zeros where it was refused
abbrev pub block_told : Result (List ℕ) Refusal → ℕ × List ℕ
block_told (Ok b) = (0, b)
block_told (Err q) = (number_of q, zeros)

abbrev pub row_told : Result (List ℕ) Refusal → ℕ × List ℕ
row_told (Ok k) = (0, k)
row_told (Err q) = (number_of q, blank)

-- refusal 1: a key of no known size. Refusal 7: a block that is not of 16 bytes
abbrev pub key_length_tests : ℕ → List (Bool × ℕ)
key_length_tests n = (not (n == 16 || n == 24 || n == 32), 1) ∷ []

-- refusal 34 (document 02, 2026-07), before all others: a schedule's number other than 0 and 1
abbrev pub schedule_tests : ℕ → List (Bool × ℕ)
schedule_tests s = (not (s == 0 || s == 1), 34) ∷ []

-- the tests of schedule and key: 34, then 1
abbrev pub key_tests : ℕ → List ℕ → List (Bool × ℕ)
key_tests s key = schedule_tests s ++ key_length_tests (length key)

abbrev pub block_tests : List ℕ → List (Bool × ℕ)
block_tests b = (not (length b == block_length), 7) ∷ []

-- refusal 8 for what is sealed or opened: input that is empty, over 1,048,576 bytes, or not of whole blocks
unfoldable pub bad_text : ℕ → Bool
bad_text n = n == 0 || nat_lt longest_code n || not (n % block_length == 0)

abbrev pub text_tests : List ℕ → List (Bool × ℕ)
text_tests t = (bad_text (length t), 8) ∷ []

-- refusal 9: a buffer shorter than the n bytes that are written
abbrev pub room_tests : ℕ → List ℕ → List (Bool × ℕ)
room_tests n out = (nat_lt (length out) n, 9) ∷ []

-- the schedule of a number, and the size of a key, that is not refused
unfoldable pub schedule_of : ℕ → Schedule
schedule_of s = cond (s == 0) Lea WfLea

unfoldable pub key_length_size : ℕ → KeySize
key_length_size n = cond (n == 16) Bytes16 (cond (n == 24) Bytes24 Bytes32)

abbrev pub key_size : List ℕ → KeySize
key_size key = key_length_size (length key)

-- the refusals of an operation on a key and a block
abbrev pub key_block_tests : ℕ → List ℕ → List ℕ → List (Bool × ℕ)
key_block_tests s key b = key_tests s key ++ block_tests b

-- what `f` makes of a block, where schedule, key and block are not refused
unfoldable pub on_block : ℕ → List ℕ → List ℕ → (Schedule → KeySize → List ℕ) → ℕ × List ℕ
on_block s key b f = first (key_block_tests s key b) (λ n. (n, zeros)) (0, f (schedule_of s) (key_size key))

abbrev pub encipher_answer : ℕ → List ℕ → List ℕ → ℕ × List ℕ
encipher_answer s key b = on_block s key b (λ k z. encipher k z key b)

abbrev pub decipher_answer : ℕ → List ℕ → List ℕ → ℕ × List ℕ
decipher_answer s key b = on_block s key b (λ k z. decipher k z key b)

-- the first n rounds, all of them where n is more
abbrev pub rounds_answer : ℕ → List ℕ → ℕ → List ℕ → ℕ × List ℕ
rounds_answer s key n b = on_block s key b (λ k z. first_rounds (key_rows k z key) (cond (nat_le n (rounds z)) n (rounds z)) b)

-- the round keys of round l mod r
abbrev pub row_answer : ℕ → List ℕ → ℕ → ℕ × List ℕ
row_answer s key l = first (key_tests s key) (λ n. (n, blank)) (0, slice_index_or (key_rows (schedule_of s) (key_size key) key) (l % rounds (key_size key)) [])

-- what the checks of a lone set, and of a chain for a key of n bytes, answer (document 01, "Refusals from the input")
abbrev pub set_checked : List ℕ → ℕ
set_checked s = first (set_tests s) (λ q. q) 0

abbrev pub chain_check_tests : ℕ → List ℕ → List (Bool × ℕ)
chain_check_tests n ch = key_length_tests n ++ chain_tests (key_length_size n) ch

abbrev pub chain_checked : ℕ → List ℕ → ℕ
chain_checked n ch = first (chain_check_tests n ch) (λ q. q) 0
