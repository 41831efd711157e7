-- What is built (document 01, "The model session of demand 3"): a key and a chain with which building, told the number of a schedule (02,
-- 2026-07), answers 0, the book that the buffer then holds, and the two sets of the chain that come alone.
use Rattle.std.specs.Prelude.{◌≡◌, List, ℕ, suc, ◌*◌, take, drop}
use Rattle.cipher.specs.KeySize.{rounds, book_length}
use Rattle.cipher.specs.Lengths.{set_length}
use Rattle.cipher.specs.Answers.{key_size}
use Rattle.book.specs.Answers.{build_answer}

-- building into `out` answers 0 and leaves the buffer `held`
abbrev pub Built : ℕ → List ℕ → List ℕ → List ℕ → List ℕ → Type 0
Built schedule key ch out held = build_answer schedule key ch out ≡ (0, held)

-- the book in a buffer, for a key
abbrev pub book_in : List ℕ → List ℕ → List ℕ
book_in key held = take (book_length (key_size key)) held

-- the rounds for a key
abbrev pub key_rounds : List ℕ → ℕ
key_rounds key = rounds (key_size key)

-- the message set, which the pad gets, and set r, which the archive gets
abbrev pub pad_set : List ℕ → List ℕ
pad_set ch = take set_length ch

abbrev pub archive_set : List ℕ → List ℕ → List ℕ
archive_set key ch = take set_length (drop (set_length * suc (key_rounds key)) ch)
