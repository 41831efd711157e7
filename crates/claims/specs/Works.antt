-- The works makes its own chains (document 02, 2026-03): whatever the random bytes, a chain that was made is one that the builder takes, and
-- its book does all that demand 3 asks; and a reading chain that was made from the archive's set goes with it, as 2026-01 wants it.
use Rattle.std.specs.Prelude.{◌≡◌, List, ℕ, ◌≤◌, length, take, Some}
use Rattle.lists.specs.Blocks.{Bytes, block_length}
use Rattle.cipher.specs.KeySize.{book_length, chain_length}
use Rattle.cipher.specs.Lengths.{longest_message}
use Rattle.cipher.specs.Schedules.{schedule_found}
use Rattle.cipher.specs.Chain.{Chain}
use Rattle.cipher.specs.Answers.{key_size, chain_checked}
use Rattle.cipher.specs.declared.schedules.Schedule.{Schedule}
use Rattle.reading.specs.Chain.{ReadingChain}
use Rattle.reading.specs.Book.{reading_book_length}
use Rattle.reading_book.specs.Answers.{reading_chain_checked}
use Rattle.maker.specs.Answers.{make_answer, make_reading_answer}
use Rattle.claims.specs.Built.{Built, book_in, archive_set}
use Rattle.claims.specs.Demand3.{BuiltDemand3}
use Rattle.claims.specs.Review.{ReadingBuilt, reading_book_in, first_set, Reviewed, BuiltShows}

-- making a chain for a key into `out`, or a reading chain with a given set 0, answers 0, tells k bytes and leaves the buffer `held`
abbrev pub Made : List ℕ → List ℕ → List ℕ → ℕ → List ℕ → Type 0
Made key random out k held = make_answer (length key) random out ≡ ((0, k), held)

abbrev pub ReadingMade : List ℕ → List ℕ → List ℕ → List ℕ → ℕ → List ℕ → Type 0
ReadingMade key set random out k held = make_reading_answer (length key) set random out ≡ ((0, k), held)

-- the chain in a buffer, for a key
abbrev pub chain_in : List ℕ → List ℕ → List ℕ
chain_in key held = take (chain_length (key_size key)) held

-- a chain that is valid, as the check tells, and of which by either schedule a book is built that does what demand 3 asks
pub record ChainTaken (key ch : List ℕ) : Type 0 where
  pub valid : Chain (key_size key) ch
  pub checked : chain_checked (length key) ch ≡ 0
  pub books : (schedule : ℕ) (k : Schedule) → schedule_found schedule ≡ Some k → (out : List ℕ) → book_length (key_size key) ≤ length out
      → BuiltDemand3 schedule key ch out

-- the same of a reading chain, whose set 0 is the set s, and of which by either schedule a reading book is built that shows what the archive opens
pub record ReadingTaken (key s ch : List ℕ) : Type 0 where
  pub valid : ReadingChain (key_size key) ch
  pub checked : reading_chain_checked (length key) ch ≡ 0
  pub first : first_set ch ≡ s
  pub books : (schedule : ℕ) (k : Schedule) → schedule_found schedule ≡ Some k → (out : List ℕ) → reading_book_length (key_size key) ≤ length out
      → BuiltShows schedule key ch out

pub record WorksLaws : Type 0 where
  pub chains : (key random out held : List ℕ) (k : ℕ) → Bytes key → Made key random out k held → (k ≤ length random) × ChainTaken key (chain_in key held)
  pub reading_chains : (key set random out held : List ℕ) (k : ℕ) → Bytes key → ReadingMade key set random out k held
      → (k ≤ length random) × ReadingTaken key set (chain_in key held)
  -- what the book of a chain that was made seals, the reading book of a reading chain that was made from the archive's set shows: the padded message
  pub reviews : (key random out held random' out' held' : List ℕ) (k k' : ℕ) → Bytes key → Made key random out k held
      → ReadingMade key (archive_set key (chain_in key held)) random' out' k' held' → (schedule : ℕ) (bout bheld rout rheld : List ℕ) → Built schedule key (chain_in key held) bout bheld
      → ReadingBuilt schedule key (chain_in key held') rout rheld → (m iv : List ℕ) → Bytes m → length m ≤ longest_message → length iv ≡ block_length
      → Reviewed key (chain_in key held) (chain_in key held') (book_in key bheld) (reading_book_in key rheld) iv m
  -- the archive's set of a chain that was made is never refused
  pub sets : (key random out held random' out' : List ℕ) (k : ℕ) → Made key random out k held
      → ((make_reading_answer (length key) (archive_set key (chain_in key held)) random' out').0.0 ≡ 2 → ⊥)
      × ((make_reading_answer (length key) (archive_set key (chain_in key held)) random' out').0.0 ≡ 3 → ⊥)
