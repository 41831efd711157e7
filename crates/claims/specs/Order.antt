-- Lowest number first (document 01, "Refusals from the input" and "from the state"), where document 02 gives its numbers no other place:
-- the refusals of every operation go by one order of the numbers; those of an ink file at each record.
use Rattle.std.specs.Prelude.{Bool, List, ◌++◌, ℕ}
use Rattle.lists.specs.Refusals.{GoesBy}
use Rattle.cipher.specs.KeySize.{book_length}
use Rattle.cipher.specs.Lengths.{round_length}
use Rattle.cipher.specs.Refusal.{refusal_order}
use Rattle.cipher.specs.Chain.{set_tests}
use Rattle.cipher.specs.Answers.{key_tests, key_block_tests, chain_check_tests, room_tests}
use Rattle.book.specs.Answers.{build_tests, build_tests_by}
use Rattle.reading.specs.Book.{reading_book_length}
use Rattle.reading_book.specs.Answers.{reading_chain_check_tests}
use Rattle.reader.specs.Answers.{read_tests}
use Rattle.pad.specs.Answers.{coding_tests}
use Rattle.driver.specs.Driver.{book_tests, run_round_tests, run_rounds_tests, seal_tests, block_call_tests, last_call_tests}
use Rattle.driver.specs.declared.session.Session.{Session}
use Rattle.archive.specs.Archive.{all_open_tests, check_tests}
use Rattle.inkfile.specs.Kinds.{kind_tests}
use Rattle.inkfile.specs.Reading.{record_tests}
use Rattle.maker.specs.Answers.{make_tests, make_reading_tests}
use Rattle.claims.specs.Model.{Call, State, refusals}

-- of the numbers whose conditions hold, the one that stands first in the order is given, and none where no condition holds
abbrev pub InOrder : List (Bool × ℕ) → Type 1
InOrder ts = GoesBy refusal_order ts

-- one field of an ink file, record k with a kind byte and n bytes, and after it a buffer for `length` bytes
abbrev pub field_tests : ℕ → ℕ → ℕ → ℕ → List ℕ → List (Bool × ℕ)
field_tests k kind n length out = kind_tests k kind n ++ room_tests length out

-- each operation, by the list of tests that the definition of its answer names
pub record Order : Type 1 where
  -- the block cipher, by either schedule: enciphering, deciphering and the first rounds; and the round keys
  pub on_block : (schedule : ℕ) (key b : List ℕ) → InOrder (key_block_tests schedule key b)
  pub round_keys : (schedule : ℕ) (key : List ℕ) → InOrder (key_tests schedule key)
  -- the checks of a lone set, and of a chain for a key of n bytes
  pub check_set : (s : List ℕ) → InOrder (set_tests s)
  pub check_chain : (n : ℕ) (ch : List ℕ) → InOrder (chain_check_tests n ch)
  -- the chain maker, for a key of n bytes
  pub making : (n : ℕ) (random out : List ℕ) → InOrder (make_tests n random out)
  pub making_reading : (n : ℕ) (set random out : List ℕ) → InOrder (make_reading_tests n set random out)
  -- the builder
  pub building : (schedule : ℕ) (key ch out : List ℕ) → InOrder (build_tests schedule key ch out book_length)
  pub build_round : (schedule : ℕ) (key ch out : List ℕ) → InOrder (build_tests schedule key ch out (λ z. round_length))
  -- reading tables: the check of a reading chain, the builder, and reading
  pub check_reading_chain : (n : ℕ) (ch : List ℕ) → InOrder (reading_chain_check_tests n ch)
  pub building_reading : (schedule : ℕ) (key ch out : List ℕ) → InOrder (build_tests_by 3 0 schedule key ch out reading_book_length)
  pub reading : (bk iv sealed out : List ℕ) → InOrder (read_tests bk iv sealed out)
  -- ink files: at a record of a file, and at one of a writer's fields with the buffer after it. Of several records the first at fault
  -- decides (`InkLaws` of inkfile)
  pub ink_record : (file : List ℕ) (k at : ℕ) → InOrder (record_tests file k at)
  pub ink_field : (k kind n length : ℕ) (out : List ℕ) → InOrder (field_tests k kind n length out)
  -- the pad, for sealing and for a tag: a message of n bytes, of which `total` are written into a buffer of `room` bytes
  pub code : (u : List ℕ) (n total room : ℕ) → InOrder (coding_tests u n total room)
  -- the driver
  pub run_round : (t b : List ℕ) → InOrder (run_round_tests t b)
  pub run_rounds : (bk b : List ℕ) → InOrder (run_rounds_tests bk b)
  pub sealing : (bk iv coded out : List ℕ) → InOrder (seal_tests bk iv coded out)
  pub beginning : (bk : List ℕ) → InOrder (book_tests bk)
  pub at_block_call : (bk m : List ℕ) (s : Session) → InOrder (block_call_tests bk m s)
  pub at_last_call : (bk m : List ℕ) (k : ℕ) (s : Session) → InOrder (last_call_tests bk m k s)
  -- the archive
  pub opening : (schedule : ℕ) (key set iv sealed out : List ℕ) → InOrder (all_open_tests schedule key set iv sealed out)
  pub checking : (schedule : ℕ) (key set message tag : List ℕ) → InOrder (check_tests schedule key set message tag)
  -- the model session
  pub model : (c : Call) (s : State) → InOrder (refusals c s)
