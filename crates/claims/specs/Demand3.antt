-- Demand 3 whole (document 01, "The model session of demand 3"), for a key, a chain and the book bk that is built from them. LEA is the
-- rounds over the rows of the schedule told, the same for builder, model and archive (02, 2026-07). The pad gets the chain's message set
-- U, the archive its set r; what the calls answer are the definitions that the contracts of the running functions name.
use Rattle.std.specs.Prelude.{◌≡◌, List, ℕ, ◌≤◌, length, take}
use Rattle.lists.specs.Blocks.{Bytes, blocks, block_length}
use Rattle.cipher.specs.Lengths.{longest_message}
use Rattle.cipher.specs.Schedules.{Named, key_rows}
use Rattle.cipher.specs.Lea.{first_rounds, encipher}
use Rattle.cipher.specs.Coding.{set_of, decoded}
use Rattle.cipher.specs.Chain.{message_set, chain_set, Chain}
use Rattle.cipher.specs.Answers.{schedule_of, key_size}
use Rattle.cipher.specs.KeySize.{book_length}
use Rattle.cipher.specs.declared.size.KeySize.{KeySize}
use Rattle.cipher.specs.declared.schedules.Schedule.{Schedule}
use Rattle.pad.specs.Answers.{tag_answer}
use Rattle.driver.specs.Driver.{run_rounds_answer, begun_over}
use Rattle.driver.specs.declared.session.Session.{Session}
use Rattle.claims.specs.Model.{Call, Answer}
use Rattle.claims.specs.Calls.{driver_answers, Lent, model_answers, calls_of, message_calls, accepted_calls}
use Rattle.claims.specs.Built.{Built, book_in, key_rounds, pad_set, archive_set}
use Rattle.claims.specs.Tags.{OneTag}
use Rattle.claims.specs.Sealing.{SealedWay}

-- a block b by the first n rounds of the book is not refused, and what comes out, decoded by set n, is LEA's first n rounds, by
-- the rows, of b decoded by set 0
abbrev pub RoundsOfLea : List (List ℕ) → List ℕ → List ℕ → ℕ → List ℕ → Type 0
RoundsOfLea rows ch bk n b =
    ((run_rounds_answer bk n b).0 ≡ 0) × (decoded (chain_set ch n) (run_rounds_answer bk n b).1 ≡ first_rounds rows n (decoded (chain_set ch 0) b))

-- the calls of a message under the chain's message set
abbrev pub calls_under : List ℕ → List ℕ → List Call
calls_under ch m = message_calls (set_of (pad_set ch)) m

-- a lent session s, of which beginning said q: it was not refused, and every list of calls on it answers as the model
abbrev pub LentLikeModel : ℕ → List ℕ → List ℕ → List ℕ → ℕ → Session → Type 0
LentLikeModel schedule key ch bk q s =
    (q ≡ 0) × ((cs : List Call) (rs : List Answer) → Lent bk s cs rs → rs ≡ model_answers (encipher (schedule_of schedule) (key_size key) key) (message_set ch) (chain_set ch (key_rounds key)) cs)

pub record Demand3 (schedule : ℕ) (key ch bk : List ℕ) : Type 0 where
  -- the rounds, n from 1 to r
  pub after_rounds : (b : List ℕ) → length b ≡ block_length → (n : ℕ) → 1 ≤ n → n ≤ key_rounds key → RoundsOfLea (key_rows (schedule_of schedule) (key_size key) key) ch bk n b
  -- lists of calls: all answers of the driver, in their order, are the model's
  pub session : (cs : List Call) → driver_answers bk cs ≡ model_answers (encipher (schedule_of schedule) (key_size key) key) (message_set ch) (chain_set ch (key_rounds key)) cs
  -- and on a session that is lent, whatever it held before it was begun
  pub lent : (s₀ s : Session) (q : ℕ) → (q, s) ≡ begun_over bk s₀ → LentLikeModel schedule key ch bk q s
  -- every list of calls of which a message's are the accepted ones gives its tag
  pub tag : (m : List ℕ) → Bytes m → length m ≤ longest_message → (cs : List Call) → accepted_calls cs (driver_answers bk cs) ≡ calls_under ch m
      → OneTag schedule key (archive_set key ch) m (driver_answers bk cs)
  -- the plain list of a message's calls is one such list
  pub taken : (m : List ℕ) → Bytes m → length m ≤ longest_message → accepted_calls (calls_under ch m) (driver_answers bk (calls_under ch m)) ≡ calls_under ch m
  -- and it is made of what the pad writes: n bytes of the buffer, and the kind k
  pub coded : (m : List ℕ) → length m ≤ longest_message → (o held : List ℕ) (n k : ℕ) → tag_answer (pad_set ch) m o ≡ ((0, (n, k)), held)
      → calls_of k (blocks (take n held)) ≡ calls_under ch m
  -- the sealed file opens to the message
  pub seal : (m iv : List ℕ) → Bytes m → length m ≤ longest_message → length iv ≡ block_length → SealedWay schedule key (pad_set ch) (archive_set key ch) bk iv m

-- what is built for a key and a chain into a buffer: building answers 0, the buffer then holds a book, and demand 3 holds of it
pub record BuiltDemand3 (schedule : ℕ) (key ch out : List ℕ) : Type 0 where
  pub held : List ℕ
  pub built : Built schedule key ch out held
  pub holds : Demand3 schedule key ch (book_in key held)

-- demand 3 for either schedule, any key and any chain: every key of bytes of a known size, every valid chain for it, every buffer with
-- room for a book
abbrev pub Demand3ForAll : Type 0
Demand3ForAll =
    (schedule : ℕ) (k : Schedule) (z : KeySize) (key ch out : List ℕ) → Named schedule key k z → Bytes key → Chain z ch → book_length z ≤ length out
    → BuiltDemand3 schedule key ch out
