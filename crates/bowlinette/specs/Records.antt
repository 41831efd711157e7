-- Lists of calls on a session as a C caller makes them: each call gets the record as the call before it left it, and the number, the
-- record and the tag buffer after it are what the contract of the C function says.
use Rattle.std.specs.Prelude.{◌≡◌, List, [], ◌∷◌, ℕ}
use Rattle.cipher.specs.Lea.{encipher}
use Rattle.cipher.specs.Chain.{message_set, chain_set}
use Rattle.cipher.specs.Answers.{schedule_of, key_size}
use Rattle.driver.specs.Driver.{block_answer, last_answer}
use Rattle.claims.specs.Model.{Call, block_call, last_call, Answer, accepted, tag}
use Rattle.claims.specs.Calls.{answer_of, model_answers}
use Rattle.claims.specs.Built.{key_rounds}
use Rattle.bowlinette.specs.Into.{into}
use Rattle.bowlinette.specs.Session.{session_in, recorded, tag_recorded}

-- from the record b on. A call's answer is read from its number, and that of a last call that was taken from the tag buffer, which
-- held `old` before the call and holds `new` after it
pub data Recorded (bk : List ℕ) : List ℕ → List Call → List Answer → Type 0 where
  no_call : {b : List ℕ} → Recorded bk b [] []
  at_block_call : {b c m : List ℕ} {n : ℕ} {cs : List Call} {rs : List Answer} → (n, c) ≡ into (recorded (block_answer bk m (session_in b))) b
      → Recorded bk c cs rs → Recorded bk b (block_call m ∷ cs) (answer_of n accepted ∷ rs)
  at_last_call : {b c m new : List ℕ} {k n : ℕ} {cs : List Call} {rs : List Answer} (old : List ℕ)
      → (n, (new, c)) ≡ into {A = List ℕ × List ℕ} (tag_recorded (last_answer bk m k (session_in b))) (old, b)
      → Recorded bk c cs rs → Recorded bk b (last_call m k ∷ cs) (answer_of n (tag new) ∷ rs)

-- a record b, of which beginning said q: it was not refused, and every list of calls on it answers as the model
abbrev pub RecordLikeModel : ℕ → List ℕ → List ℕ → List ℕ → ℕ → List ℕ → Type 0
RecordLikeModel schedule key ch bk q b =
    (q ≡ 0) × ((cs : List Call) (rs : List Answer) → Recorded bk b cs rs → rs ≡ model_answers (encipher (schedule_of schedule) (key_size key) key) (message_set ch) (chain_set ch (key_rounds key)) cs)
