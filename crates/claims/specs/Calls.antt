-- Lists of calls (document 01, "The model session of demand 3"): on the driver's session, on the model, and the list that a
-- message makes.
use Rattle.std.specs.Prelude.{◌≡◌, List, [], ◌∷◌, ℕ, zero, suc, length}
use Rattle.lists.specs.Blocks.{blocks}
use Rattle.cipher.specs.Coding.{Set}
use Rattle.pad.specs.Padding.{padded_for_tag, kind_of, coded_text}
use Rattle.driver.specs.Driver.{begin_answer, block_answer, last_answer}
use Rattle.driver.specs.declared.session.Session.{Session}
use Rattle.claims.specs.Model.{Call, block_call, last_call, Answer, accepted, tag, refused, begun, model_call}

-- the driver's number as an answer: 0 says that the call was taken
unfoldable pub answer_of : ℕ → Answer → Answer
answer_of zero a = a
answer_of (suc q) a = refused (suc q)

abbrev pub block_reply : ℕ × Session → Answer × Session
block_reply r = (answer_of r.0 accepted, r.1)

abbrev pub last_reply : (ℕ × List ℕ) × Session → Answer × Session
last_reply r = (answer_of r.0.0 (tag r.0.1), r.1)

-- a call on the driver's session, by the book
unfoldable pub driver_call : List ℕ → Call → Session → Answer × Session
driver_call bk (block_call m) s = block_reply (block_answer bk m s)
driver_call bk (last_call m k) s = last_reply (last_answer bk m k s)

-- the answers to a list of calls, in their order: each call gets what the one before it left
unfoldable pub run : {S : Type 0} → (Call → S → Answer × S) → List Call → S → List Answer
run f [] s = []
run f (c ∷ cs) s = (f c s).0 ∷ run f cs (f c s).1

-- the driver's answers: the first call gets the session that beginning with the book gives, and all calls get that book
unfoldable pub driver_answers : List ℕ → List Call → List Answer
driver_answers bk cs = run (driver_call bk) cs (begin_answer bk).1

-- calls on a session that is lent: each gets the record as the call before it left it, and what it answers and how it leaves the
-- record is what the contract of the lent call says
pub data Lent (bk : List ℕ) : Session → List Call → List Answer → Type 0 where
  none : {s : Session} → Lent bk s [] []
  then : {s t : Session} {c : Call} {cs : List Call} {a : Answer} {rs : List Answer} → (a, t) ≡ driver_call bk c s → Lent bk t cs rs → Lent bk s (c ∷ cs) (a ∷ rs)

-- the model's answers
unfoldable pub model_answers : (List ℕ → List ℕ) → Set → Set → List Call → List Answer
model_answers cipher U S cs = run (model_call cipher U S) cs begun

-- blocks as calls: the last of them, with the kind, as the last call, the others as block calls
unfoldable pub calls_of : ℕ → List (List ℕ) → List Call
calls_of k [] = []
calls_of k (b ∷ []) = last_call b k ∷ []
calls_of k (b ∷ c ∷ bs) = block_call b ∷ calls_of k (c ∷ bs)

-- the calls of a message: its blocks and its kind are what the pad's coding for a tag under U makes of it
unfoldable pub message_calls : Set → List ℕ → List Call
message_calls U m = calls_of (kind_of (length m)) (blocks (coded_text U (padded_for_tag m)))

-- the calls that were accepted, by their answers; and the tags among the answers
unfoldable pub accepted_calls : List Call → List Answer → List Call
accepted_calls [] rs = []
accepted_calls (c ∷ cs) [] = []
accepted_calls (c ∷ cs) (accepted ∷ rs) = c ∷ accepted_calls cs rs
accepted_calls (c ∷ cs) (tag t ∷ rs) = c ∷ accepted_calls cs rs
accepted_calls (c ∷ cs) (refused q ∷ rs) = accepted_calls cs rs

unfoldable pub tags_of : List Answer → List (List ℕ)
tags_of [] = []
tags_of (accepted ∷ rs) = tags_of rs
tags_of (tag t ∷ rs) = t ∷ tags_of rs
tags_of (refused q ∷ rs) = tags_of rs
