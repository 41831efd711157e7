-- Demand 3's list of calls (document 01, "The model session of demand 3"): for every list of calls the driver's answers, from a
-- session just begun with the book, are the model's. Said of any rows of round keys and any valid chain.
use Rattle.std.proofs.Common.{Some}
use mathlib.Core.Path.{◌≡◌, refl, sym, ap, ap₂, ◌∙◌}
use mathlib.Core.Bool.{Bool, true, false}
use mathlib.Core.List.{List, [], ◌∷◌}
use Prim.Native.Nat.{ℕ, zero, suc, ◌≤◌, ◌<◌}
use native.Mathlib.Decide.{dec_lt, ℕ_discrete}
use native.Mathlib.Omega.{arith}
use lib.ListN.{length}
use Rattle.lists.specs.Blocks.{xor_block}
use Rattle.cipher.specs.KeySize.{rounds}
use Rattle.cipher.specs.Schedules.{key_rows}
use Rattle.cipher.specs.Lea.{first_rounds, encipher}
use Rattle.cipher.specs.Coding.{Set, coded, decoded}
use Rattle.cipher.specs.Chain.{message_set, chain_set, Chain}
use Rattle.cipher.specs.Book.{book_body, group_key, Book}
use Rattle.cipher.specs.Answers.{schedule_of, key_size}
use Rattle.cipher.specs.declared.size.KeySize.{KeySize}
use Rattle.cipher.proofs.CodingLaws.{coded_decoded}
use Rattle.cipher.proofs.BookMeaning.{book_start}
use Rattle.driver.specs.Driver.{admit_answer, pass, begin_answer, block_answer, last_answer}
use Rattle.driver.specs.declared.session.Session.{Session}
use Rattle.driver.proofs.PassLaws.{block_pass}
use Rattle.driver.proofs.AnswerLaws.{begin_done, block_7, block_21, block_22, block_done, last_7, last_10, last_21, last_done}
use Rattle.claims.specs.Model.{Call, block_call, last_call, Answer, tag, State, begun, kind_key, block_taken, tag_of, model_call}
use Rattle.claims.specs.Calls.{answer_of, block_reply, last_reply, driver_call, run, driver_answers, model_answers}
use Rattle.claims.specs.Built.{Built, book_in, key_rounds}
use Rattle.claims.proofs.BuiltLaws.{built_chain, built_book, built_found}
use Rattle.claims.proofs.ModelCases.{model_block_7, model_block_21, model_block_22, model_block, model_last_7, model_last_10, model_last_21, model_last}
use Rattle.claims.proofs.BookPasses.{last_permutes, pass_decoded, pass_block}

-- the key block of a last call's group is K1 for kind 0, K2 for kind 1
kind_key_lem : (E : List ℕ → List ℕ) (k : ℕ) → group_key E (suc k) ≡ kind_key E k
unfolding group_key kind_key
kind_key_lem E zero = refl
kind_key_lem E (suc k) = refl

module _ (z : KeySize) (rows : List (List ℕ)) (ch bk : List ℕ) (v : Chain z ch) (h : Book (rounds z) rows ch (book_body bk)) (found : admit_answer bk ≡ (0, Some z)) where
  abbrev E : List ℕ → List ℕ
  E = first_rounds rows (rounds z)

  abbrev U : Set
  U = message_set ch

  abbrev S : Set
  S = chain_set ch (rounds z)

  -- ---- a session that is to the driver what a state is to the model
  record Same (d : Session) (x : State) : Type 0 where
    held : decoded (chain_set ch (rounds z)) d.block ≡ x.held
    taken : d.taken ≡ x.taken
    ended : d.finished ≡ x.ended

  abbrev Like : Answer × Session → Answer × State → Type 0
  Like a c = (a.0 ≡ c.0) × Same a.1 c.1

  tag_same : (m : List ℕ) (k : ℕ) (d : Session) (x : State) → Same d x → k ≤ 1 → pass (book_body bk) (suc k) d.block m ≡ tag_of E U S m k x
  unfolding tag_of
  tag_same m k d x s l =
      sym (coded_decoded S (last_permutes z ch v) (pass (book_body bk) (suc k) d.block m) (block_pass (book_body bk) (suc k) d.block m))
      ∙ ap (coded S) (pass_decoded z rows ch (book_body bk) v h (suc k) (omega arith) d.block m
      ∙ ap₂ (λ (y n : List ℕ). E (xor_block (xor_block y (decoded U m)) n)) s.held (kind_key_lem E k))

  like : {a a' : Answer × Session} {c c' : Answer × State} → a ≡ a' → c ≡ c' → Like a' c' → Like a c
  like e f l = rw (e, f) l

  block_step : (m : List ℕ) (d : Session) (x : State) → Same d x → Like (driver_call bk (block_call m) d) (model_call E U S (block_call m) x)
  unfolding driver_call answer_of
  block_step m d x s = go (ℕ_discrete (length m) 16) d.finished refl (dec_lt d.taken 65535)
    where
      go : Dec (length m ≡ 16) → (b : Bool) → d.finished ≡ b → Dec (d.taken < 65535) → Like (block_reply (block_answer bk m d)) (model_call E U S (block_call m) x)
      go (no a) b e t = like (ap block_reply (block_7 bk m d z found a)) (model_block_7 E U S m x a) (refl, s)
      go (yes a) true e t = like (ap block_reply (block_21 bk m d z found a e)) (model_block_21 E U S m x a (sym s.ended ∙ e)) (refl, s)
      go (yes a) false e (no t) =
          like (ap block_reply (block_22 bk m d z found a e (omega arith))) (model_block_22 E U S m x a (sym s.ended ∙ e) (omega (arith, s.taken))) (refl, s)
      go (yes a) false e (yes t) =
          like (ap block_reply (block_done bk m d z found a e t)) (model_block E U S m x a (sym s.ended ∙ e) (omega (arith, s.taken))) (
            refl,
            unfold block_taken in record {
              held = pass_block z rows ch (book_body bk) v h d.block m ∙ ap (λ (y : List ℕ). E (xor_block y (decoded U m))) s.held;
              taken = ap suc s.taken;
              ended = s.ended;
            },
          )

  last_step : (m : List ℕ) (k : ℕ) (d : Session) (x : State) → Same d x → Like (driver_call bk (last_call m k) d) (model_call E U S (last_call m k) x)
  unfolding driver_call answer_of
  last_step m k d x s = go (ℕ_discrete (length m) 16) (dec_lt 1 k) d.finished refl
    where
      go : Dec (length m ≡ 16) → Dec (1 < k) → (b : Bool) → d.finished ≡ b → Like (last_reply (last_answer bk m k d)) (model_call E U S (last_call m k) x)
      go (no a) t b e = like (ap last_reply (last_7 bk m k d z found a)) (model_last_7 E U S m x k a) (refl, s)
      go (yes a) (yes t) b e = like (ap last_reply (last_10 bk m k d z found a t)) (model_last_10 E U S m x a k t) (refl, s)
      go (yes a) (no t) true e =
          like (ap last_reply (last_21 bk m k d z found a (omega arith) e)) (model_last_21 E U S m x a k (omega arith) (sym s.ended ∙ e)) (refl, s)
      go (yes a) (no t) false e =
          like (ap last_reply (last_done bk m k d z found a (omega arith) e)) (model_last E U S m x a k (omega arith) (sym s.ended ∙ e))
          (ap {B = Answer} tag (tag_same m k d x s (omega arith)), record { held = s.held; taken = s.taken; ended = refl })

  step : (c : Call) (d : Session) (x : State) → Same d x → Like (driver_call bk c d) (model_call E U S c x)
  step (block_call m) d x s = block_step m d x s
  step (last_call m k) d x s = last_step m k d x s

  same_begun : Same (begin_answer bk).1 begun
  same_begun = rw (begin_done bk z found) (record { held = book_start z rows ch (book_body bk) v h; taken = refl; ended = refl })

  runs : (cs : List Call) (d : Session) (x : State) → Same d x → run (driver_call bk) cs d ≡ run (model_call E U S) cs x
  unfolding run
  runs [] d x s = refl
  runs (c ∷ cs) d x s =
      let t = step c d x s in
      ap₂ {C = List Answer} (λ (a : Answer) (l : List Answer). a ∷ l) t.0 (runs cs (driver_call bk c d).1 (model_call E U S c x).1 t.1)

  pub session : (cs : List Call) → driver_answers bk cs ≡ model_answers (first_rounds rows (rounds z)) (message_set ch) (chain_set ch (rounds z)) cs
  unfolding driver_answers model_answers
  session cs = runs cs (begin_answer bk).1 begun same_begun

-- for every schedule, key, chain and buffer with which a book is built
pub session_built : (schedule : ℕ) (key ch out held : List ℕ) → Built schedule key ch out held → (cs : List Call)
    → driver_answers (book_in key held) cs ≡ model_answers (encipher (schedule_of schedule) (key_size key) key) (message_set ch) (chain_set ch (key_rounds key)) cs
session_built schedule key ch out held b cs =
    session (key_size key) (key_rows (schedule_of schedule) (key_size key) key) ch (book_in key held) (built_chain schedule key ch out held b)
    (built_book schedule key ch out held b) (built_found schedule key ch out held b) cs
