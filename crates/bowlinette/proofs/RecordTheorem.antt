-- Demand 3's list of calls as a C caller makes them: whatever the 19 bytes of the record held before it was begun with the book, its
-- calls answer as the model, each on the bytes that the one before it left.
use mathlib.Core.Path.{◌≡◌, refl, sym, ap, ◌∙◌}
use mathlib.Core.List.{List}
use Prim.Native.Nat.{ℕ, zero, suc}
use native.Mathlib.Omega.{arith}
use Rattle.cipher.specs.Book.{book_body, start_of}
use Rattle.driver.specs.Driver.{fresh, spent, begin_answer, block_answer, last_answer}
use Rattle.driver.specs.declared.session.Session.{Session}
use Rattle.driver.proofs.AnswerLaws.{begin_done, over_done}
use Rattle.driver.proofs.SessionLaws.{Fits, fresh_fits, block_kept, last_kept}
use Rattle.claims.specs.Model.{Call, Answer, accepted, tag}
use Rattle.claims.specs.Calls.{answer_of, driver_call, Lent, none, then}
use Rattle.claims.specs.Built.{Built, book_in}
use Rattle.claims.proofs.BuiltLaws.{built_found}
use Rattle.claims.proofs.LentTheorem.{lent_built}
use Rattle.bowlinette.specs.Into.{into}
use Rattle.bowlinette.specs.Session.{session_in, record_of, recorded, tag_recorded}
use Rattle.bowlinette.specs.Records.{Recorded, no_call, at_block_call, at_last_call, RecordLikeModel}
use Rattle.bowlinette.proofs.RecordLaws.{record_back}

-- what a call on the session s leaves in its record is the record of the session that the answer a has
block_left : (s : Session) (a : ℕ × Session) → ((a.0 ≡ 0 → ⊥) → a.1 ≡ s) → into (recorded a) (record_of s) ≡ recorded a
block_left s (zero, t) h = refl
block_left s (suc n, t) h = ap (λ (x : Session). (suc n, record_of x)) (sym (h (λ e. omega arith)))

module _ (s : Session) (n : ℕ) (new old c : List ℕ) where
  abbrev Read : (ℕ × List ℕ) × Session → Type 0
  Read a = (answer_of n (tag new) ≡ answer_of a.0.0 (tag a.0.1)) × (c ≡ record_of a.1)

  last_left : (a : (ℕ × List ℕ) × Session) → ((a.0.0 ≡ 0 → ⊥) → a.1 ≡ s)
      → (n, (new, c)) ≡ into {A = List ℕ × List ℕ} (tag_recorded a) (old, record_of s) → Read a
  unfolding answer_of
  last_left ((zero, x), t) h e =
      (ap (λ (p : ℕ × (List ℕ × List ℕ)). answer_of p.0 (tag p.1.0)) e, ap (λ (p : ℕ × (List ℕ × List ℕ)). p.1.1) e)
  last_left ((suc q, x), t) h e = (
    ap (λ (p : ℕ × (List ℕ × List ℕ)). answer_of p.0 (tag p.1.0)) e,
    ap (λ (p : ℕ × (List ℕ × List ℕ)). p.1.1) e ∙ ap record_of (sym (h (λ z. omega arith))),
  )

-- calls on the record of a session are calls on the session, lent
recorded_lent : (bk : List ℕ) {b : List ℕ} {cs : List Call} {rs : List Answer} → Recorded bk b cs rs → (s : Session) → Fits s → b ≡ record_of s → Lent bk s cs rs
unfolding driver_call
recorded_lent bk no_call s f e = none
recorded_lent bk (at_block_call {b} {c} {m} {n} e r) s f q =
    let back = ap session_in q ∙ record_back s f.size f.count in
    let k = block_kept bk m s f in
    let x = e ∙ (λ i. into (recorded (block_answer bk m (back i))) (q i)) ∙ block_left s (block_answer bk m s) k.1 in
    then (ap (λ (p : ℕ × List ℕ). (answer_of p.0 accepted, (block_answer bk m s).1)) x)
    (recorded_lent bk r (block_answer bk m s).1 k.0 (ap (λ (p : ℕ × List ℕ). p.1) x))
recorded_lent bk (at_last_call {b} {c} {m} {new} {k} {n} old e r) s f q =
    let back = ap session_in q ∙ record_back s f.size f.count in
    let h = last_kept bk m s f k in
    let d = e ∙ (λ i. into {A = List ℕ × List ℕ} (tag_recorded (last_answer bk m k (back i))) (old, q i)) in
    let x = last_left s n new old c (last_answer bk m k s) h.1 d in
    then (ap (λ (a : Answer). (a, (last_answer bk m k s).1)) x.0) (recorded_lent bk r (last_answer bk m k s).1 h.0 x.1)

-- for every schedule, key, chain and buffer with which a book is built, and every record before it is begun
pub record_built : (schedule : ℕ) (key ch out held : List ℕ) → Built schedule key ch out held → (b₀ b : List ℕ) (q : ℕ)
    → (q, b) ≡ into (recorded (begin_answer (book_in key held))) b₀ → RecordLikeModel schedule key ch (book_in key held) q b
unfolding begin_answer
record_built schedule key ch out held h b₀ b q e =
    let bk = book_in key held in
    let known = built_found schedule key ch out held h in
    let s = fresh (start_of (book_body bk)) in
    let begun = e ∙ ap (λ (a : ℕ × Session). into (recorded a) b₀) (begin_done bk _ known) in
    let lent = lent_built schedule key ch out held h spent s 0 (sym (over_done bk spent _ known)) in (
      ap (λ (p : ℕ × List ℕ). p.0) begun,
      λ cs rs l. lent.1 cs rs (recorded_lent bk l s (fresh_fits bk _ known) (ap (λ (p : ℕ × List ℕ). p.1) begun)),
    )
