-- Demand 3's list of calls on a session that is lent by &mut (document 01, "Forms to follow"): whatever the record held before it
-- was begun with the book, its calls answer as the model, each on the record that the one before it left.
use mathlib.Core.Path.{◌≡◌, refl, sym, ap, ◌∙◌}
use mathlib.Core.List.{List, ◌∷◌}
use Prim.Native.Nat.{ℕ}
use Rattle.driver.specs.Driver.{begun_over}
use Rattle.driver.specs.declared.session.Session.{Session}
use Rattle.driver.proofs.AnswerLaws.{over_done, begin_done}
use Rattle.claims.specs.Model.{Call, Answer}
use Rattle.claims.specs.Calls.{driver_call, run, driver_answers, Lent, none, then}
use Rattle.claims.specs.Built.{Built, book_in}
use Rattle.claims.specs.Demand3.{LentLikeModel}
use Rattle.claims.proofs.BuiltLaws.{built_found}
use Rattle.claims.proofs.SessionTheorem.{session_built}

-- what lent calls answer is what the list of calls answers
lent_run : (bk : List ℕ) {s : Session} {cs : List Call} {rs : List Answer} → Lent bk s cs rs → rs ≡ run (driver_call bk) cs s
unfolding run
lent_run bk none = refl
lent_run bk (then {cs = cs} e l) = λ i. (e i).0 ∷ (lent_run bk l ∙ ap (λ (r : Answer × Session). run (driver_call bk) cs r.1) e) i

pub lent_built : (schedule : ℕ) (key ch out held : List ℕ) → Built schedule key ch out held → (s₀ s : Session) (q : ℕ) → (q, s) ≡ begun_over (book_in key held) s₀
    → LentLikeModel schedule key ch (book_in key held) q s
unfolding driver_answers
lent_built schedule key ch out held b s₀ s q e =
    let bk = book_in key held in
    let known = built_found schedule key ch out held b in
    let fresh = e ∙ over_done bk s₀ _ known in (
      ap (λ (r : ℕ × Session). r.0) fresh,
      λ cs rs l. lent_run bk l ∙ ap (λ (r : ℕ × Session). run (driver_call bk) cs r.1) (fresh ∙ sym (begin_done bk _ known)) ∙ session_built schedule key ch out held b cs,
    )
