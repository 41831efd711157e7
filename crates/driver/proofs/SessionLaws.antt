-- What a session keeps along its calls: its block has 16 bytes and its count is below 65,536; and a refused call leaves the session.
use mathlib.Core.Path.{◌≡◌, refl, sym, ap, ◌∙◌, subst}
use mathlib.Core.Bool.{Bool, true, false, cond}
use mathlib.Core.List.{List, [], ◌∷◌, ◌++◌}
use Prim.Native.Nat.{ℕ, suc, ◌<◌}
use native.Mathlib.Omega.{arith}
use borrow.Author.Tests.{leb-false}
use lib.ListN.{length}
use lib.Seq.{length-take-le}
use Rattle.lists.specs.Blocks.{zeros}
use Rattle.lists.specs.Refusals.{first}
use Rattle.lists.proofs.RefusalLaws.{Clear}
use Rattle.cipher.specs.Book.{book_body, start_of}
use Rattle.cipher.specs.Answers.{block_tests}
use Rattle.cipher.specs.Refusal.{number_of}
use Rattle.cipher.specs.declared.refusal.Refusal.{Refusal}
use Rattle.cipher.proofs.AnswerLaws.{number_more}
use Rattle.cipher.specs.declared.size.KeySize.{KeySize}
use Rattle.std.proofs.Common.{Some}
use Rattle.driver.specs.Driver.{book_tests, admit_answer, pass, fresh, moved, closed, kind_tests, finished_tests, full_tests, begun_over, block_answer, last_answer}
use Rattle.driver.specs.declared.session.Session.{Session}
use Rattle.driver.proofs.PassLaws.{block_pass}
use Rattle.driver.proofs.AdmitLaws.{admitted_length}

pub record Fits (s : Session) : Type 0 where
  pub size : length s.block ≡ 16
  pub count : s.taken < 65536

-- number n and session t of a call on the session s
abbrev Kept : Session → ℕ → Session → Type 0
Kept s n t = Fits t × ((n ≡ 0 → ⊥) → t ≡ s)

-- what holds of every refusal, and of what is done where no test applies
pub first_either : {A : Type 0} (P : A → Type 0) (ts : List (Bool × ℕ)) (refuse : ℕ → A) (go : A) → ((q : ℕ) → P (refuse q)) → (Clear ts → P go) → P (first ts refuse go)
unfolding first
first_either P [] refuse go h d = d tt
first_either {A} P (t ∷ ts) refuse go h d = each t.0 refl (first_either P ts refuse go h)
  where
    each : (b : Bool) → t.0 ≡ b → ((Clear ts → P go) → P (first ts refuse go)) → P (cond b (refuse t.1) (first ts refuse go))
    each true e k = h t.1
    each false e k = k (λ c. d (e, c))

-- where a call that says a, of the number of a, was refused, the session is that before it
left_there : {A : Type 0} (number : A → ℕ) (ts : List (Bool × ℕ)) (r : ℕ → A) (g a : A) (s t u : Session) → number g ≡ 0 → (number a ≡ 0 → ⊥)
    → ◌≡◌ {A = A × Session} (a, u) (first ts (λ n. (r n, s)) (g, t)) → ◌≡◌ {A = A × Session} (a, s) (first ts (λ n. (r n, s)) (g, t))
left_there {A} number ts r g a s t u z n e =
    let P : A × Session → Type 0 = λ x. (number x.0 ≡ 0 → ⊥) → x.1 ≡ s in
    let k : u ≡ s = subst P (sym e) (first_either P ts (λ n. (r n, s)) (g, t) (λ n h. refl) (λ c h. absurd (h z))) n in
    ap (λ (x : Session). (a, x)) (sym k) ∙ e

pub begun_left : (bk : List ℕ) (s u : Session) (q : Refusal) → ◌≡◌ {A = ℕ × Session} (number_of q, u) (begun_over bk s) → ◌≡◌ {A = ℕ × Session} (number_of q, s) (begun_over bk s)
unfolding begun_over
begun_left bk s u q e = left_there (λ n. n) _ (λ n. n) 0 _ s _ u refl (λ h. let n = number_more q in omega arith) e

pub block_left : (bk m : List ℕ) (s u : Session) (q : Refusal) → ◌≡◌ {A = ℕ × Session} (number_of q, u) (block_answer bk m s) → ◌≡◌ {A = ℕ × Session} (number_of q, s) (block_answer bk m s)
unfolding block_answer
block_left bk m s u q e = left_there (λ n. n) _ (λ n. n) 0 _ s _ u refl (λ h. let n = number_more q in omega arith) e

pub last_left : (bk m : List ℕ) (k : ℕ) (s u : Session) (q : Refusal) → ◌≡◌ {A = (ℕ × List ℕ) × Session} ((number_of q, zeros), u) (last_answer bk m k s)
    → ◌≡◌ {A = (ℕ × List ℕ) × Session} ((number_of q, zeros), s) (last_answer bk m k s)
unfolding last_answer
last_left bk m k s u q e =
    left_there (λ (p : ℕ × List ℕ). p.0) _ (λ n. (n, zeros)) (0, pass (book_body bk) (suc k) s.block m) _ s _ u refl (λ h. let n = number_more q in omega arith) e

pub fresh_fits : (bk : List ℕ) (z : KeySize) → admit_answer bk ≡ (0, Some z) → Fits (fresh (start_of (book_body bk)))
fresh_fits bk z e = record { size = length-take-le 16 (book_body bk) (omega (arith, admitted_length bk z e)); count = omega arith }

module _ (bk m : List ℕ) (s : Session) (f : Fits s) where
  pub block_kept : Kept s (block_answer bk m s).0 (block_answer bk m s).1
  unfolding block_answer
  block_kept =
      first_either (λ (a : ℕ × Session). Kept s a.0 a.1) (book_tests bk ++ (block_tests m ++ (finished_tests s ++ full_tests s))) (λ q. (q, s))
      (0, moved s (pass (book_body bk) 0 s.block m))
      (λ q. (f, λ n. refl))
      (λ c.
      let l = leb-false 65535 s.taken c.1.1.1.1.0 in
      (record { size = (block_pass (book_body bk) 0 s.block m).size; count = omega arith }, λ n. absurd (n refl)))

  pub last_kept : (k : ℕ) → Kept s (last_answer bk m k s).0.0 (last_answer bk m k s).1
  unfolding last_answer
  last_kept k =
      first_either (λ (a : (ℕ × List ℕ) × Session). Kept s a.0.0 a.1) (book_tests bk ++ (block_tests m ++ (kind_tests k ++ finished_tests s)))
      (λ q. ((q, zeros), s)) ((0, pass (book_body bk) (suc k) s.block m), closed s)
      (λ q. (f, λ n. refl))
      (λ c. (record { size = f.size; count = f.count }, λ n. absurd (n refl)))
