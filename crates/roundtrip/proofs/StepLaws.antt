-- Laws for the steps of a round trip: what the number that a call gives says of what comes next, and of the room in a buffer.
use mathlib.Core.Path.{◌≡◌, refl, sym, ap, ◌∙◌}
use mathlib.Core.List.{List, ◌++◌}
use Prim.Native.Nat.{ℕ, zero, suc, ◌-◌, ◌≤◌, ◌<◌}
use native.Mathlib.Nat.{sub-zero}
use native.Mathlib.Omega.{arith}
use borrow.Author.Tests.{ltb-false}
use lib.Dec.{lit<}
use lib.ListN.{length, take, drop}
use Rattle.cipher.specs.Chain.{set_tests}
use Rattle.cipher.specs.Coding.{set_of}
use Rattle.cipher.specs.Book.{book_body}
use Rattle.cipher.specs.Refusal.{number_of, written_of}
use Rattle.cipher.specs.declared.refusal.Refusal.{Refusal}
use Rattle.std.specs.Prelude.{Result, Ok, Err}
use Rattle.cipher.proofs.AnswerLaws.{number_more}
use Rattle.pad.specs.Padding.{padded_for_sealing, coded_text}
use Rattle.pad.specs.Answers.{coding_tests, coded_into, sealing_answer}
use Rattle.driver.specs.Driver as D
use Rattle.roundtrip.specs.Steps.{next, written}
use Rattle.claims.proofs.BuiltLaws.{not_refused}

-- ---- what comes next

module _ {A : Type 0} (n : ℕ) (refuse : ℕ → A) (go : A) where
  pub next_done : n ≡ 0 → next n refuse go ≡ go
  unfolding next
  next_done e = ap (λ (k : ℕ). next k refuse go) e

  pub next_refused : (q : Refusal) → n ≡ number_of q → next n refuse go ≡ refuse (number_of q)
  unfolding next
  next_refused q e = ap (λ (k : ℕ). next k refuse go) e ∙ each (number_of q) (number_more q)
    where
      each : (k : ℕ) → 0 < k → next k refuse go ≡ refuse k
      each zero h = absurd (omega arith)
      each (suc k) h = refl

-- after a call that writes: r is what it gives and x what the buffer then holds
module _ {B : Type 0} (a : (ℕ × ℕ) × List ℕ) (r : Result ℕ Refusal) (x : List ℕ) (e : (written_of r, x) ≡ a) (left : B) (go : List ℕ → (ℕ × ℕ) × B) where
  abbrev then : (ℕ × ℕ) × List ℕ → (ℕ × ℕ) × (List ℕ × B)
  then y = ((go (take y.0.1 y.1)).0, (y.1, (go (take y.0.1 y.1)).1))

  number_is : (n : ℕ × ℕ) → written_of r ≡ n → a.0.0 ≡ n.0
  number_is n d = ap (λ (y : (ℕ × ℕ) × List ℕ). y.0.0) (sym e) ∙ ap (λ (y : ℕ × ℕ). y.0) d

  pub written_refused : (q : Refusal) → r ≡ Err q → ((number_of q, 0), (x, left)) ≡ written a left go
  written_refused q d =
      ap (λ (y : (ℕ × ℕ) × List ℕ). ((number_of q, 0), (y.1, left))) e
      ∙ sym (next_refused a.0.0 (λ q. ((q, 0), (a.1, left))) (then a) q (number_is (number_of q, 0) (ap written_of d)))

  -- (the part `&x[0..n]` is, as the borrow checker writes it, of length `n - 0`)
  pub written_done : (n : ℕ) → r ≡ Ok n → written a left go ≡ ((go (take (n - 0) x)).0, (x, (go (take (n - 0) x)).1))
  written_done n d =
      next_done a.0.0 (λ q. ((q, 0), (a.1, left))) (then a) (number_is (0, n) (ap written_of d))
      ∙ ap then (sym e)
      ∙ ap (λ (y : Result ℕ Refusal). then (written_of y, x)) d
      ∙ ap (λ (k : ℕ). ((go (take k x)).0, (x, (go (take k x)).1))) (sym (sub-zero n))

-- ---- room: what is written fits into the buffer

pub seal_room : (bk iv cs se x : List ℕ) (r : Result ℕ Refusal) → (written_of r, x) ≡ D.seal_answer bk iv cs se → (n : ℕ) → r ≡ Ok n → n ≤ length se
unfolding D.seal_answer
seal_room bk iv cs se x r e n d =
    let t = not_refused (λ (y : (ℕ × ℕ) × List ℕ). y.0.0) (λ q. ((q, 0), se)) (λ q. refl) ((0, length cs), D.sealed (book_body bk) iv cs ++ drop (length cs) se)
    (D.seal_tests bk iv cs se) (lit< tt, (lit< tt, (lit< tt, (lit< tt, (lit< tt, tt)))))
    (ap (λ (y : (ℕ × ℕ) × List ℕ). y.0.0) (sym e) ∙ ap (λ (y : Result ℕ Refusal). (written_of y).0) d) in
    let m : n ≡ length cs = ap (λ (y : Result ℕ Refusal). (written_of y).1) (sym d) ∙ ap (λ (y : (ℕ × ℕ) × List ℕ). y.0.1) (e ∙ t.1) in
    let h = ltb-false (length se) (length cs) t.0.1.1.1.1.0 in
    omega arith

-- and what is told of a code is told where it is written
pub code_room : {A : Type 0} (nothing told : A) (u m text out : List ℕ) (a : (ℕ × A) × List ℕ) → a ≡ coded_into nothing told u m text out → a.0.0 ≡ 0
    → (length text ≤ length out) × (a.0.1 ≡ told)
unfolding coded_into coding_tests set_tests
code_room {A} nothing told u m text out a e d =
    let t = not_refused (λ (y : (ℕ × A) × List ℕ). y.0.0) (λ q. ((q, nothing), out)) (λ q. refl) ((0, told), coded_text (set_of u) text ++ drop (length text) out)
    (coding_tests u (length m) (length text) (length out)) (lit< tt, (lit< tt, (lit< tt, (lit< tt, tt))))
    (ap (λ (y : (ℕ × A) × List ℕ). y.0.0) (sym e) ∙ d) in
    (ltb-false (length out) (length text) t.0.1.1.1.0, ap (λ (y : (ℕ × A) × List ℕ). y.0.1) (e ∙ t.1))

pub coding_room : (u m co x : List ℕ) (r : Result ℕ Refusal) → (written_of r, x) ≡ sealing_answer u m co → (n : ℕ) → r ≡ Ok n → n ≤ length co
coding_room u m co x r e n d =
    let t = code_room 0 (length (padded_for_sealing m)) u m (padded_for_sealing m) co (written_of r, x) e (ap (λ (y : Result ℕ Refusal). (written_of y).0) d) in
    let k : n ≡ length (padded_for_sealing m) = ap (λ (y : Result ℕ Refusal). (written_of y).1) (sym d) ∙ t.1 in
    omega (arith, t.0)
