-- What a C function answers, and what it leaves behind its pointers, from what the operation gave.
use mathlib.Core.Path.{◌≡◌, refl, sym, ap, ◌∙◌}
use mathlib.Core.List.{List}
use Prim.Native.Nat.{ℕ, zero, suc, ◌<◌}
use Rattle.std.proofs.Common.{Result, Ok, Err}
use Rattle.std.specs.Result.{MatchResult, IsOkAnd}
use native.Mathlib.Omega.{arith}
use Rattle.cipher.specs.Refusal.{number_of}
use Rattle.cipher.proofs.AnswerLaws.{number_more}
use Rattle.cipher.specs.declared.refusal.Refusal.{Refusal}
use Rattle.inkfile.specs.Reading.{Told}
use Rattle.bowlinette.specs.Into.{into, delivered, kept}
use Rattle.bowlinette.specs.Ink.{ink_numbers}

-- the number r and the number l that were delivered of what is told in t, beside what x is in the buffers
pub kept_told : {B : Type 0} (answer : (ℕ × ℕ) × B) (t : ℕ × ℕ) (x : B) (r l old : ℕ) → (r, l) ≡ into t old → (t, x) ≡ answer → ((r, l), x) ≡ kept answer old
kept_told {B} answer t x r l old e h = ap (λ (y : ℕ × ℕ). (y, x)) e ∙ go t ∙ ap (λ (a : (ℕ × ℕ) × B). kept a old) h
  where
    go : (t : ℕ × ℕ) → (into t old, x) ≡ kept (t, x) old
    go (zero, v) = refl
    go (suc n, v) = refl

-- a result s of an operation r, of which `told` tells what `f` makes of its value, or a refusal and nothing
module _ {A B : Type 0} (told : Result A Refusal → ℕ × B) (f : A → B) (nothing : B)
    (ok : (x : A) → told (Ok x) ≡ (0, f x)) (err : (q : Refusal) → told (Err q) ≡ (number_of q, nothing)) where
  pub delivered_told : (r : Result A Refusal) (s : Result B Refusal) (old : B) → MatchResult r (λ x. IsOkAnd s (λ y. y ≡ f x)) (λ q. s ≡ Err q)
      → delivered s old ≡ into (told r) old
  delivered_told (Ok x) (Ok y) old e = ap (λ (v : B). (0, v)) e ∙ ap (λ (t : ℕ × B). into t old) (sym (ok x))
  delivered_told (Ok x) (Err q) old e = absurd e
  delivered_told (Err q) s old e =
      ap (λ (t : Result B Refusal). delivered t old) e ∙ left (number_of q) (number_more q) ∙ ap (λ (t : ℕ × B). into t old) (sym (err q))
    where
      left : (k : ℕ) → 0 < k → (k, old) ≡ into (k, nothing) old
      left zero l = absurd (omega arith)
      left (suc k) l = refl

-- the result itself, where nothing is made of its value
pub itself : {A : Type 0} (r : Result A Refusal) → MatchResult r (λ x. IsOkAnd r (λ y. y ≡ x)) (λ q. r ≡ Err q)
itself (Ok x) = refl
itself (Err q) = refl

-- a result s that `map` made of r by a closure that gives f
pub mapped : {A B : Type 0} (f : A → B) (r : Result A Refusal) (s : Result B Refusal) (P : A → B → Type 0) → ((x : A) (y : B) → P x y → y ≡ f x)
    → MatchResult r (λ x. IsOkAnd s (P x)) (λ q. s ≡ Err q) → MatchResult r (λ x. IsOkAnd s (λ y. y ≡ f x)) (λ q. s ≡ Err q)
mapped f (Ok x) (Ok y) P h e = h x y e
mapped f (Ok x) (Err q) P h e = absurd e
mapped f (Err q) s P h e = e

-- the 18 numbers v of what is told in t of an ink file, which is the answer a
pub ink_told_lem : (t a : Told) (v : List ℕ) → v ≡ (ink_numbers t).1 → t ≡ a → (t.refusal, v) ≡ ink_numbers a
unfolding ink_numbers
ink_told_lem t a v e h = (λ i. (t.refusal, e i)) ∙ ap ink_numbers h
