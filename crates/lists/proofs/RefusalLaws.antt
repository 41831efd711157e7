-- Laws of `first`: a test that applies decides, one that does not is passed over, and where none applies the call goes on. What is
-- made of an answer is made of each refusal and of what was asked for.
use mathlib.Core.Path.{◌≡◌, refl, ◌∙◌}
use mathlib.Core.Bool.{Bool, true, false, cond}
use mathlib.Core.List.{List, [], ◌∷◌}
use Prim.Native.Nat.{ℕ}
use Rattle.lists.specs.Refusals.{first}

module _ {A : Type 0} (t : Bool) (n : ℕ) (ts : List (Bool × ℕ)) (refuse : ℕ → A) (go : A) where
  pub first_hit : t ≡ true → first ((t, n) ∷ ts) refuse go ≡ refuse n
  unfolding first
  first_hit e = rw e

  pub first_pass : t ≡ false → first ((t, n) ∷ ts) refuse go ≡ first ts refuse go
  unfolding first
  first_pass e = rw e

-- no test applies
abbrev pub Clear : List (Bool × ℕ) → Type 0
Clear [] = Unit {0}
Clear (t ∷ ts) = (t.0 ≡ false) × Clear ts

pub first_clear : {A : Type 0} (ts : List (Bool × ℕ)) (refuse : ℕ → A) (go : A) → Clear ts → first ts refuse go ≡ go
unfolding first
first_clear [] refuse go c = refl
first_clear (t ∷ ts) refuse go c = first_pass t.0 t.1 ts refuse go c.0 ∙ first_clear ts refuse go c.1

pub first_map : {A B : Type 0} (f : A → B) (ts : List (Bool × ℕ)) (refuse : ℕ → A) (go : A) → f (first ts refuse go) ≡ first ts (λ q. f (refuse q)) (f go)
unfolding first
first_map f [] refuse go = refl
first_map {A} {B} f (t ∷ ts) refuse go = each t.0 (first_map f ts refuse go)
  where
    each : (b : Bool) → f (first ts refuse go) ≡ first ts (λ q. f (refuse q)) (f go)
        → f (cond b (refuse t.1) (first ts refuse go)) ≡ cond b (f (refuse t.1)) (first ts (λ q. f (refuse q)) (f go))
    each true h = refl
    each false h = h
