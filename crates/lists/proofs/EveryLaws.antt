-- Laws of `every`: it is true exactly if each test is.
use mathlib.Core.Path.{◌≡◌, refl, ap, ap₂, ◌∙◌}
use mathlib.Core.Bool.{Bool, true, ◌&&◌}
use mathlib.Core.Logic.{◌⊎◌, inl, inr}
use Prim.Native.Nat.{ℕ, zero, suc, ◌+◌, ◌<◌}
use native.Mathlib.Nat.{le_of_suc-le-suc, not-suc-le-zero, le_refl, eq-or-lt_of_le}
use native.Mathlib.Numerals.{add-one}
use native.Mathlib.Omega.{arith}
use Rattle.lists.specs.Every.{every}
-- of two tests, as the library has it
pub use Rattle.std.proofs.lemmas.Bool.{and_parts as and_true, and_from as true_and}

pub every_more : (n : ℕ) (p : ℕ → Bool) → every (n + 1) p ≡ every n p && p n
unfolding every
every_more n p = rw add-one

pub every_all : (n : ℕ) (p : ℕ → Bool) → every n p ≡ true → (i : ℕ) → i < n → p i ≡ true
unfolding every
every_all zero p t i h = absurd (not-suc-le-zero h)
every_all (suc n) p t i h =
    let q = and_true (every n p) (p n) t in
    go (eq-or-lt_of_le (le_of_suc-le-suc h)) (every_all n p q.0 i) q.1
  where
    go : (i ≡ n) ⊎ (i < n) → (i < n → p i ≡ true) → p n ≡ true → p i ≡ true
    go (inl e) f q = ap p e ∙ q
    go (inr l) f q = f l

pub all_every : (n : ℕ) (p : ℕ → Bool) → ((i : ℕ) → i < n → p i ≡ true) → every n p ≡ true
unfolding every
all_every zero p h = refl
all_every (suc n) p h = true_and (every n p) (p n) (all_every n p (λ i l. h i (omega arith))) (h n (le_refl (suc n)))

pub every_ext : (n : ℕ) (p q : ℕ → Bool) → ((i : ℕ) → i < n → p i ≡ q i) → every n p ≡ every n q
unfolding every
every_ext zero p q h = refl
every_ext (suc n) p q h = ap₂ (λ (a b : Bool). a && b) (every_ext n p q (λ i l. h i (omega arith))) (h n (omega arith))
