-- Arrays made by `array::from_fn`: where the closure stays as it is and gives h k at each index k, the array is `tab` of h.
use Rattle.std.proofs.Common.{◌≡◌, ℕ, zero, suc, ◌+◌, ◌<◌, ◌≤◌, List, get_or, sym, refl, ◌∙◌, subst, arith}
use mathlib.Core.Logic.{⊎_elim}
use native.Mathlib.Nat.{eq-or-lt_of_le}
use denote.Param.Members.{Mut}
use Rattle.std.specs.Fn.{Called}
use Rattle.std.specs.Array.{IsFromFnResult, IsFromFnResultFrom}
use Rattle.lists.specs.Tabulation.{tab}
use Rattle.lists.proofs.TabulationLaws.{tab_is}

module _ {F : Type 0} (g : Mut F (ℕ × Unit {0}) ℕ) (f : F) (ys : List ℕ) (h : ℕ → ℕ) (top : ℕ)
    (each : (i y : ℕ) (q : F) → i < top → Called g f (i, tt) y q → (q ≡ f) × (y ≡ h i)) where
  -- of the n elements from i on
  from : (n i : ℕ) (p : F) → p ≡ f → i + n ≡ top → IsFromFnResultFrom g p ys i n → (k : ℕ) → i ≤ k → k < top → h k ≡ get_or ys k 0
  from zero i p e t r k a b = absurd (omega arith)
  from (suc n) i p e t r k a b =
      let now = each i r.1 r.0 (omega arith) (subst (λ (s : F). Called g s (i, tt) r.1 r.0) e r.3) in
      ⊎_elim
      (λ (w : i ≡ k). subst (λ (j : ℕ). h j ≡ get_or ys j 0) w (sym now.1 ∙ sym (r.2.1 0)))
      (λ (w : i < k). from n (i + 1) r.0 now.0 (omega arith) r.4 k (omega arith) b)
      (eq-or-lt_of_le a)

  pub tab_from_fn : IsFromFnResult g f ys top → ys ≡ tab top h
  tab_from_fn r = sym (tab_is top h ys r.long (λ k b. from top 0 f refl (omega arith) r.each k (omega arith) b))
