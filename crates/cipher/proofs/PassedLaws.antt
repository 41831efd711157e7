-- Refusals that a `?` passes on, and options that become refusals by `ok_or`.
use Rattle.std.proofs.Common.{◌≡◌, ℕ, Option, Some, None, Result, Ok, Err, refl, ap, ◌∙◌, arith}
use Rattle.std.specs.Option.{ok_or}
use Rattle.std.specs.Result.{IsErrAnd}
use Rattle.std.proofs.lemmas.Result.{err_from_is_err_and}
use Rattle.cipher.specs.declared.refusal.Refusal.{Refusal}

-- what a `?` passes on is the refusal that it met
pub passed : {T : Type 0} {r : Result T Refusal} {q : Refusal} → IsErrAnd r (λ x. x ≡ q) → r ≡ Err q
passed {T} {r} h = let p = err_from_is_err_and r h in p.1 ∙ ap (λ (x : Refusal). Err x) p.2

module _ {T : Type 0} where
  -- where `ok_or` refuses there was nothing
  pub or_none : (o : Option T) (d q : Refusal) → Err q ≡ ok_or o d → (o ≡ None) × (q ≡ d)
  or_none None d q e = (refl, cc)
  or_none (Some x) d q e = let w : ◌≡◌ {A = ℕ} 0 1 = cc in absurd (omega arith)

  -- and where it does not, there was what it gives
  pub or_some : (o : Option T) (d : Refusal) (x : T) → Ok x ≡ ok_or o d → o ≡ Some x
  or_some (Some y) d x e = cc
  or_some None d x e = let w : ◌≡◌ {A = ℕ} 0 1 = cc in absurd (omega arith)
