-- `write::Given::put_remarks` meets its contract. The invariant: with the remarks that are left in their places, all are in theirs.
use Rattle.std.proofs.Common.{◌≡◌, ◌+◌, ◌≤◌, ℕ, List, length, refl, sym, ap, ◌∙◌, arith, rules}
use mathlib.Core.Logic.{◌⊎◌, inl, inr}
use Rattle.lists.specs.Overlay.{overlaid}
use Rattle.inkfile.specs.Format.{Record}
use Rattle.inkfile.specs.Writing.{remarks_of}
use Rattle.inkfile.specs.WritingSteps.{lent, remarks_bytes, remarks_size}
use Rattle.inkfile.proofs.GivenLaws.{one_given, none_given, size_left, put_left, put_none}
use Rattle.inkfile.proofs.write.Given.put_remarks.Goals as goal

pub loop-kind-init : goal.loop-kind-init
loop-kind-init c =
    let self = c.args.self.now in
    let begun = c.into_iter-kind-iterator.result in
    let ks : begun.a.rest.now ≡ self.kinds.now = search rules in
    let bs : begun.b.rest.now ≡ self.bodies = search rules in
    let all : remarks_of begun.a.rest.now (lent begun.b.rest.now) ≡ remarks_of self.kinds.now (lent self.bodies) = λ i. remarks_of (ks i) (lent (bs i)) in (
      ap (λ (rs : List Record). c.args.at + remarks_size rs) all,
      ap (λ (rs : List Record). overlaid c.args.out.now c.args.at (remarks_bytes rs)) all,
      refl,
      omega (arith, c.requires.0, ap length ks, ap length bs),
    )

pub put_record-at-requires : goal.put_record-at-requires
put_record-at-requires c =
    let one = one_given _ _ _ _ _ _ c.in-Some.ensures.steps.0 c.in-Some.ensures.steps.1 in
    let more = size_left _ _ _ one in
    omega (arith, more, c.loop-kind.invariant.0, c.loop-kind.invariant.2, c.requires.1)

pub loop-kind-preserved : goal.loop-kind-preserved
loop-kind-preserved c =
    let steps = c.in-Some.ensures.steps in
    let v = c.loop-kind.invariant in
    let e = c.put_record-at.ensures in
    let one = one_given _ _ _ _ _ _ steps.0 steps.1 in
    let more = size_left _ _ _ one in (
      omega (arith, more, v.0, e.0),
      put_left _ _ _ one _ _ _ _ e.0 e.1 (omega (arith, more, v.0, v.2, e.0, c.requires.1)) ∙ v.1,
      c.put_record-at.auto.out ∙ v.2,
      omega (arith, v.3, ap length steps.0, ap length steps.1),
    )

pub returns : goal.returns
returns c = sym (put_none _ _ _ (none_given _ _ (ended c.in-None.ensures.steps c.loop-kind.invariant.3))) ∙ c.loop-kind.invariant.1
  where
    ended : {A B : Type 0} {m n : ℕ} {P : A → Type 0} {Q : B → Type 0} → (((x : A) × ((m ≡ 0) × P x)) ⊎ ((x : B) × ((n ≡ 0) × Q x))) → m ≤ n → m ≡ 0
    ended (inl a) h = a.1.0
    ended (inr b) h = let z = b.1.0 in omega arith
