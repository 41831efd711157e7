-- `text::code_part` meets its contract. The invariant: i bytes are written, and the rest is as it was.
use Rattle.std.proofs.Common.{◌≡◌, ◌+◌, ◌-◌, ◌%◌, ◌++◌, List, ℕ, length, get_or, take, drop, refl, ap, ap₂, ◌∙◌, arith, length-set}
use borrow.Rule.Slice.PartMut.{Post-is}
use Rattle.lists.specs.Tabulation.{tab}
use Rattle.lists.proofs.PartLaws.{tab_turn, tab_full, length_part}
use Rattle.cipher.specs.Images.{image_at}
use Rattle.pad.specs.CodedParts.{coded_part}
use Rattle.pad.proofs.text.code_part.Goals as goal

pub loop-i-init : goal.loop-i-init
unfolding tab
loop-i-init c =
    let a = c.args in
    let part : length (take (a.from + length a.part.now - a.from) (drop a.from a.out.now)) ≡ length a.part.now =
    length_part a.out.now a.from (length a.part.now) c.requires ∙ (omega arith) in
    (part, refl)

pub loop-i-preserved : goal.loop-i-preserved
loop-i-preserved c =
    let a = c.args in (
      simp length-set c.loop-i.invariant.0,
      tab_turn (λ k. image_at a.images.now ((a.from + k) % 16) (get_or a.part.now k 0)) _ _ _ _ c.loop-i.invariant.1
          (ap (image_at a.images.now ((a.from + c.loop-i.i) % 16)) c.from.ensures) (omega arith),
    )

pub returns : goal.returns
unfolding coded_part
returns c =
    let a = c.args in
    ap (λ (l : List ℕ). take a.from a.out.now ++ l)
    (ap₂ {C = List ℕ} (λ (x y : List ℕ). x ++ y)
    (tab_full _ _ _ (length a.part.now) c.loop-i.i c.loop-i.invariant.1 (omega arith) (omega arith))
    (Post-is a.from (a.from + length a.part.now) a.out.now (omega arith)))
