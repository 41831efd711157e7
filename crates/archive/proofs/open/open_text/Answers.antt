-- `open::open_text` meets its contract.
use Rattle.std.proofs.Common.{◌≡◌, ℕ, ◌+◌, ◌-◌, ◌*◌, ◌/◌, List, ◌++◌, length, take, drop, sym, ap, ap₂, ◌∙◌, append_assoc, arith}
use borrow.Rule.Slice.PartMut.{Post-is}
use Rattle.cipher.specs.KeySize.{rounds}
use Rattle.cipher.specs.Images.{imaged}
use Rattle.cipher.specs.Refusal.{written_of, number_of}
use Rattle.cipher.proofs.ImageLaws.{block_imaged}
use Rattle.cipher.proofs.PassedLaws.{passed, or_none, or_some}
use Rattle.archive.specs.declared.blocks.Sealed.{Sealed}
use Rattle.archive.specs.Opened.{opened_of}
use Rattle.archive.proofs.OpenLaws.{block_opened}
use Rattle.archive.proofs.PaddingLaws.{few}
use Rattle.archive.proofs.OpenedLaws.{text_bad, text_made}
use Rattle.archive.proofs.open.open_text.Goals as goal

size : (s : Sealed) (k : ℕ) → length (opened_of s k) ≡ 16
size s k = (block_opened s.keys.rows (rounds s.keys.size) (imaged s.table.now) (λ b. block_imaged s.table.now b s.decodes) s.iv s.text.now k).size

pub returns-in_err-v : goal.returns-in_err-v
returns-in_err-v c =
    let q = c.requires in
    let none = or_none _ _ _ c.in_err-v.ensures.value in
    (λ i. (((ap written_of (passed c.from_residual.ensures.1) ∙ ap (λ r. (number_of r, 0)) none.1) i), c.args.out.now))
    ∙ sym (text_bad _ (size c.args.sealed.now) _ q.0 q.2 _ _ c.open_block-last.ensures (sym c.padding.ensures ∙ none.0))

pub overflow_sub-left : goal.overflow_sub-left
overflow_sub-left c = omega (arith, few c.open_block-last.result _ (sym c.padding.ensures ∙ or_some _ _ _ c.in_ok-v.ensures.value))

pub overflow_sub-result : goal.overflow_sub-result
overflow_sub-result c =
    let p = few c.open_block-last.result _ (sym c.padding.ensures ∙ or_some _ _ _ c.in_ok-v.ensures.value) in
    omega (arith, p)

pub returns : goal.returns
returns c =
    let q = c.requires in
    let o = c.open_blocks.new.out in
    let at = 16 * (length c.args.sealed.now.text.now / 16 - 1) in
    let left = 16 - c.in_ok-v.v in
    let e : left - 0 ≡ left = omega arith in
    let front = c.copy_from_slice.ensures.after ∙ ap (λ (n : ℕ). take n c.open_block-last.result) e in
    let put = ap₂ {C = List ℕ} (λ (x y : List ℕ). take at o ++ (x ++ y)) front (Post-is at (at + left) o (omega arith))
    ∙ sym (append_assoc (take at o) (take left c.open_block-last.result) (drop (at + left) o)) in
    text_made _ (size c.args.sealed.now) _ q.0 q.2 _ _ c.open_block-last.ensures _ (sym c.padding.ensures ∙ or_some _ _ _ c.in_ok-v.ensures.value)
    _ _ c.open_blocks.ensures put
