-- `blocks::Sealed::words_before` meets its contract.
use Rattle.std.proofs.Common.{ap, ◌∙◌}
use Rattle.words.specs.Word.{words4}
use Rattle.cipher.specs.Images.{imaged}
use Rattle.archive.proofs.OpenLaws.{before_first, before_next}
use Rattle.archive.proofs.blocks.Sealed.words_before.Goals as goal

pub returns-then-k-eq0 : goal.returns-then-k-eq0
returns-then-k-eq0 c =
    let s = c.args.self.now in
    c.decoded.ensures ∙ ap (λ b. words4 (imaged s.table.now b)) (before_first s.iv s.text.now c.args.k c.if-k-eq0.true)

pub returns : goal.returns
returns c =
    let s = c.args.self.now in
    c.words_of.ensures ∙ ap (λ b. words4 (imaged s.table.now b)) (before_next s.iv s.text.now c.args.k c.if-k-eq0.false)
