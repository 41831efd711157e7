-- `read::read_ink` meets its contract.
use mathlib.Core.Path.{ap, ◌∙◌}
use Rattle.cipher.proofs.PassedLaws.{passed}
use Rattle.inkfile.specs.ReadingSteps.{ink_told}
use Rattle.inkfile.specs.Reading.{told_of}
use Rattle.inkfile.proofs.ToldLaws.{laid_out, told_records}
use Rattle.inkfile.proofs.read.read_ink.Goals as goal

pub returns-in_err-found : goal.returns-in_err-found
unfolding told_of
returns-in_err-found c =
    ap ink_told (passed c.from_residual.ensures.1) ∙ laid_out _ _ _ _ _ _ c.in_err-found.ensures

pub returns : goal.returns
returns c = told_records _ _ _ c.saturating_sub.ensures ∙ laid_out _ _ _ _ _ _ c.in_ok-found.ensures
