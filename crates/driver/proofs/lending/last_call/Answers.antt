-- `lending::last_call` meets its contract.
use Rattle.std.proofs.Common.{ap, ◌∙◌}
use Rattle.cipher.proofs.PassedLaws.{passed}
use Rattle.driver.specs.Driver.{tag_told}
use Rattle.driver.proofs.SessionLaws.{last_left}
use Rattle.driver.proofs.lending.last_call.Goals as goal

pub returns-in_err-tag : goal.returns-in_err-tag
returns-in_err-tag c = ap (λ r. tag_told r c.args.s) (passed c.from_residual.ensures.1) ∙ last_left _ _ _ _ _ _ c.in_err-tag.ensures
