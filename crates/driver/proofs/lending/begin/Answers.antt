-- `lending::begin` meets its contract.
use Rattle.std.proofs.Common.{ap, ◌∙◌}
use Rattle.cipher.proofs.PassedLaws.{passed}
use Rattle.driver.specs.Driver.{session_told}
use Rattle.driver.proofs.SessionLaws.{begun_left}
use Rattle.driver.proofs.lending.begin.Goals as goal

pub returns-in_err-begin : goal.returns-in_err-begin
returns-in_err-begin c = ap (λ r. session_told r c.args.s) (passed c.from_residual.ensures.1) ∙ begun_left _ _ _ _ c.in_err-begin.ensures
