-- `lending::block_call` meets its contract.
use Rattle.std.proofs.Common.{ap, ◌∙◌}
use Rattle.cipher.proofs.PassedLaws.{passed}
use Rattle.driver.specs.Driver.{session_told}
use Rattle.driver.proofs.SessionLaws.{block_left}
use Rattle.driver.proofs.lending.block_call.Goals as goal

pub returns-in_err-block_call : goal.returns-in_err-block_call
returns-in_err-block_call c = ap (λ r. session_told r c.args.s) (passed c.from_residual.ensures.1) ∙ block_left _ _ _ _ _ c.in_err-block_call.ensures
