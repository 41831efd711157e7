-- `admit::Book::admit` meets its contract.
use Rattle.std.proofs.Common.{sym}
use Rattle.cipher.proofs.PassedLaws.{passed}
use Rattle.driver.proofs.AdmitLaws.{admitted_byte, body_room}
use Rattle.driver.proofs.admit.Book.admit.Goals as goal

pub body-requires : goal.body-requires
body-requires c = admitted_byte _ _ (sym c.in_ok-size.ensures)

pub invariant_of-result : goal.invariant_of-result
invariant_of-result c = record { whole = body_room _ _ (sym c.in_ok-size.ensures) _ c.body.ensures }

pub returns : goal.returns
returns c = record { taken = (sym c.in_ok-size.ensures, c.body.ensures); refused = tt }

pub returns-in_err-size : goal.returns-in_err-size
returns-in_err-size c =
    let e = passed c.from_residual.ensures.1 in
    record { taken = rw e tt; refused = rw e (sym c.in_err-size.ensures) }
