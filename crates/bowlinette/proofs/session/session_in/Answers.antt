-- `session::session_in` meets its contract.
use Rattle.std.proofs.Common.{◌≡◌, ◌+◌, ◌*◌, not, eqb, get_or, arith}
use Rattle.bowlinette.specs.Session.{session_in}
use Rattle.bowlinette.proofs.session.session_in.Goals as goal

pub returns : goal.returns
unfolding session_in
returns c =
    let b = c.args.b in
    let taken : c.from_le_bytes.result ≡ get_or b 16 0 + 256 * get_or b 17 0 = omega (arith, c.from_le_bytes.ensures) in
    λ i. record { block = c.block_at-block.ensures i; taken = taken i; finished = not (eqb (get_or b 18 0) 0) }
