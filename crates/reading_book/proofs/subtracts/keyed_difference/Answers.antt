-- `subtracts::keyed_difference` meets its contract.
use mathlib.Core.Path.{ap}
use Prim.Native.Nat.{◌%◌}
use native.Mathlib.Omega.{arith}
use lib.Bits.{bit_xor, xor_lt}
use lib.Dec.{lit<}
use Rattle.reading_book.proofs.subtracts.keyed_difference.Goals as goal

pub returns : goal.returns
returns c =
    let s = c.args.s % 16 in
    let l = c.args.l in
    let a = xor_lt 4 15 l (lit< tt) c.requires in
    (ap (bit_xor s) c.from.ensures, xor_lt 4 s c.from.result (omega arith) (omega (arith, c.from.ensures, a)))
