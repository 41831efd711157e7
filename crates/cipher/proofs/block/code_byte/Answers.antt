-- `block::code_byte` meets its contract.
use Rattle.std.proofs.Common.{◌≡◌, ℕ, ◌+◌, ◌*◌, ◌/◌, ◌%◌, get_or, ap, arith}
use Rattle.cipher.proofs.block.code_byte.Goals as goal

pub overflow_mul-result : goal.overflow_mul-result
overflow_mul-result c =
    omega (arith, c.requires.2 (32 * c.args.k + 16 + c.args.x / 16) (omega arith))

pub overflow_add-result-4 : goal.overflow_add-result-4
overflow_add-result-4 c =
    omega (arith, c.requires.2 (32 * c.args.k + c.args.x % 16) (omega arith), c.requires.2 (32 * c.args.k + 16 + c.args.x / 16) (omega arith))

pub returns : goal.returns
returns c =
    let a = c.args in
    let e : a.x / 16 ≡ a.x / 16 % 16 = omega arith in
    ap (λ (y : ℕ). get_or a.set.now (32 * a.k + a.x % 16) 0 + 16 * get_or a.set.now (32 * a.k + 16 + y) 0) e
