-- `size::KeySize::chain_len` meets its contract.
use Rattle.std.proofs.Common.{arith}
use Rattle.cipher.proofs.KeySizeLaws.{rounds_le}
use Rattle.cipher.proofs.size.KeySize.chain_len.Goals as goal

pub overflow_mul-result-2 : goal.overflow_mul-result-2
overflow_mul-result-2 c = record { fits = omega (arith, rounds_le c.args.self) }

pub overflow_add-result-2 : goal.overflow_add-result-2
overflow_add-result-2 c = record { fits = omega (arith, rounds_le c.args.self) }
