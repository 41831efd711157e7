-- `size::KeySize::book_len` meets its contract.
use Rattle.std.proofs.Common.{arith}
use Rattle.cipher.proofs.KeySizeLaws.{rounds_le}
use Rattle.cipher.proofs.size.KeySize.book_len.Goals as goal

pub overflow_mul-result : goal.overflow_mul-result
overflow_mul-result c = record { fits = omega (arith, rounds_le c.args.self) }

pub overflow_add-result : goal.overflow_add-result
overflow_add-result c = record { fits = omega (arith, rounds_le c.args.self) }

pub overflow_add-result-2 : goal.overflow_add-result-2
overflow_add-result-2 c = record { fits = omega (arith, rounds_le c.args.self) }
