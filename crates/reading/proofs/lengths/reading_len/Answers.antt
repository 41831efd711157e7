-- `lengths::reading_len` meets its contract.
use native.Mathlib.Omega.{arith}
use Rattle.cipher.proofs.KeySizeLaws.{rounds_le}
use Rattle.reading.proofs.lengths.reading_len.Goals as goal

pub overflow_mul-result : goal.overflow_mul-result
overflow_mul-result c = record { fits = omega (arith, rounds_le c.args.size) }

pub overflow_add-result : goal.overflow_add-result
overflow_add-result c = record { fits = omega (arith, rounds_le c.args.size) }
