-- `size::KeySize::with_length` meets its contract.
use Rattle.std.proofs.Common.{sym, arith}
use Rattle.cipher.proofs.KeySizeLaws.{found_16, found_24, found_32, found_none}
use Rattle.cipher.proofs.size.KeySize.with_length.Goals as goal

pub returns-then-n-length : goal.returns-then-n-length
returns-then-n-length g c len told = let a = told _ _ c.length.ensures in sym (found_16 len _ (omega arith))

pub returns-then-n-length-2 : goal.returns-then-n-length-2
returns-then-n-length-2 g c len told =
    let a = told _ _ c.length.ensures in
    let b = told _ _ c.length-2.ensures in
    sym (found_24 len _ (λ e. omega arith) (omega arith))

pub returns-then-n-length-3 : goal.returns-then-n-length-3
returns-then-n-length-3 g c len told =
    let a = told _ _ c.length.ensures in
    let b = told _ _ c.length-2.ensures in
    let d = told _ _ c.length-3.ensures in
    sym (found_32 len _ (λ e. omega arith) (λ e. omega arith) (omega arith))

pub returns : goal.returns
returns g c len told =
    let a = told _ _ c.length.ensures in
    let b = told _ _ c.length-2.ensures in
    let d = told _ _ c.length-3.ensures in
    sym (found_none len _ (λ e. omega arith) (λ e. omega arith) (λ e. omega arith))
