-- `chain::word_kept` meets its contract.
use Rattle.std.proofs.Common.{◌+◌, ◌-◌, ◌*◌, true, take, drop, arith, rules}
use Rattle.std.proofs.lemmas.Iterator.{YieldsList-from_slice, YieldsList-from_zip}
use Rattle.std.proofs.lemmas.Iterator.Consumers.{YieldsList-at, fold_from_yields_List}
use Rattle.cipher.proofs.CheckLaws.{keep, word_folded}
use Rattle.cipher.proofs.chain.word_kept.Goals as goal

pub returns : goal.returns
returns c =
    let a = c.args in
    let new = take (128 * a.to + 128 - 128 * a.to) (drop (128 * a.to) a.after.now) in
    let old = take (128 * a.from + 128 - 128 * a.from) (drop (128 * a.from) a.before.now) in
    let pairs =
    YieldsList-from_zip {xs = new} {ys = old} (YieldsList-at c.zip.ensures.first (YieldsList-from_slice new (search rules)))
    (YieldsList-at c.zip.ensures.second (YieldsList-from_slice old (search rules))) in
    word_folded a.from a.to a.before.now a.after.now c.fold.result (omega arith) (omega arith)
    (fold_from_yields_List _ keep true c.fold.result c.fold.ensures.ran pairs (λ b p e q k. search rules))
