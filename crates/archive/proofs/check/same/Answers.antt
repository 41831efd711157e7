-- `check::same` meets its contract.
use Rattle.std.proofs.Common.{rules}
use Rattle.std.proofs.lemmas.Iterator.{YieldsList-from_slice, YieldsList-from_zip}
use Rattle.std.proofs.lemmas.Iterator.Consumers.{YieldsList-at, fold_from_yields_List}
use Rattle.archive.proofs.CheckLaws.{differ, same_folded}
use Rattle.archive.proofs.check.same.Goals as goal

pub returns : goal.returns
returns c =
    let a = c.args in
    let pairs =
    YieldsList-from_zip (YieldsList-at c.zip.ensures.first (YieldsList-from_slice a.a (search rules)))
    (YieldsList-at c.zip.ensures.second (YieldsList-from_slice a.b.now (search rules))) in
    same_folded a.a a.b.now c.fold-differs.result (search rules) c.requires
    (fold_from_yields_List _ differ 0 c.fold-differs.result c.fold-differs.ensures.ran pairs (λ d p e q k. search rules))
