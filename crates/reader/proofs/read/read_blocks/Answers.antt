-- `read::read_blocks` meets its contract.
use mathlib.Core.Path.{ap, ◌∙◌}
use Prim.Native.Nat.{ℕ}
use native.Mathlib.Omega.{arith}
use Rattle.cipher.proofs.KeySizeLaws.{rounds_more}
use Rattle.reading.specs.Shown.{read_text}
use Rattle.reader.proofs.BlockLoops.{group_is, read_is}
use Rattle.reader.proofs.read.read_blocks.Goals as goal

pub returns : goal.returns
returns c =
    let a = c.args in
    let q = c.rounds-r.result in
    read_is a.book.now a.iv a.sealed.now q (omega (arith, c.rounds-r.ensures, rounds_more a.size)) c.requires.1 _ _ _ _
    c.copy.ensures c.rounds.ensures (λ x y. group_is a.book.now q _ x y (omega (arith, c.rounds-r.ensures, c.requires.0)) c.as_chunks.ensures.front) c.folds.ensures
    ∙ ap (λ (r : ℕ). read_text a.book.now r a.iv a.sealed.now) c.rounds-r.ensures
