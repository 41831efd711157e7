-- `seal::seal_blocks` meets its contract. The invariant: k blocks are sealed, and x is the last of them.
use Rattle.std.proofs.Common.{◌≡◌, ℕ, ◌*◌, ◌/◌, ◌++◌, length, drop, refl, ap, ◌∙◌, arith}
use mathlib.Core.List.{flatten}
use Rattle.lists.specs.Blocks.{cut, blocks}
use Rattle.lists.proofs.FirstChunks.{chunk_is}
use Rattle.driver.specs.Driver.{passed_from}
use Rattle.driver.proofs.SealLaws.{passed_last, done, seal_end, seal_turn}
use Rattle.driver.proofs.seal.seal_blocks.Goals as goal

pub loop-k-init : goal.loop-k-init
unfolding cut passed_last passed_from flatten
loop-k-init c = (refl, refl, refl)

pub loop-k-preserved : goal.loop-k-preserved
loop-k-preserved c =
    let a = c.args in
    let l = c.loop-k in
    let m = chunk_is 16 _ l.k _ _ c.as_chunks.ensures.front (omega (arith, c.loop-k-test.true, c.as_chunks.ensures.front_len)) in
    let y = c.pass-y.ensures in
    let p = c.put_block in (
      seal_end a.book.now.body.now a.iv a.coded.now a.out.now l.k l.x _ _ l.out l.invariant.0 m y l.invariant.1,
      p.ensures ∙ seal_turn a.book.now.body.now a.iv a.coded.now a.out.now l.k l.x _ _ l.out l.invariant.0 m y l.invariant.1,
      p.auto.d ∙ l.invariant.2,
    )

pub returns : goal.returns
unfolding blocks
returns c =
    let a = c.args in
    let all : c.loop-k.k ≡ length a.coded.now / 16 = omega (arith, c.loop-k.auto.k-end, c.loop-k-test.false, c.as_chunks.ensures.front_len) in
    c.loop-k.invariant.1 ∙ ap (λ (k : ℕ). done a.book.now.body.now a.iv a.coded.now a.out.now k ++ drop (16 * k) a.out.now) all
