-- `blocks::folds` meets its contract. The invariant: k blocks are folded, the rest is as it was, and `before` stands in front of the next.
use mathlib.Core.Path.{refl, ap₂, ◌∙◌}
use native.Mathlib.Omega.{arith}
use Rattle.lists.specs.Tabulation.{chunks}
use Rattle.lists.specs.Blocks.{block_before}
use Rattle.lists.proofs.BlockBuffers.{made_next, made_more}
use Rattle.cipher.specs.Tables.{table_fold}
use Rattle.lists.proofs.FirstChunks.{chunk_is, chunk_count}
use Rattle.reader.proofs.BlockLoops.{fold_of, length_fold, all_made, before_more}
use Rattle.reader.proofs.blocks.folds.Goals as goal

pub loop-k-init : goal.loop-k-init
unfolding block_before chunks
loop-k-init c = (refl, refl, refl)

pub loop-k-preserved : goal.loop-k-preserved
loop-k-preserved c =
    let a = c.args in
    let v = c.loop-k.invariant in
    let f = fold_of a.f.now a.iv a.sealed.now a.out.now in
    let len = length_fold a.f.now a.iv a.sealed.now a.out.now in
    let read = c.block_at.ensures ∙ made_next f len a.out.now c.loop-k.k c.loop-k.out v.1 in (
      before_more a.iv a.sealed.now _ c.loop-k.k (chunk_is 16 _ c.loop-k.k _ _ c.as_chunks.ensures.front (omega (arith, chunk_count 16 _ _ _ c.as_chunks.ensures.front, c.loop-k-test.true))),
      c.put_block.ensures
          ∙ made_more f len a.out.now c.loop-k.k c.loop-k.out v.1 c.fold.result (c.fold.ensures ∙ ap₂ (table_fold a.f.now) read v.0),
      c.put_block.auto.d ∙ v.2,
    )

pub returns : goal.returns
returns c =
    all_made _ _ _ c.requires.1 c.loop-k.k (omega (arith, chunk_count 16 _ _ _ c.as_chunks.ensures.front, c.requires.0)) c.loop-k.invariant.1
