-- `tag::call_blocks` meets its contract.
use Rattle.std.proofs.Common.{◌≡◌, ℕ, refl, ap, ◌∙◌, arith}
use Rattle.lists.proofs.FirstChunks.{chunk_lent, lent_count}
use Rattle.roundtrip.specs.Steps.{after_blocks}
use Rattle.roundtrip.proofs.TagRoundtrip.{after_turn}
use Rattle.roundtrip.proofs.tag.call_blocks.Goals as goal

pub loop-block-init : goal.loop-block-init
unfolding after_blocks
loop-block-init c = refl

pub loop-block-preserved : goal.loop-block-preserved
loop-block-preserved c =
    let a = c.args in
    let l = c.loop-block in
    c.unwrap_or-next.ensures
    ∙ after_turn a.book.now a.coded.now l.block-index a.s l.t _ c.block_call.result l.invariant
    (chunk_lent 16 _ _ _ _ _ c.as_chunks.ensures.front c.loop-block-test.true) c.block_call.ensures

pub returns : goal.returns
returns c =
    let a = c.args in
    let e : c.loop-block.block-index ≡ a.n = omega (arith, lent_count 16 a.n _ _ _ c.as_chunks.ensures.front (omega arith)) in
    c.loop-block.invariant ∙ ap (λ (k : ℕ). after_blocks a.book.now a.coded.now k a.s) e
