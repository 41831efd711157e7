-- `tag::call_blocks` meets its contract. The invariant: the calls with the blocks so far are made.
use Rattle.std.proofs.Common.{◌≡◌}
use Rattle.roundtrip.specs.Steps.{after_blocks}
use Rattle.roundtrip.proofs.tag.call_blocks.Given as goal

abbrev pub invariant-loop-block : goal.invariant-loop-block
invariant-loop-block l = l.t ≡ after_blocks l.book l.coded l.block-index l.initial.t
