-- `of` of inverted codings meets its contract.
use Rattle.std.proofs.Common.{sym, subst}
use Rattle.lists.specs.Blocks.{Below}
use Rattle.table_maker.proofs.InvertedLaws.{inverse_below}
use Rattle.table_maker.proofs.inverted.Inverted.of.Goals as goal

pub invariant_of-result : goal.invariant_of-result
invariant_of-result g c = record { low = subst (Below 16) (sym c.invert.ensures) (inverse_below _ c.args.codings.now c.requires.2) }
