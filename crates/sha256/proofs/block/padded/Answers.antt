-- `block::padded` meets its contract.
use Rattle.std.proofs.Common.{refl, ◌∙◌}
use Rattle.sha256.proofs.PaddingLaws.{padded_stored}
use Rattle.sha256.proofs.block.padded.Goals as goal

pub returns : goal.returns
returns c = padded_stored c.args.m.now _ refl c.requires _ _ c.copied-p.ensures (c.copy_from_slice.ensures.after ∙ c.to_be_bytes.ensures)
