-- The masks of specs/Examples come out as they are said to, by computation.
use mathlib.Core.Path.{refl}
use Rattle.lists.specs.Tabulation.{tab}
use Rattle.maker.specs.MadeChain.{mask_from, masks_from}
use Rattle.maker.specs.Examples.{MarkedMasks}

pub marked_masks : MarkedMasks
unfolding masks_from mask_from tab
marked_masks = record { low = refl; both = refl; high = refl; each = refl }
