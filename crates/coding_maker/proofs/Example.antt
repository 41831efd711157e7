-- The codings of specs/Examples come out as they are said to, by computation.
use mathlib.Core.Path.{refl}
use Rattle.lists.specs.Tabulation.{tab}
use Rattle.coding_maker.specs.Draw.{skipped, swapped, shuffled, shuffle_draws, unshuffled, coding_from, coding_draws}
use Rattle.coding_maker.specs.Examples.{MarkedCodings}

pub marked_codings : MarkedCodings
unfolding tab skipped swapped shuffled shuffle_draws unshuffled coding_from coding_draws
marked_codings = record { limits = refl; zero = refl; seven = refl; own = refl; skips = refl; zero_count = refl; skip_count = refl }
