-- `read::all_records` meets its contract. The invariant: the walk has come to record k without a fault, and what is told of the records
-- before it is filled in.
use mathlib.Core.Path.{◌≡◌}
use Prim.Native.Nat.{◌-◌}
use Rattle.inkfile.specs.Reading.{kinds_to, offsets_to, lengths_to}
use Rattle.inkfile.specs.ReadingSteps.{filled_up, kinds_in, offsets_in, lengths_in}
use Rattle.inkfile.proofs.RecordsLaws as L
use Rattle.inkfile.proofs.read.all_records.Given as goal

abbrev pub invariant-loop-all : goal.invariant-loop-all
invariant-loop-all l =
    L.Behind l.file l.count l.at × (kinds_in l.all ≡ filled_up (kinds_to l.file l.count) l.count)
    × (offsets_in l.all ≡ filled_up (offsets_to l.file l.count) l.count) × (lengths_in l.all ≡ filled_up (lengths_to l.file l.count) l.count)

abbrev pub decreases-loop-all : goal.decreases-loop-all
decreases-loop-all l = 8 - l.count
