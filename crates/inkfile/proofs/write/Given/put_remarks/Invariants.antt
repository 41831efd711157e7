-- `write::Given::put_remarks` meets its contract. The invariant: with the remarks that are left in their places, all are in theirs.
use Rattle.std.proofs.Common.{◌≡◌, ◌+◌, ◌≤◌, length}
use Rattle.lists.specs.Overlay.{overlaid}
use Rattle.inkfile.specs.Writing.{remarks_of}
use Rattle.inkfile.specs.WritingSteps.{lent, given, remarks_bytes, remarks_size}
use Rattle.inkfile.proofs.write.Given.put_remarks.Given as goal

abbrev pub invariant-loop-kind : goal.invariant-loop-kind
invariant-loop-kind l =
    let rest = remarks_of l.kind-iterator.a.rest.now (lent l.kind-iterator.b.rest.now) in
    (l.at + remarks_size rest ≡ l.initial.at + remarks_size (given l.self).remarks)
    × (overlaid l.out l.at (remarks_bytes rest) ≡ overlaid l.initial.out l.initial.at (remarks_bytes (given l.self).remarks))
    × (length l.out ≡ length l.initial.out) × (length l.kind-iterator.a.rest.now ≤ length l.kind-iterator.b.rest.now)
