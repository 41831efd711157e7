-- `text::code_part` meets its contract. The invariant: i bytes are written, and the rest is as it was.
use Rattle.std.proofs.Common.{◌≡◌, ◌+◌, ◌%◌, ◌++◌, length, get_or, drop}
use Rattle.lists.specs.Tabulation.{tab}
use Rattle.cipher.specs.Images.{image_at}
use Rattle.pad.proofs.text.code_part.Given as goal

abbrev pub invariant-loop-i : goal.invariant-loop-i
invariant-loop-i l =
    (length l.codes ≡ length l.part) × (l.codes ≡ tab l.i (λ k. image_at l.images ((l.from + k) % 16) (get_or l.part k 0)) ++ drop l.i l.initial.codes)
