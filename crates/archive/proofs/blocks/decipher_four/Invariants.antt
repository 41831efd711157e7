-- `blocks::decipher_four` meets its contract. The invariants: of each block, what is left to undo, undone, is the whole undone;
-- and four rounds of the first blocks are undone.
use Rattle.std.proofs.Common.{◌≡◌, ◌*◌, ◌≤◌, ◌++◌, map, length, take, drop}
use Rattle.cipher.specs.Lea.{backward}
use Rattle.archive.proofs.OpenLaws.{four_undone}
use Rattle.archive.proofs.blocks.decipher_four.Given as goal

abbrev pub invariant-loop-q : goal.invariant-loop-q
invariant-loop-q l =
    (l.q ≤ l.initial.q) × (l.initial.q ≤ 8) × (length l.x ≡ 4) × (map (backward l.keys.rows (4 * l.q)) l.x ≡ map (backward l.keys.rows (4 * l.initial.q)) l.initial.x)

abbrev pub invariant-loop-y : goal.invariant-loop-y
invariant-loop-y l =
    l.y-items ≡ map (four_undone l.keys.rows l.q) (take l.y-index l.initial.y-items) ++ drop l.y-index l.initial.y-items
