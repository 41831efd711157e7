-- `build::fill` meets its contract.
use mathlib.Core.Path.{◌∙◌}
use Prim.Native.Nat.{◌+◌, ◌*◌}
use native.Mathlib.Nat.{le_of_eq}
use native.Mathlib.Omega.{arith}
use lib.ListN.{length}
use lib.Seq.{length-take-le}
use Rattle.lists.proofs.PartLaws.{part_end}
use Rattle.cipher.specs.KeySize.{rounds}
use Rattle.table_maker.specs.Made.{three_keys}
use Rattle.table_maker.proofs.ChainLaws.{message_permutes}
use Rattle.book.proofs.WholeLaws.{set_in, start_length_lem, groups_length, groups_room, after_length, rounds_room, all_joined, all_length, rounds_length, after_first, book_is}
use Rattle.book.proofs.build.fill.Goals as goal

pub invariant_of-last : goal.invariant_of-last
invariant_of-last c =
    let ch = c.args.chain.now in
    let q = c.rounds.result in
    let s = set_in c.args.keys.size ch _ q c.requires.0 (le_of_eq c.rounds.ensures) (part_end ch (512 * (q + 1))) in
    record { permuted = s.0; room = s.1 }

pub invariant_of-message : goal.invariant_of-message
invariant_of-message c =
    let ch = c.args.chain.now in
    record { permuted = message_permutes c.args.keys.size ch c.requires.0; room = omega (arith, c.requires.0.size) }

pub start-requires : goal.start-requires
start-requires c = length-take-le 16 c.args.out.now (omega arith)

pub groups-requires : goal.groups-requires
groups-requires c =
    let ch = c.args.chain.now in (
      after_first ch (omega (arith, c.requires.0.size)),
      groups_room c.start.new.out c.args.out.now _ (rounds c.args.keys.size) (start_length_lem _ _ c.start.ensures) c.requires.1
          c.requires.1,
    )

pub slice_bounds-round_parts-end : goal.slice_bounds-round_parts-end
slice_bounds-round_parts-end c =
    let n = c.requires.1 in
    let s = start_length_lem _ _ c.start.ensures in
    let g = groups_length _ _ _ _ (three_keys _ _) c.groups.ensures in
    let m = after_length c.start.new.out c.args.out.now (length c.args.out.now) (rounds c.args.keys.size) s c.requires.1 n
    c.groups.new.out g in
    omega (arith, n, m)

pub round_parts-requires : goal.round_parts-requires
round_parts-requires c =
    let n = c.requires.1 in
    let s = start_length_lem _ _ c.start.ensures in
    let g = groups_length _ _ _ _ (three_keys _ _) c.groups.ensures in (
      c.requires.0,
      rounds_room c.start.new.out c.args.out.now (length c.args.out.now) (rounds c.args.keys.size) s c.requires.1 n
          c.groups.new.out g,
    )

pub shape_of-out : goal.shape_of-out
shape_of-out c =
    all_length c.start.new.out c.args.out.now (length c.args.out.now) (rounds c.args.keys.size)
    (start_length_lem _ _ c.start.ensures) c.requires.1 c.requires.1 c.groups.new.out
    (groups_length _ _ _ _ (three_keys _ _) c.groups.ensures)
    c.round_parts.new.out (rounds_length _ (rounds c.args.keys.size) _ _ c.round_parts.ensures)

pub returns : goal.returns
returns c =
    let ch = c.args.chain.now in
    let q = c.rounds.result in
    all_joined c.start.new.out c.args.out.now (length c.args.out.now) (rounds c.args.keys.size)
    (start_length_lem _ _ c.start.ensures) c.requires.1 c.requires.1 c.groups.new.out
    (groups_length _ _ _ _ (three_keys _ _) c.groups.ensures)
    c.round_parts.new.out
    ∙ book_is (rounds c.args.keys.size) q _ ch _ _ _ _ _ _ _ c.rounds.ensures (part_end ch (512 * (q + 1))) (part_end ch 512)
    c.subkeys.ensures.k1 c.subkeys.ensures.k2 c.start.ensures c.groups.ensures c.round_parts.ensures
