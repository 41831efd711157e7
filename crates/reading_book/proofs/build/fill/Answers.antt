-- `build::fill` meets its contract.
use mathlib.Core.Path.{◌≡◌, ◌∙◌}
use Prim.Native.Nat.{◌+◌, ◌*◌, zero-le}
use native.Mathlib.Nat.{le_of_eq}
use native.Mathlib.Omega.{arith}
use lib.ListN.{length}
use Rattle.lists.proofs.PartLaws.{part_end}
use Rattle.lists.proofs.TwoParts.{room_length, rest_length, rest_joined, both_length}
use Rattle.cipher.specs.KeySize.{rounds}
use Rattle.book.proofs.WholeLaws.{set_in}
use Rattle.reading_book.proofs.ReadingWhole.{rounds_back_length, group_length_lem, reading_book_is}
use Rattle.reading_book.proofs.build.fill.Goals as goal

pub round_parts-requires : goal.round_parts-requires
round_parts-requires c =
    let q = c.rounds-r.ensures in
    (c.requires.0, room_length (18432 * c.rounds-r.result) (rounds c.args.keys.size * 18432) c.args.out.now (omega arith) (omega (arith, c.requires.1)))

pub invariant_of-last : goal.invariant_of-last
invariant_of-last c =
    let ch = c.args.chain.now in
    let q = c.rounds-r.result in
    let s = set_in c.args.keys.size ch _ q c.requires.0 (le_of_eq c.rounds-r.ensures) (part_end ch (512 * (q + 1))) in
    record { permuted = s.0; room = s.1 }

pub invariant_of-before : goal.invariant_of-before
invariant_of-before c =
    let ch = c.args.chain.now in
    let s = set_in c.args.keys.size ch _ 0 c.requires.0 zero-le (part_end ch 512) in
    record { permuted = s.0; room = s.1 }

pub group-requires : goal.group-requires
group-requires c =
    let q = c.rounds-r.result in
    let h = c.rounds-r.ensures in
    let room : length c.args.out.now ≡ 18432 * q + 8192 = omega (arith, c.requires.1) in
    let x = rounds_back_length _ (rounds c.args.keys.size) (18432 * q) _ _ (omega arith) c.round_parts.ensures in (
      omega (arith, c.requires.0.size),
      rest_length c.round_parts.new.out c.args.out.now c.args.out.now (18432 * q) 8192 room x,
    )

pub shape_of-out : goal.shape_of-out
shape_of-out c =
    let q = c.rounds-r.result in
    let h = c.rounds-r.ensures in
    let room : length c.args.out.now ≡ 18432 * q + 8192 = omega (arith, c.requires.1) in
    let x = rounds_back_length _ (rounds c.args.keys.size) (18432 * q) _ _ (omega arith) c.round_parts.ensures in
    both_length c.round_parts.new.out c.group.new.out c.args.out.now (18432 * q) 8192 room x
    (group_length_lem _ _ _ _ c.group.ensures)

pub returns : goal.returns
returns c =
    let ch = c.args.chain.now in
    let q = c.rounds-r.result in
    let h = c.rounds-r.ensures in
    let room : length c.args.out.now ≡ 18432 * q + 8192 = omega (arith, c.requires.1) in
    let x = rounds_back_length _ (rounds c.args.keys.size) (18432 * q) _ _ (omega arith) c.round_parts.ensures in
    rest_joined c.round_parts.new.out c.group.new.out c.args.out.now (18432 * q) 8192 room x
    ∙ reading_book_is (rounds c.args.keys.size) q _ ch _ _ _ _ h (part_end ch (512 * (q + 1))) (part_end ch 512) c.round_parts.ensures c.group.ensures
