-- `blocks::decipher_four` meets its contract.
use Rattle.std.proofs.Common.{◌≡◌, ℕ, ◌-◌, ◌*◌, ◌/◌, map, refl, sym, ap, ◌∙◌, rules, arith, set}
use Rattle.std.proofs.lemmas.List.Edits.{map_over_more}
use Rattle.cipher.specs.Lea.{backward}
use Rattle.cipher.proofs.KeySizeLaws.{rounds_le, rounds_fours}
use Rattle.archive.proofs.OpenLaws.{four_undone, undone_turn, undone_none}
use Rattle.archive.proofs.blocks.decipher_four.Goals as goal

pub loop-q-init : goal.loop-q-init
loop-q-init c = (omega arith, omega (arith, rounds_le c.args.keys.now.size), search rules, refl)

pub loop-y-init : goal.loop-y-init
loop-y-init c = refl

pub loop-y-preserved : goal.loop-y-preserved
loop-y-preserved c =
    ap (set c.loop-y.y-items c.loop-y.y-index) c.four_unrounds-z.ensures
    ∙ map_over_more (four_undone c.args.keys.now.rows (c.loop-q.q - 1)) c.loop-q.x c.loop-y.y-items c.loop-y.y-index _ (omega arith) c.loop-y.invariant (search rules)

pub loop-q-preserved : goal.loop-q-preserved
loop-q-preserved c = (
  omega arith,
  c.loop-q.invariant.1,
  omega arith,
  undone_turn c.args.keys.now.rows (c.loop-q.q - 1) c.loop-q.q c.loop-y.y-index c.loop-q.x c.loop-y.y-items (omega arith) (omega arith) c.loop-y.invariant ∙ c.loop-q.invariant.3,
)

pub returns : goal.returns
returns c =
    let keys = c.args.keys.now in
    let e : 0 ≡ 4 * c.loop-q.q = omega arith in
    sym (undone_none keys.rows c.loop-q.x)
    ∙ ap (λ (n : ℕ). map (backward keys.rows n) c.loop-q.x) e
    ∙ c.loop-q.invariant.3
    ∙ ap (λ (n : ℕ). map (backward keys.rows n) c.args.blocks) (ap (λ (n : ℕ). 4 * (n / 4)) c.rounds-q.ensures ∙ rounds_fours keys.size)
