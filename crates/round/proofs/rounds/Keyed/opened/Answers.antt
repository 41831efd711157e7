-- `rounds::Keyed::opened` meets its contract.
use Rattle.std.proofs.Common.{refl}
use Rattle.round.proofs.RoundLaws.{set_there, set_permutes, inverse_there, inverse_low, opened_is}
use Rattle.round.proofs.rounds.Keyed.opened.Goals as goal

pub invert-requires : goal.invert-requires
invert-requires c =
    let s = c.args.self.now in
    (set_there s.size _ c.args.n s.ready.1 c.requires, refl, set_permutes s.size _ c.args.n s.ready.1 c.requires)

pub code_block-requires : goal.code_block-requires
code_block-requires c =
    let s = c.args.self.now in
    (inverse_there s.size _ c.args.n s.ready.1 c.requires _ c.invert.ensures, inverse_low s.size _ c.args.n s.ready.1 c.requires _ c.invert.ensures)

pub returns : goal.returns
returns c =
    let s = c.args.self.now in
    opened_is s.size _ c.args.n s.ready.1 c.requires _ c.invert.ensures _ _ c.code_block.ensures
