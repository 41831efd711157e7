-- `of_chain` of rounds meets its contract.
use Rattle.std.proofs.Common.{◌+◌, ◌*◌, drop, refl, arith}
use Rattle.lists.proofs.PartLaws.{part_end}
use Rattle.table_maker.proofs.ChainLaws.{round_ready, round_bytes_lem, codings_at}
use Rattle.table_maker.proofs.rounds.Round.of_chain.Goals as goal

pub invariant_of-middles : goal.invariant_of-middles
invariant_of-middles c =
    let ch = c.args.chain.now in
    let l = c.args.l in
    let n = 512 * (c.rounds-r.result + 2) + 408 * l in
    record {
      valid = round_bytes_lem (drop (512 * (l + 1)) ch) (drop (512 * (l + 2)) ch) _
          (round_ready c.args.size ch c.requires.0.2 l _ _ _ (512 * (l + 1)) (512 * (l + 2)) n c.requires.1
          refl refl (part_end ch n) (omega arith) (omega arith) (omega (arith, c.rounds-r.ensures)));
    }

pub invariant_of-result : goal.invariant_of-result
invariant_of-result c =
    let ch = c.args.chain.now in
    let l = c.args.l in
    let n = 512 * (c.rounds-r.result + 2) + 408 * l in
    record {
      ready = round_ready c.args.size ch c.requires.0.2 l _ _ _ (512 * (l + 1)) (512 * (l + 2)) n c.requires.1
          (part_end ch (512 * (l + 1))) (part_end ch (512 * (l + 2))) (part_end ch n) (omega arith) (omega arith) (omega (arith, c.rounds-r.ensures));
    }

pub returns : goal.returns
returns c =
    let ch = c.args.chain.now in
    let l = c.args.l in
    let n = 512 * (c.rounds-r.result + 2) + 408 * l in
    codings_at c.args.size ch c.requires.0.2 l _ _ _ (512 * (l + 1)) (512 * (l + 2)) n c.requires.1
    (part_end ch (512 * (l + 1))) (part_end ch (512 * (l + 2))) (part_end ch n) (omega arith) (omega arith) (omega (arith, c.rounds-r.ensures))
