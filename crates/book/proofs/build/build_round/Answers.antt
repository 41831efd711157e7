-- `build::build_round` meets its contract.
use Rattle.std.proofs.Common.{◌%◌, ◌<◌, sym, ap, subst, ◌∙◌, arith}
use lib.Seq.{length-take-le}
use Rattle.cipher.specs.KeySize.{rounds}
use Rattle.cipher.specs.Refusal.{outcome_of}
use Rattle.cipher.specs.Chain.{Chain}
use Rattle.cipher.specs.declared.size.KeySize.{KeySize}
use Rattle.cipher.proofs.PassedLaws.{passed}
use Rattle.cipher.proofs.SchedulesLaws.{key_named, rows_named}
use Rattle.cipher.proofs.CheckLaws.{chain_checked_lem}
use Rattle.book.proofs.AnswerLaws.{built_refused, built_unchained, built_room, built_done, round_below, round_is}
use Rattle.book.proofs.build.build_round.Goals as goal

pub returns-in_err-key : goal.returns-in_err-key
returns-in_err-key c =
    ap (λ r. (outcome_of r, c.args.out.now)) (passed c.from_residual.ensures.1) ∙ sym (built_refused _ _ _ _ _ _ _ _ _ c.in_err-key.ensures)

pub returns-in_err-check_sized : goal.returns-in_err-check_sized
returns-in_err-check_sized c =
    ap (λ r. (outcome_of r, c.args.out.now)) (passed c.from_residual-in_err-check_sized.ensures.1)
    ∙ sym (built_unchained _ _ _ _ _ _ _ _ _ _ (key_named _ _ c.in_ok-key.ensures) _ c.in_err-check_sized.ensures)

pub returns-then-out-lt-ROUND_TABLES : goal.returns-then-out-lt-ROUND_TABLES
returns-then-out-lt-ROUND_TABLES c =
    sym (built_room _ _ _ _ _ _ _ _ _ _ (key_named _ _ c.in_ok-key.ensures) (chain_checked_lem _ _ (sym c.in_ok-check_sized.ensures))
    c.if-out-lt-ROUND_TABLES.true)

pub round_at-requires : goal.round_at-requires
round_at-requires c =
    let z = c.in_ok-key.key.size in
    let same = c.round_keys.ensures.size in (
      subst (λ (z : KeySize). Chain z c.args.chain.now) (sym same) (chain_checked_lem _ _ (sym c.in_ok-check_sized.ensures)),
      subst (λ (y : KeySize). c.args.l % c.rounds.result < rounds y) (sym same) (round_below z c.args.l c.rounds.result c.rounds.ensures),
      length-take-le 18432 c.args.out.now (omega arith),
    )

pub returns : goal.returns
returns c =
    let z = c.in_ok-key.key.size in
    let keys = c.round_keys.ensures in
    built_done _ _ _ _ _ _ _ _ _ z (key_named _ _ c.in_ok-key.ensures) (chain_checked_lem _ _ (sym c.in_ok-check_sized.ensures))
    (omega arith) _
    (round_is _ z c.args.key.now c.args.chain.now _ _ _ c.args.l _ c.rounds.ensures (rows_named _ _ c.in_ok-key.ensures keys.rows) keys.size c.round_at.ensures)
