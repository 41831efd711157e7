-- `start::start` meets its contract.
use Rattle.std.proofs.Common.{Option, ap, ◌∙◌}
use Rattle.std.specs.Option.{ok_or}
use Rattle.cipher.specs.declared.size.KeySize.{KeySize}
use Rattle.cipher.specs.declared.refusal.Refusal.TheVariants.{KeyLength}
use Rattle.cipher.proofs.PassedLaws.{passed}
use Rattle.roundtrip.specs.Steps.{start_told}
use Rattle.roundtrip.proofs.StartLaws.{start_refused, start_done}
use Rattle.roundtrip.proofs.start.start.Goals as goal

pub returns-in_err-build : goal.returns-in_err-build
returns-in_err-build c =
    (λ i. (ap start_told (passed c.from_residual.ensures.1) i, c.build.new.out)) ∙ start_refused _ _ _ _ _ _ c.build.ensures _ c.in_err-build.was

pub returns : goal.returns
returns c =
    start_done _ _ _ _ _ _ c.build.ensures c.in_ok-build.was _ (c.ok_or.ensures.value ∙ ap (λ (o : Option KeySize). ok_or o KeyLength) c.of_key_len.ensures)
