-- `TryFrom<u8>` of `schedules::Schedule` meets its contract.
use Rattle.std.proofs.Common.{sym, ap, arith}
use Rattle.std.specs.Option.{ok_or}
use Rattle.cipher.specs.Schedules.{numbered}
use Rattle.cipher.specs.declared.refusal.Refusal.TheVariants.{ScheduleNumber}
use Rattle.cipher.proofs.SchedulesLaws.{numbered_0, numbered_1, unnumbered}
use Rattle.cipher.proofs.schedules.ScheduleTryFromU8.try_from.Goals as goal

pub returns-in-0 : goal.returns-in-0
unfolding numbered
returns-in-0 c = sym (ap (λ o. ok_or o ScheduleNumber) (numbered_0 _ (omega arith)))

pub returns-in-1 : goal.returns-in-1
unfolding numbered
returns-in-1 c = sym (ap (λ o. ok_or o ScheduleNumber) (numbered_1 _ (λ e. omega arith) (omega arith)))

pub returns-in_default : goal.returns-in_default
unfolding numbered
returns-in_default c = sym (ap (λ o. ok_or o ScheduleNumber) (unnumbered _ (λ e. omega arith) (λ e. omega arith)))
