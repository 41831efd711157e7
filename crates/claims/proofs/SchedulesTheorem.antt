-- The numbers of the schedules, the refusal of every other one, the rows that each gives, and what is known of any rows.
use Rattle.std.proofs.Common.{None, Err}
use mathlib.Core.Path.{◌≡◌, refl, ap, ◌∙◌}
use mathlib.Core.List.{List, []}
use Prim.Native.Nat.{ℕ, ◌%◌, ◌<◌}
use native.Mathlib.Nat.{mod-eq_of_lt}
use native.Mathlib.Omega.{arith}
use lib.ListN.{get_or}
use Rattle.lists.specs.Refusals.{first}
use Rattle.words.specs.Rows.{blank}
use Rattle.wf_lea.proofs.RowLaws.{row_at}
use Rattle.cipher.specs.KeySize.{rounds}
use Rattle.cipher.specs.Schedules.{schedule_found, Named, key_of, key_read, key_rows}
use Rattle.cipher.specs.Answers.{row_answer}
use Rattle.cipher.specs.declared.size.KeySize.{KeySize}
use Rattle.cipher.specs.declared.refusal.Refusal.TheVariants.{ScheduleNumber}
use Rattle.cipher.specs.declared.schedules.Schedule.{Schedule}
use Rattle.cipher.specs.declared.schedules.Schedule.TheVariants.{Lea, WfLea}
use Rattle.cipher.proofs.SchedulesLaws.{numbered_0, numbered_1, unnumbered}
use Rattle.cipher.proofs.AnswerLaws.{schedule_refused, key_taken, on_schedule}
use Rattle.book.proofs.AnswerLaws.{built_refused}
use Rattle.archive.proofs.AnswerLaws.{check_34, open_34}
use Rattle.claims.specs.Schedules.{Refused34, ScheduleLaws, AnyRows}
use Rattle.claims.proofs.RoundsTheorem.{after_rounds}
use Rattle.claims.proofs.SessionTheorem.{session}

module _ (s : ℕ) (h : 1 < s) where
  none : schedule_found s ≡ None
  none = unnumbered s (λ e. omega arith) (λ e. omega arith)

  unkind : (key : List ℕ) → Err ScheduleNumber ≡ key_read s key
  unfolding key_of
  unkind key = rw none

  no_row : (key : List ℕ) (l : ℕ) → row_answer s key l ≡ (34, blank)
  no_row key l = schedule_refused s key (λ k z. []) (λ n. (n, blank)) (λ k z. (0, get_or (key_rows k z key) (l % rounds z) [])) none

  refused_34 : Refused34 s
  refused_34 = record {
    enciphering = λ key b. on_schedule s key b _ none;
    deciphering = λ key b. on_schedule s key b _ none;
    after_rounds = λ key n b. on_schedule s key b _ none;
    round_keys = no_row;
    building = λ key ch out. built_refused 0 3 s key ch out _ _ ScheduleNumber (unkind key);
    build_round = λ key ch l out. built_refused 0 3 s key ch out _ _ ScheduleNumber (unkind key);
    building_reading = λ key ch out. built_refused 3 0 s key ch out _ _ ScheduleNumber (unkind key);
    opening = λ key set iv sealed out. open_34 s key set iv sealed out none;
    checking = λ key set message tag. check_34 s key set message tag none;
  }

-- ---- the rows of 0 and of 1

module _ (s : ℕ) (k : Schedule) (z : KeySize) (key : List ℕ) (e : Named s key k z) (l : ℕ) (h : l < rounds z) where
  row_is : row_answer s key l ≡ (0, get_or (key_rows k z key) l [])
  unfolding first
  row_is =
      key_taken s key (λ k z. []) (λ n. (n, blank)) (λ k z. (0, get_or (key_rows k z key) (l % rounds z) [])) k z e
      ∙ ap (λ (i : ℕ). (0, get_or (key_rows k z key) i [])) (mod-eq_of_lt h)

pub schedules : ScheduleLaws
unfolding key_rows
schedules = record {
  numbers = (numbered_0 0 refl, numbered_1 1 (λ e. omega arith) refl);
  others = λ s h. refused_34 s (omega arith);
  lea_row = λ z key e l h. row_is 0 Lea z key (numbered_0 0 refl, e) l h;
  wf_lea_row = λ z key e l h. row_is 1 WfLea z key (numbered_1 1 (λ e. omega arith) refl, e) l h ∙ ap (λ (r : List ℕ). (0, r)) (row_at key (rounds z) l h);
}

pub any_rows : AnyRows
any_rows = record { after_rounds = after_rounds; session = session }
