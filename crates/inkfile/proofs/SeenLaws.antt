-- What is seen of a record, case by case, as the code goes through them.
use mathlib.Core.Path.{◌≡◌, sym, ap, ◌∙◌}
use mathlib.Core.List.{List}
use Prim.Native.Nat.{ℕ, ◌+◌, ◌-◌, ◌≤◌, ◌<◌}
use native.Mathlib.Omega.{arith}
use lib.ListN.{length, get_or}
use Rattle.cipher.specs.declared.refusal.Refusal.{Refusal}
use Rattle.cipher.specs.Refusal.{number_of}
use Rattle.cipher.proofs.AnswerLaws.{number_more}
use Rattle.inkfile.specs.Format.{mark}
use Rattle.inkfile.specs.Reading.{kind_at, length_at}
use Rattle.inkfile.specs.Faults.{Fitting, RecordFault, cut_short, unmarked, by_kind, past_end}
use Rattle.inkfile.specs.ReadingSteps.{seen_answer}
use Rattle.inkfile.specs.Kinds.{fault_of}
use Rattle.inkfile.proofs.TestLaws.{record_fault, record_sound}
use Rattle.inkfile.proofs.FaultLaws.{fault_known, fault_fits}

module _ (file : List ℕ) (k at : ℕ) where
  pub seen_fault : (q : ℕ) → RecordFault file k at q → seen_answer file k at ≡ (q, 0, 0)
  unfolding seen_answer
  seen_fault q f = record_fault (λ q. (q, 0, 0)) (0, kind_at file at, length_at file at) file k at q f

  pub seen_short : length file < at + 6 → seen_answer file k at ≡ (30, 0, 0)
  seen_short h = seen_fault 30 (cut_short h)

  module _ (h : at + 6 ≤ length file) where
    pub seen_unmarked : (get_or file at 0 ≡ mark → ⊥) → seen_answer file k at ≡ (30, 0, 0)
    seen_unmarked m = seen_fault 30 (unmarked h m)

    -- by the fault of its kind and its length n
    module _ (m : get_or file at 0 ≡ mark) (n : ℕ) (eN : n ≡ length_at file at) where
      judged : (q : ℕ) → q ≡ fault_of k (kind_at file at) n → fault_of k (kind_at file at) (length_at file at) ≡ q
      judged q e = ap (fault_of k (kind_at file at)) (sym eN) ∙ sym e

      pub seen_kind : (q : Refusal) → number_of q ≡ fault_of k (kind_at file at) n → seen_answer file k at ≡ (number_of q, 0, 0)
      seen_kind q e = seen_fault (number_of q) (by_kind h m (fault_known k (kind_at file at) (length_at file at) (number_of q) (number_more q) (judged (number_of q) e)))

      module _ (e : 0 ≡ fault_of k (kind_at file at) n) where
        fits : Fitting k (kind_at file at) (length_at file at)
        fits = fault_fits k (kind_at file at) (length_at file at) (judged 0 e)

        pub seen_past : length file - at - 6 < n → seen_answer file k at ≡ (31, 0, 0)
        seen_past l = seen_fault 31 (past_end h m fits (omega arith))

        pub seen_done : n ≤ length file - at - 6 → seen_answer file k at ≡ (0, kind_at file at, n)
        unfolding seen_answer
        seen_done l =
            record_sound (λ q. (q, 0, 0)) (0, kind_at file at, length_at file at) file k at (record { head = h; marked = m; fitting = fits; room = omega arith })
            ∙ ap (λ (j : ℕ). (0, kind_at file at, j)) (sym eN)
