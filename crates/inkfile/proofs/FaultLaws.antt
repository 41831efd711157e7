-- The fault of a record by its kind and its length, as the code goes about it, and what it says of the tests of a run of records.
use Rattle.std.specs.Prelude.{Option, Err, ok_or}
use mathlib.Core.Path.{◌≡◌, sym, ap, ◌∙◌}
use mathlib.Core.Bool.{true, false, not, false≢true}
use mathlib.Core.List.{List, [], ◌∷◌}
use Prim.Native.Nat.{ℕ, suc, ◌<◌}
use native.Mathlib.Omega.{arith}
use lib.ListN.{length}
use Rattle.lists.specs.Refusals.{first}
use Rattle.cipher.specs.declared.refusal.Refusal.{Refusal}
use Rattle.cipher.specs.declared.refusal.Refusal.TheVariants.{BadRecord}
use Rattle.cipher.specs.Refusal.{number_of}
use Rattle.cipher.proofs.PassedLaws.{or_none}
use Rattle.inkfile.specs.declared.kind.Kind.{Kind}
use Rattle.inkfile.specs.Kinds.{kind_of, due, sized, fault_of}
use Rattle.inkfile.specs.Format.{Record}
use Rattle.inkfile.specs.Writing.{run_tests}
use Rattle.inkfile.specs.Faults.{DueKind, Fitting, KindFault, undue, unsized}
use Rattle.inkfile.proofs.KindLaws.{due_kind, kind_due, due_few, sized_kind, kind_sized}
use Rattle.inkfile.proofs.TestLaws.{Judged, faulty, fine, kind_fault, kind_fits, kind_judged, kind_number}

module _ (k kind n : ℕ) where
  fault_told : (q : ℕ) → KindFault k kind n q → fault_of k kind n ≡ q
  unfolding fault_of
  fault_told q f = kind_fault [] (λ q. q) 0 k kind n q f

  fault_judged : Judged {A = ℕ} (KindFault k kind n) (Fitting k kind n) (λ q. q) 0 (fault_of k kind n)
  unfolding fault_of first
  fault_judged = kind_judged [] (λ q. q) 0 k kind n

  pub fault_known : (q : ℕ) → 0 < q → fault_of k kind n ≡ q → KindFault k kind n q
  fault_known q p h = each fault_judged
    where
      each : Judged {A = ℕ} (KindFault k kind n) (Fitting k kind n) (λ q. q) 0 (fault_of k kind n) → KindFault k kind n q
      each (faulty j f e) = let z : j ≡ q = sym e ∙ h in rw z at f
      each (fine f e) = absurd (omega arith)

  pub fault_fits : fault_of k kind n ≡ 0 → Fitting k kind n
  fault_fits h = each fault_judged
    where
      each : Judged {A = ℕ} (KindFault k kind n) (Fitting k kind n) (λ q. q) 0 (fault_of k kind n) → Fitting k kind n
      each (faulty j f e) = let l = kind_number k kind n j f in absurd (omega arith)
      each (fine f e) = f

  -- a byte that stands for no kind
  pub fault_unknown : (q : Refusal) → Err q ≡ ok_or (kind_of kind) BadRecord → number_of q ≡ fault_of k kind n
  unfolding fault_of first due
  fault_unknown q e =
      let none = or_none _ _ _ e in
      ap number_of none.1 ∙ ap (λ (K : Option Kind). first ((not (due K k), 30) ∷ (not (sized K n), 31) ∷ []) (λ q. q) 0) (sym none.0)

  -- by the kind K, or none, as the code goes
  module _ (K : Option Kind) (e : K ≡ kind_of kind) where
    pub fault_undue : due K k ≡ false → fault_of k kind n ≡ 30
    fault_undue d = fault_told 30 (undue (λ h. false≢true (sym (ap (λ (J : Option Kind). due J k) (sym e) ∙ d) ∙ kind_due kind k h)))

    module _ (d : due K k ≡ true) where
      placed_here : DueKind k kind
      placed_here = due_kind kind k (ap (λ (J : Option Kind). due J k) (sym e) ∙ d)

      pub fault_unsized : sized K n ≡ false → fault_of k kind n ≡ 31
      fault_unsized s = fault_told 31 (unsized placed_here (λ h. false≢true (sym (ap (λ (J : Option Kind). sized J n) (sym e) ∙ s) ∙ kind_sized kind n h)))

      pub fault_none : sized K n ≡ true → fault_of k kind n ≡ 0
      unfolding fault_of first
      fault_none s = kind_fits [] (λ q. q) 0 k kind n (record { placed = placed_here; measured = sized_kind kind n (ap (λ (J : Option Kind). sized J n) (sym e) ∙ s) })

-- ---- a run of records, the first of them record k

module _ (k : ℕ) (r : Record) (rs : List Record) where
  -- the first has a fault
  pub run_here : (q : ℕ) → 0 < q → q ≡ fault_of k r.0 (length r.1) → q ≡ first (run_tests k (r ∷ rs)) (λ q. q) 0
  unfolding run_tests
  run_here q p h = sym (kind_fault (run_tests (suc k) rs) (λ q. q) 0 k r.0 (length r.1) q (fault_known k r.0 (length r.1) q p (sym h)))

  -- it has none: the others decide
  pub run_behind : 0 ≡ fault_of k r.0 (length r.1) → first (run_tests (suc k) rs) (λ q. q) 0 ≡ first (run_tests k (r ∷ rs)) (λ q. q) 0
  unfolding run_tests
  run_behind h = sym (kind_fits (run_tests (suc k) rs) (λ q. q) 0 k r.0 (length r.1) (fault_fits k r.0 (length r.1) (sym h)))

  -- and a ninth has one
  pub run_ninth : k ≡ 8 → 30 ≡ first (run_tests k (r ∷ rs)) (λ q. q) 0
  unfolding run_tests
  run_ninth e =
      sym (kind_fault (run_tests (suc k) rs) (λ q. q) 0 k r.0 (length r.1) 30 (undue (λ d. let l = due_few r.0 k d in omega arith)))
