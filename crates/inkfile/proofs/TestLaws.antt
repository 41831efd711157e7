-- The tests of a record, and what they say: a fault has its number, a record without one passes, and there is no third.
use mathlib.Core.Path.{◌≡◌, refl, sym, ◌∙◌}
use mathlib.Core.Bool.{Bool, true, false, false≢true}
use mathlib.Core.List.{List, [], ◌∷◌, ◌++◌}
use Prim.Native.Nat.{ℕ, ◌+◌, ◌≤◌, ◌<◌}
use borrow.Author.Tests.{ltb-true, ltb-false, eqb-true, eqb-false, lt-ltb, le-ltb, eq-eqb, ne_eqb}
use lib.Dec.{eqb, ltb, lit<}
use lib.ListN.{length, get_or}
use Rattle.lists.specs.Refusals.{first}
use Rattle.lists.proofs.RefusalLaws.{first_hit, first_pass}
use Rattle.inkfile.specs.Kinds.{kind_of, due, sized, kind_tests}
use Rattle.inkfile.specs.Format.{mark}
use Rattle.inkfile.specs.Reading.{kind_at, length_at, record_tests}
use Rattle.inkfile.proofs.KindLaws.{due_kind, kind_due, not_due, sized_kind, kind_sized, not_sized}
use Rattle.inkfile.specs.Faults.{Fitting, KindFault, undue, unsized, Sound, RecordFault, cut_short, unmarked, by_kind, past_end}

-- an answer that is a fault's, or what is left where there is none
pub data Judged {A : Type 0} (Fault : ℕ → Type 0) (Fine : Type 0) (refuse : ℕ → A) (go x : A) : Type 0 where
  faulty : (q : ℕ) → Fault q → x ≡ refuse q → Judged Fault Fine refuse go x
  fine : Fine → x ≡ go → Judged Fault Fine refuse go x

-- ---- by the kind, and then by other tests

module _ {A : Type 0} (ts : List (Bool × ℕ)) (refuse : ℕ → A) (go : A) (k kind n : ℕ) where
  pub kind_fault : (q : ℕ) → KindFault k kind n q → first (kind_tests k kind n ++ ts) refuse go ≡ refuse q
  unfolding first
  kind_fault q (undue d) = rw (not_due kind k d)
  kind_fault q (unsized d s) = rw (kind_due kind k d, not_sized kind n s)

  pub kind_fits : Fitting k kind n → first (kind_tests k kind n ++ ts) refuse go ≡ first ts refuse go
  unfolding first
  kind_fits f = rw (kind_due kind k f.placed, kind_sized kind n f.measured)

  pub kind_judged : Judged (KindFault k kind n) (Fitting k kind n) refuse (first ts refuse go) (first (kind_tests k kind n ++ ts) refuse go)
  kind_judged = each (due (kind_of kind) k) (sized (kind_of kind) n) refl refl
    where
      each : (d s : Bool) → due (kind_of kind) k ≡ d → sized (kind_of kind) n ≡ s
          → Judged (KindFault k kind n) (Fitting k kind n) refuse (first ts refuse go) (first (kind_tests k kind n ++ ts) refuse go)
      each false s ed es =
          let f : KindFault k kind n 30 = undue (λ d. false≢true (sym ed ∙ kind_due kind k d)) in
          faulty 30 f (kind_fault 30 f)
      each true false ed es =
          let f : KindFault k kind n 31 = unsized (due_kind kind k ed) (λ h. false≢true (sym es ∙ kind_sized kind n h)) in
          faulty 31 f (kind_fault 31 f)
      each true true ed es = let f : Fitting k kind n = record { placed = due_kind kind k ed; measured = sized_kind kind n es } in fine f (kind_fits f)

pub kind_number : (k kind n q : ℕ) → KindFault k kind n q → 0 < q
kind_number k kind n q (undue d) = lit< tt
kind_number k kind n q (unsized d s) = lit< tt

-- ---- a record of a file

module _ {A : Type 0} (refuse : ℕ → A) (go : A) (file : List ℕ) (k at : ℕ) where
  pub record_fault : (q : ℕ) → RecordFault file k at q → first (record_tests file k at) refuse go ≡ refuse q
  unfolding record_tests first
  record_fault q (cut_short h) = rw (lt-ltb (length file) (at + 6) h)
  record_fault q (unmarked h m) = rw (le-ltb (length file) (at + 6) h, ne_eqb (get_or file at 0) mark m)
  record_fault q (by_kind h m f) =
      rw (le-ltb (length file) (at + 6) h, eq-eqb (get_or file at 0) mark m)
      (kind_fault ((ltb (length file) (at + 6 + length_at file at), 31) ∷ []) refuse go k (kind_at file at) (length_at file at) q f)
  record_fault q (past_end h m f l) =
      rw (le-ltb (length file) (at + 6) h, eq-eqb (get_or file at 0) mark m)
      (kind_fits ((ltb (length file) (at + 6 + length_at file at), 31) ∷ []) refuse go k (kind_at file at) (length_at file at) f
      ∙ first_hit (ltb (length file) (at + 6 + length_at file at)) 31 [] refuse go (lt-ltb (length file) (at + 6 + length_at file at) l))

  pub record_sound : Sound file k at → first (record_tests file k at) refuse go ≡ go
  unfolding record_tests first
  record_sound s =
      rw (le-ltb (length file) (at + 6) s.head, eq-eqb (get_or file at 0) mark s.marked)
      (kind_fits ((ltb (length file) (at + 6 + length_at file at), 31) ∷ []) refuse go k (kind_at file at) (length_at file at) s.fitting
      ∙ first_pass (ltb (length file) (at + 6 + length_at file at)) 31 [] refuse go (le-ltb (length file) (at + 6 + length_at file at) s.room))

  -- by what was seen: a fault q, or none
  faulty_record : (q : ℕ) → RecordFault file k at q → Judged (RecordFault file k at) (Sound file k at) refuse go (first (record_tests file k at) refuse go)
  faulty_record q f = faulty q f (record_fault q f)

  pub record_judged : Judged (RecordFault file k at) (Sound file k at) refuse go (first (record_tests file k at) refuse go)
  record_judged = cut (ltb (length file) (at + 6)) refl
    where
      ending : at + 6 ≤ length file → get_or file at 0 ≡ mark → Fitting k (kind_at file at) (length_at file at) → (t : Bool) → ltb (length file) (at + 6 + length_at file at) ≡ t
          → Judged (RecordFault file k at) (Sound file k at) refuse go (first (record_tests file k at) refuse go)
      ending h m f true e = faulty_record 31 (past_end h m f (ltb-true (length file) (at + 6 + length_at file at) e))
      ending h m f false e =
          let s : Sound file k at = record { head = h; marked = m; fitting = f; room = ltb-false (length file) (at + 6 + length_at file at) e } in
          fine s (record_sound s)

      kinds : at + 6 ≤ length file → get_or file at 0 ≡ mark → (x : ℕ)
          → Judged {A = ℕ} (KindFault k (kind_at file at) (length_at file at)) (Fitting k (kind_at file at) (length_at file at)) (λ q. q) 0 x
          → Judged (RecordFault file k at) (Sound file k at) refuse go (first (record_tests file k at) refuse go)
      kinds h m x (faulty q f e) = faulty_record q (by_kind h m f)
      kinds h m x (fine f e) = ending h m f (ltb (length file) (at + 6 + length_at file at)) refl

      marks : at + 6 ≤ length file → (t : Bool) → eqb (get_or file at 0) mark ≡ t
          → Judged (RecordFault file k at) (Sound file k at) refuse go (first (record_tests file k at) refuse go)
      marks h true e =
          let x = first (kind_tests k (kind_at file at) (length_at file at)) (λ q. q) 0 in
          kinds h (eqb-true (get_or file at 0) mark e) x (unfold first in kind_judged [] (λ q. q) 0 k (kind_at file at) (length_at file at))
      marks h false e = faulty_record 30 (unmarked h (eqb-false (get_or file at 0) mark e))

      cut : (t : Bool) → ltb (length file) (at + 6) ≡ t → Judged (RecordFault file k at) (Sound file k at) refuse go (first (record_tests file k at) refuse go)
      cut true e = faulty_record 30 (cut_short (ltb-true (length file) (at + 6) e))
      cut false e = marks (ltb-false (length file) (at + 6) e) (eqb (get_or file at 0) mark) refl

pub record_number : (file : List ℕ) (k at q : ℕ) → RecordFault file k at q → 0 < q
record_number file k at q (cut_short h) = lit< tt
record_number file k at q (unmarked h m) = lit< tt
record_number file k at q (by_kind h m f) = kind_number k (kind_at file at) (length_at file at) q f
record_number file k at q (past_end h m f l) = lit< tt
