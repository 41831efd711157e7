-- Writing: what is refused of fields, and that fields are written exactly if they are within the limits and there is room.
use mathlib.Core.Path.{◌≡◌, refl, sym, ap, ◌∙◌}
use mathlib.Core.Logic.{◌↔◌, ◌⊎◌, inl, inr}
use mathlib.Core.Bool.{Bool, true, false, cond}
use mathlib.Core.List.{List, [], ◌∷◌, ◌++◌, append-nil}
use Prim.Native.Nat.{ℕ, suc, ◌≤◌, ◌<◌}
use native.Mathlib.Omega.{arith}
use borrow.Author.Tests.{ltb-true, ltb-false}
use lib.Dec.{ltb}
use lib.ListN.{length, take, drop}
use lib.Seq.{take-append_seam}
use Rattle.lists.specs.Blocks.{Bytes}
use Rattle.lists.specs.Refusals.{first}
use Rattle.cipher.specs.Answers.{room_tests}
use Rattle.cipher.proofs.AnswerLaws.{room_refused, room_taken}
use Rattle.inkfile.specs.Format.{Record, Fields, records_of, ink_of, Allowed}
use Rattle.inkfile.specs.Reading.{read_ink_answer, fields_read}
use Rattle.inkfile.specs.Writing.{run_tests, write_ink_answer}
use Rattle.inkfile.specs.Faults.{Fitting, KindFault, WriteFault, here, later, WriteRefusal, at_fault, no_room}
use Rattle.inkfile.specs.Laws.{Accepted, Holds, WrittenInto}
use Rattle.inkfile.proofs.TestLaws.{Judged, faulty, fine, kind_fault, kind_fits, kind_judged, kind_number}
use Rattle.inkfile.proofs.FitLaws.{Fit, none, more, allowed_fit, fit_shaped}
use Rattle.inkfile.proofs.FileLaws.{write_read, read_write}

-- ---- the tests of a run of records, and then those of `ts`

module _ {A : Type 0} (ts : List (Bool × ℕ)) (refuse : ℕ → A) (go : A) where
  pub run_fault : (k : ℕ) (rs : List Record) (q : ℕ) → WriteFault k rs q → first (run_tests k rs ++ ts) refuse go ≡ refuse q
  unfolding run_tests
  run_fault k [] q x' = elim x' [ ]
  run_fault k (r ∷ rs) q (here f) = kind_fault (run_tests (suc k) rs ++ ts) refuse go k r.0 (length r.1) q f
  run_fault k (r ∷ rs) q (later w f) = kind_fits (run_tests (suc k) rs ++ ts) refuse go k r.0 (length r.1) w ∙ run_fault (suc k) rs q f

  pub run_fits : (k : ℕ) (rs : List Record) → Fit k rs → first (run_tests k rs ++ ts) refuse go ≡ first ts refuse go
  unfolding run_tests
  run_fits k [] none = refl
  run_fits k (r ∷ rs) (more f h) = kind_fits (run_tests (suc k) rs ++ ts) refuse go k r.0 (length r.1) f ∙ run_fits (suc k) rs h

  pub run_judged : (k : ℕ) (rs : List Record) → Judged (WriteFault k rs) (Fit k rs) refuse (first ts refuse go) (first (run_tests k rs ++ ts) refuse go)
  unfolding run_tests
  run_judged k [] = fine none refl
  run_judged k (r ∷ rs) = step (kind_judged (run_tests (suc k) rs ++ ts) refuse go k r.0 (length r.1)) (run_judged (suc k) rs)
    where
      step : Judged (KindFault k r.0 (length r.1)) (Fitting k r.0 (length r.1)) refuse (first (run_tests (suc k) rs ++ ts) refuse go) (first (run_tests k (r ∷ rs) ++ ts) refuse go)
          → Judged (WriteFault (suc k) rs) (Fit (suc k) rs) refuse (first ts refuse go) (first (run_tests (suc k) rs ++ ts) refuse go)
          → Judged (WriteFault k (r ∷ rs)) (Fit k (r ∷ rs)) refuse (first ts refuse go) (first (run_tests k (r ∷ rs) ++ ts) refuse go)
      step (faulty q f e) j = faulty q (here f) e
      step (fine w e) (faulty q f d) = faulty q (later w f) (e ∙ d)
      step (fine w e) (fine h d) = fine (more w h) (e ∙ d)

pub run_number : (k : ℕ) (rs : List Record) (q : ℕ) → WriteFault k rs q → 0 < q
run_number k [] q x' = elim x' [ ]
run_number k (r ∷ rs) q (here f) = kind_number k r.0 (length r.1) q f
run_number k (r ∷ rs) q (later w f) = run_number (suc k) rs q f

-- records of which no test applies fit
pub run_passed : (k : ℕ) (rs : List Record) → first (run_tests k rs) (λ q. q) 0 ≡ 0 → Fit k rs
unfolding first
run_passed k rs h = each (run_judged [] (λ q. q) 0 k rs)
  where
    each : Judged {A = ℕ} (WriteFault k rs) (Fit k rs) (λ q. q) 0 (first (run_tests k rs ++ []) (λ q. q) 0) → Fit k rs
    each (faulty q f e) =
        let z : first (run_tests k rs ++ []) (λ q. q) 0 ≡ 0 = ap (λ (ts : List (Bool × ℕ)). first ts (λ q. q) 0) (append-nil (run_tests k rs)) ∙ h in
        let l = run_number k rs q f in
        absurd (omega arith)
    each (fine f e) = f

pub fit_allowed : (f : Fields) → Fit 0 (records_of f) → Allowed f
fit_allowed f h = (fit_shaped (0x01, f.pad_number) (0x02, f.iv) (0x03, f.sealed) (0x04, f.tag) f.remarks h).allowed

-- ---- fields into a buffer

module _ (f : Fields) (out : List ℕ) where
  refuse : ℕ → (ℕ × ℕ) × List ℕ
  refuse q = ((q, 0), out)

  done : (ℕ × ℕ) × List ℕ
  done = ((0, length (ink_of f)), ink_of f ++ drop (length (ink_of f)) out)

  -- what is left where the fields are within the limits
  roomed : (ℕ × ℕ) × List ℕ
  roomed = first (room_tests (length (ink_of f)) out) refuse done

  pub write_fault : (q : ℕ) → WriteFault 0 (records_of f) q → write_ink_answer f out ≡ ((q, 0), out)
  unfolding write_ink_answer refuse done
  write_fault q h = run_fault (room_tests (length (ink_of f)) out) refuse done 0 (records_of f) q h

  write_fits : Allowed f → write_ink_answer f out ≡ roomed
  unfolding write_ink_answer refuse done roomed
  write_fits a = run_fits (room_tests (length (ink_of f)) out) refuse done 0 (records_of f) (allowed_fit f a)

  -- within the limits, no room: 9
  pub write_short : Allowed f → length out < length (ink_of f) → write_ink_answer f out ≡ ((9, 0), out)
  unfolding roomed refuse
  write_short a h = write_fits a ∙ room_refused (length (ink_of f)) out refuse done h

  -- within the limits, and room: the file, and behind it what the buffer held
  pub write_done : Allowed f → length (ink_of f) ≤ length out → WrittenInto f out (ink_of f)
  unfolding roomed done
  write_done a h = write_fits a ∙ room_taken (length (ink_of f)) out refuse done h

  judged : Judged (WriteFault 0 (records_of f)) (Fit 0 (records_of f)) refuse roomed (write_ink_answer f out)
  unfolding write_ink_answer refuse done roomed
  judged = run_judged (room_tests (length (ink_of f)) out) refuse done 0 (records_of f)

  -- the number of what is left
  data Room : ℕ → Type 0 where
    short : length out < length (ink_of f) → Room 9
    enough : length (ink_of f) ≤ length out → Room 0

  room_told : Room roomed.0.0
  unfolding roomed first refuse done
  room_told = each (ltb (length out) (length (ink_of f))) refl
    where
      each : (t : Bool) → ltb (length out) (length (ink_of f)) ≡ t
          → Room (cond {A = (ℕ × ℕ) × List ℕ} t ((9, 0), out) ((0, length (ink_of f)), ink_of f ++ drop (length (ink_of f)) out)).0.0
      each true e = short (ltb-true (length out) (length (ink_of f)) e)
      each false e = enough (ltb-false (length out) (length (ink_of f)) e)

  -- what the number of the answer says
  told : (q : ℕ) → (write_ink_answer f out).0.0 ≡ q → WriteFault 0 (records_of f) q ⊎ (Allowed f × Room q)
  unfolding refuse
  told q h = each judged
    where
      number : (ℕ × ℕ) × List ℕ → ℕ
      number a = a.0.0

      each : Judged (WriteFault 0 (records_of f)) (Fit 0 (records_of f)) refuse roomed (write_ink_answer f out) → WriteFault 0 (records_of f) q ⊎ (Allowed f × Room q)
      each (faulty j w e) = let z : j ≡ q = sym (ap number e) ∙ h in inl (rw z at w)
      each (fine w e) = let z : roomed.0.0 ≡ q = sym (ap number e) ∙ h in inr (fit_allowed f w, rw z at room_told)

  -- fields are written only where they are within the limits and there is room
  pub written_allowed : (write_ink_answer f out).0.0 ≡ 0 → Allowed f × (length (ink_of f) ≤ length out)
  written_allowed h = each (told 0 h)
    where
      roomy : (q : ℕ) → q ≡ 0 → Room q → length (ink_of f) ≤ length out
      roomy q e (short l) = absurd (omega arith)
      roomy q e (enough l) = l

      each : WriteFault 0 (records_of f) 0 ⊎ (Allowed f × Room 0) → Allowed f × (length (ink_of f) ≤ length out)
      each (inl w) = let l = run_number 0 (records_of f) 0 w in absurd (omega arith)
      each (inr v) = (v.0, roomy 0 refl v.1)

  pub write_refused : (q : ℕ) → 0 < q → (write_ink_answer f out ≡ ((q, 0), out)) ↔ WriteRefusal f out q
  write_refused q p = (λ h. each (told q (ap (λ (a : (ℕ × ℕ) × List ℕ). a.0.0) h)), back q)
    where
      lacking : (q : ℕ) → 0 < q → Allowed f → Room q → WriteRefusal f out q
      lacking q l a (short h) = no_room a h
      lacking q l a (enough h) = absurd (omega arith)

      each : WriteFault 0 (records_of f) q ⊎ (Allowed f × Room q) → WriteRefusal f out q
      each (inl w) = at_fault w
      each (inr v) = lacking q p v.0 v.1

      back : (q : ℕ) → WriteRefusal f out q → write_ink_answer f out ≡ ((q, 0), out)
      back q (at_fault w) = write_fault q w
      back q (no_room a h) = write_short a h

  pub written_exactly : WrittenInto f out (ink_of f) ↔ (Allowed f × (length (ink_of f) ≤ length out))
  written_exactly = (λ h. written_allowed (ap (λ (a : (ℕ × ℕ) × List ℕ). a.0.0) h), λ v. write_done v.0 v.1)

-- ---- what was written is read, and what was read is written again

-- a writer left its fields in front of its buffer
pub write_left : (f : Fields) (out : List ℕ) → (write_ink_answer f out).0.0 ≡ 0 → Holds (take (write_ink_answer f out).0.1 (write_ink_answer f out).1) f
write_left f out e =
    let a = written_allowed f out e in
    let t : take (write_ink_answer f out).0.1 (write_ink_answer f out).1 ≡ ink_of f
    = ap (λ (x : (ℕ × ℕ) × List ℕ). take x.0.1 x.1) (write_done f out a.0 a.1) ∙ take-append_seam (ink_of f) (drop (length (ink_of f)) out) in
    let v = write_read f a.0 in
    record { accepted = ap (λ (l : List ℕ). (read_ink_answer l).refusal) t ∙ v.accepted; same = ap fields_read t ∙ v.same }

-- an accepted file, its fields written into a buffer with room for it, is there byte for byte
pub write_again : (file out : List ℕ) → Bytes file → Accepted file → length file ≤ length out → WrittenInto (fields_read file) out file
write_again file out hb e l =
    let v = read_write file hb e in
    write_done (fields_read file) out v.allowed (rw v.same l)
    ∙ ap (λ (x : List ℕ). ((0, length x), x ++ drop (length x) out)) v.same
