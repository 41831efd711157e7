-- Writing an ink file, as the code goes about it: the fault of the fields, the length of the file, and the file part by part.
use mathlib.Core.Path.{◌≡◌, sym, ap, ◌∙◌}
use mathlib.Core.List.{List, [], ◌∷◌, ◌++◌, append_assoc}
use Prim.Native.Nat.{ℕ, ◌+◌, ◌*◌, ◌≤◌, ◌<◌}
use native.Mathlib.Omega.{arith}
use lib.ListN.{length, drop, length-append}
use Rattle.lists.specs.Overlay.{overlaid}
use Rattle.lists.proofs.OverlayLaws.{two_overlaid}
use Rattle.cipher.specs.declared.refusal.Refusal.{Refusal}
use Rattle.cipher.specs.Refusal.{number_of}
use Rattle.cipher.proofs.AnswerLaws.{number_more}
use Rattle.cipher.proofs.CheckLaws.{told_refused}
use Rattle.inkfile.specs.Format.{Record, record_of, run_of, Fields, records_of, ink_of, AllowedRemarks, no_more, one_more, Allowed}
use Rattle.inkfile.specs.Writing.{run_tests, write_ink_answer}
use Rattle.inkfile.specs.WritingSteps.{fixed_bytes, fixed_size, remarks_bytes, remarks_size, fields_fault}
use Rattle.inkfile.proofs.RecordLaws.{length_record}
use Rattle.inkfile.proofs.WriteLaws.{run_passed, fit_allowed, write_short, write_done}
use Rattle.inkfile.proofs.PutLaws.{length_fixed}

most_bytes : (rs : List Record) → AllowedRemarks rs → length (run_of rs) ≤ 261 * length rs
unfolding run_of
most_bytes [] no_more = omega arith
most_bytes (r ∷ rs) (one_more a l) = omega (arith, length-append (record_of r) (run_of rs), length_record r, a.short, most_bytes rs l)

-- refused by a fault of the fields
pub call_refused : (f : Fields) (q : Refusal) → number_of q ≡ fields_fault f → (out : List ℕ) → ((number_of q, 0), out) ≡ write_ink_answer f out
unfolding fields_fault write_ink_answer
call_refused f q e out = sym (told_refused _ (λ q. ((q, 0), out)) _ (run_tests 0 (records_of f)) (number_of q) (number_more q) (sym e))

-- fields without a fault
module _ (f : Fields) (fine : 0 ≡ fields_fault f) where
  allowed : Allowed f
  unfolding fields_fault
  allowed = fit_allowed f (run_passed 0 (records_of f) (sym fine))

  file_parts : ink_of f ≡ fixed_bytes f ++ remarks_bytes f.remarks
  unfolding ink_of run_of fixed_bytes
  file_parts =
      let x = record_of (0x01, f.pad_number) in
      let y = record_of (0x02, f.iv) in
      let z = record_of (0x03, f.sealed) in
      let w = record_of (0x04, f.tag) in
      let t = run_of f.remarks in
      sym (append_assoc x y (z ++ (w ++ t))) ∙ sym (append_assoc (x ++ y) z (w ++ t)) ∙ sym (append_assoc ((x ++ y) ++ z) w t)

  -- the lengths that the code adds up
  pub record Sizes : Type 0 where
    pub few : length f.remarks ≤ 4
    pub sealed_most : length f.sealed ≤ 1048576
    pub remarks_most : remarks_size f.remarks ≤ 1044
    pub fixed : fixed_size f ≡ 64 + length f.sealed
    pub file_length : length (ink_of f) ≡ 64 + length f.sealed + remarks_size f.remarks

  pub sizes : Sizes
  sizes =
      let a = allowed in
      let n8 = a.pad_number in
      let i16 = a.iv in
      let t16 = a.tag in
      let few = a.few in
      let m = most_bytes f.remarks a.remarks in
      let lf = length_fixed f in
      let la = length-append (fixed_bytes f) (remarks_bytes f.remarks) in
      let e = ap length file_parts in
      record { few = few; sealed_most = a.most; remarks_most = omega arith; fixed = omega arith; file_length = omega arith }

  pub write_no_room : (out : List ℕ) → length out < 64 + length f.sealed + remarks_size f.remarks → ((9, 0), out) ≡ write_ink_answer f out
  write_no_room out h = sym (write_short f out allowed (let e = sizes.file_length in omega arith))

  pub write_all : (out o1 o2 : List ℕ) (at n : ℕ) → n ≡ 64 + length f.sealed + remarks_size f.remarks → n ≤ length out
      → (at ≡ fixed_size f) × (o1 ≡ overlaid out 0 (fixed_bytes f)) → o2 ≡ overlaid o1 at (remarks_bytes f.remarks) → ((0, n), o2) ≡ write_ink_answer f out
  write_all out o1 o2 at n en h p e2 =
      let F = ink_of f in
      let s = sizes in
      let lf = length_fixed f in
      let e = s.file_length in
      let ea = p.0 in
      let x : at ≡ 0 + length (fixed_bytes f) = omega arith in
      let z : 0 + length F ≡ length F = omega arith in
      let w : o2 ≡ F ++ drop (length F) out
      = e2 ∙ ap (λ (l : List ℕ). overlaid l at (remarks_bytes f.remarks)) p.1
      ∙ two_overlaid out 0 (fixed_bytes f) (remarks_bytes f.remarks) at x (omega arith)
      ∙ ap (overlaid out 0) (sym file_parts) ∙ ap (λ (j : ℕ). F ++ drop j out) z in
      let y : n ≡ length F = omega arith in
      (λ i. ((0, y i), w i)) ∙ sym (write_done f out allowed (omega arith))
