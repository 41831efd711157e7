-- The two laws of ink files (document 02, 2026-02): fields within the limits, written and read, are those fields; and an accepted file,
-- its fields read out and written, is that file. So a file of bytes is accepted exactly if it is the writing of fields within the limits.
use mathlib.Core.Path.{◌≡◌, refl, sym, ap, ap₂, ◌∙◌}
use mathlib.Core.Logic.{◌↔◌}
use mathlib.Core.List.{List, ◌∷◌}
use Prim.Native.Nat.{ℕ, zero, suc, ◌+◌, ◌-◌, ◌≤◌, ◌<◌}
use native.Mathlib.Omega.{arith}
use lib.ListN.{length, get_or, drop}
use Rattle.lists.specs.Blocks.{Bytes}
use Rattle.lists.proofs.TabulationLaws.{get_or_tab}
use Rattle.lists.proofs.PartLaws.{take_same}
use Rattle.inkfile.specs.Format.{Record, run_of, Fields, records_of, ink_of, Allowed}
use Rattle.inkfile.specs.Reading.{kind_at, length_at, start_of, records_read, kinds_to, offsets_to, lengths_to, behind_four, told_of, read_ink_answer}
use Rattle.inkfile.specs.Reading.{part, remarks_told, fields_told, fields_read}
use Rattle.inkfile.specs.Laws.{Accepted, Holds, WritingOf, WrittenFile}
use Rattle.inkfile.proofs.FitLaws.{Fit, allowed_fit, Shaped, fit_shaped}
use Rattle.inkfile.proofs.WalkLaws.{record_in, records_from, Read, written_read, Kept, read_written}

-- ---- what is told of an accepted file

four_at : (l : List ℕ) (i : ℕ) → i < 4 → get_or (behind_four l) i 0 ≡ get_or l (4 + i) 0
four_at l zero h = refl
four_at l (suc zero) h = refl
four_at l (suc (suc zero)) h = refl
four_at l (suc (suc (suc zero))) h = refl
four_at l (suc (suc (suc (suc i)))) h = absurd (omega arith)

module _ (file : List ℕ) (c : ℕ) where
  -- the fields by the records of the walk
  unfoldable pub fields_in : Fields
  fields_in = record { pad_number = (record_in file 0).1; iv = (record_in file 1).1; sealed = (record_in file 2).1; tag = (record_in file 3).1; remarks = records_from file 4 (c - 4) }

  remarks_told_lem : (m i : ℕ) → 4 + (i + m) ≡ c → i + m ≤ 4
      → remarks_told file (behind_four (kinds_to file c)) (behind_four (offsets_to file c)) (behind_four (lengths_to file c)) i m ≡ records_from file (4 + i) m
  unfolding remarks_told records_from record_in
  remarks_told_lem zero i e l = refl
  remarks_told_lem (suc m) i e l =
      let z : 4 + suc i ≡ suc (4 + i) = omega arith in
      let ek = four_at (kinds_to file c) i (omega arith) ∙ get_or_tab c (λ i. kind_at file (start_of file i)) (4 + i) (omega arith) in
      let eo = four_at (offsets_to file c) i (omega arith) ∙ get_or_tab c (λ i. start_of file i + 6) (4 + i) (omega arith) in
      let el = four_at (lengths_to file c) i (omega arith) ∙ get_or_tab c (λ i. length_at file (start_of file i)) (4 + i) (omega arith) in
      let more = remarks_told_lem m (suc i) (omega arith) (omega arith) ∙ ap (λ (j : ℕ). records_from file j m) z in
      λ i. (ek i, part file (eo i) (el i)) ∷ more i

  pub fields_told_lem : records_read file ≡ (0, c) → 4 ≤ c → c ≤ 8 → length (record_in file 0).1 ≡ 8 → length (record_in file 1).1 ≡ 16 → length (record_in file 3).1 ≡ 16
      → fields_read file ≡ fields_in
  unfolding fields_told read_ink_answer told_of fields_in record_in
  fields_told_lem e l h e0 e1 e3 =
      let os : (j : ℕ) → j < c → get_or (offsets_to file c) j 0 ≡ start_of file j + 6 = get_or_tab c (λ i. start_of file i + 6) in
      let lt : (j : ℕ) → j < c → get_or (lengths_to file c) j 0 ≡ length_at file (start_of file j) = get_or_tab c (λ i. length_at file (start_of file i)) in
      let a0 = ap (λ (o : ℕ). part file o 8) (os 0 (omega arith)) ∙ take_same (length_at file (start_of file 0)) 8 (drop (start_of file 0 + 6) file) e0 in
      let a1 = ap (λ (o : ℕ). part file o 16) (os 1 (omega arith)) ∙ take_same (length_at file (start_of file 1)) 16 (drop (start_of file 1 + 6) file) e1 in
      let a2 = ap₂ (λ (o n : ℕ). part file o n) (os 2 (omega arith)) (lt 2 (omega arith)) in
      let a3 = ap (λ (o : ℕ). part file o 16) (os 3 (omega arith)) ∙ take_same (length_at file (start_of file 3)) 16 (drop (start_of file 3 + 6) file) e3 in
      let rs = remarks_told_lem (c - 4) 0 (omega arith) (omega arith) in
      ap (λ (a : ℕ × ℕ). fields_told file (told_of a.0 a.1 (kinds_to file a.1) (offsets_to file a.1) (lengths_to file a.1))) e
      ∙ (λ i. record { pad_number = a0 i; iv = a1 i; sealed = a2 i; tag = a3 i; remarks = rs i })

  pub told_refusal : records_read file ≡ (0, c) → (read_ink_answer file).refusal ≡ 0
  unfolding read_ink_answer told_of
  told_refusal e = ap (λ (a : ℕ × ℕ). a.0) e

-- ---- the two laws

-- records one after another: the first, and those behind it
head_of : {a b : Record} {rs ss : List Record} → ◌≡◌ {A = List Record} (a ∷ rs) (b ∷ ss) → a ≡ b
head_of {a} {b} {rs} {ss} e = ap (λ (l : List Record). get_or l 0 a) e

tail_of : {a b : Record} {rs ss : List Record} → ◌≡◌ {A = List Record} (a ∷ rs) (b ∷ ss) → rs ≡ ss
tail_of e = ap (λ (l : List Record). drop 1 l) e

-- fields within the limits, written and read
pub write_read : (f : Fields) → Allowed f → Holds (ink_of f) f
unfolding ink_of records_read start_of records_from fields_in
write_read f a =
    let file = ink_of f in
    let m = length f.remarks in
    let h = a.few in
    let v : Read file 8 0 (records_of f) = written_read file 8 0 (records_of f) (allowed_fit f a) refl (omega arith) (omega arith) (omega arith) in
    let z : 0 + length (records_of f) ≡ 4 + m = omega arith in
    let e : records_read file ≡ (0, 4 + m) = v.taken ∙ ap (λ (j : ℕ). (0, j)) z in
    let w = v.found in
    let r0 = head_of w in
    let r1 = head_of (tail_of w) in
    let r2 = head_of (tail_of (tail_of w)) in
    let r3 = head_of (tail_of (tail_of (tail_of w))) in
    let rs = tail_of (tail_of (tail_of (tail_of w))) in
    let y : 4 + m - 4 ≡ m = omega arith in
    record {
      accepted = told_refusal file (4 + m) e;
      same = fields_told_lem file (4 + m) e (omega arith) (omega arith) (ap (λ (r : Record). length r.1) r0 ∙ a.pad_number) (ap (λ (r : Record). length r.1) r1 ∙ a.iv) (ap (λ
          (r : Record). length r.1) r3 ∙ a.tag)
          ∙ (λ i. record { pad_number = (r0 i).1; iv = (r1 i).1; sealed = (r2 i).1; tag = (r3 i).1; remarks = (ap (records_from file 4) y ∙ rs) i });
    }

length_from : (file : List ℕ) (k n : ℕ) → length (records_from file k n) ≡ n
unfolding records_from
length_from file k zero = refl
length_from file k (suc n) = ap suc (length_from file (suc k) n)

-- four records and n more that fit and are the whole of a file
module _ (file : List ℕ) (m : ℕ) (fit : Fit 0 (records_from file 0 (suc (suc (suc (suc m)))))) where
  shaped_in : Shaped (record_in file 0) (record_in file 1) (record_in file 2) (record_in file 3) (records_from file 4 m)
  unfolding records_from
  shaped_in = fit_shaped (record_in file 0) (record_in file 1) (record_in file 2) (record_in file 3) (records_from file 4 m) fit

  records_in : records_of (fields_in file (4 + m)) ≡ records_from file 0 (suc (suc (suc (suc m))))
  unfolding fields_in records_from
  records_in =
      let s = shaped_in in
      let y : 4 + m - 4 ≡ m = omega arith in
      λ i. (sym s.kind0 i, (record_in file 0).1) ∷ (sym s.kind1 i, (record_in file 1).1) ∷ (sym s.kind2 i, (record_in file 2).1) ∷ (sym s.kind3 i, (record_in file 3).1)
      ∷ records_from file 4 (y i)

  allowed_in : Allowed (fields_in file (4 + m))
  unfolding fields_in
  allowed_in = let y : 4 + m - 4 ≡ m = omega arith in rw y shaped_in.allowed

-- an accepted file: its fields are within the limits, and written again they are the file
pub read_write : (file : List ℕ) → Bytes file → Accepted file → WritingOf file (fields_read file)
unfolding read_ink_answer told_of records_read ink_of start_of
read_write file hb e =
    let c = (records_read file).1 in
    let ea : records_read file ≡ (0, c) = λ i. (e i, c) in
    let v : Kept file 0 c = read_written file 8 0 c hb (omega arith) ea in
    let m = v.count - 4 in
    let f = v.four in
    let s = v.sum in
    let y : v.count ≡ suc (suc (suc (suc m))) = omega arith in
    let w : c ≡ 4 + m = omega arith in
    let fit : Fit 0 (records_from file 0 (suc (suc (suc (suc m))))) = rw y at v.fit in
    let whole : file ≡ run_of (records_from file 0 (suc (suc (suc (suc m))))) = v.whole ∙ ap (λ (n : ℕ). run_of (records_from file 0 n)) y in
    let sh = (shaped_in file m fit).allowed in
    let l = sh.few in
    let lf = length_from file 4 m in
    let t : fields_read file ≡ fields_in file (4 + m) = fields_told_lem file (4 + m) (ea ∙ ap (λ (n : ℕ). (0, n)) w) (omega arith) (omega arith) sh.pad_number sh.iv sh.tag in
    record { allowed = rw t (allowed_in file m fit); same = ap ink_of t ∙ ap run_of (records_in file m fit) ∙ sym whole }

-- a file of bytes is accepted exactly if it is the writing of fields within the limits
pub accepted_exactly : (file : List ℕ) → Bytes file → Accepted file ↔ WrittenFile file
accepted_exactly file hb = (λ e. record { fields = fields_read file; writing = read_write file hb e }, back)
  where
    back : WrittenFile file → Accepted file
    back w = ap (λ (l : List ℕ). (read_ink_answer l).refusal) (sym w.writing.same) ∙ (write_read w.fields w.writing.allowed).accepted

-- and of one set of fields only
pub writing_once : (f g : Fields) → Allowed f → Allowed g → ink_of f ≡ ink_of g → f ≡ g
writing_once f g a b e = sym (write_read f a).same ∙ ap fields_read e ∙ (write_read g b).same
