-- What a caller gives to the writer is a set of fields, and every set of up to four remarks can be given.
use mathlib.Core.Path.{◌≡◌, refl, ap}
use mathlib.Core.List.{List, [], ◌∷◌, map}
use Prim.Native.Nat.{ℕ, zero, suc, ◌≤◌}
use native.Mathlib.Omega.{arith}
use lib.ListN.{length, get_or, take}
use Rattle.lists.specs.Blocks.{Bytes}
use Rattle.inkfile.specs.Format.{Record, Fields}
use Rattle.inkfile.specs.Reading.{records_read, kinds_to, behind_four, told_of, read_ink_answer, part, remarks_told, fields_told, fields_read}
use Rattle.inkfile.specs.Writing.{remarks_of, fields_given, body_of, call, call_told}
use Rattle.inkfile.specs.Laws.{Accepted}
use Rattle.inkfile.proofs.FileLaws.{read_write}

remarks_called : (rs : List Record) → length rs ≤ 4 → remarks_of (map (λ (r : Record). r.0) rs) (body_of rs 0 ∷ body_of rs 1 ∷ body_of rs 2 ∷ body_of rs 3 ∷ []) ≡ rs
unfolding remarks_of
remarks_called [] h = refl
remarks_called (a ∷ []) h = refl
remarks_called (a ∷ b ∷ []) h = refl
remarks_called (a ∷ b ∷ c ∷ []) h = refl
remarks_called (a ∷ b ∷ c ∷ d ∷ []) h = refl
remarks_called (a ∷ b ∷ c ∷ d ∷ e ∷ rs) h = absurd (omega arith)

pub called_fields : (f : Fields) → length f.remarks ≤ 4 → call f ≡ f
unfolding call fields_given
called_fields f h i = record { pad_number = f.pad_number; iv = f.iv; sealed = f.sealed; tag = f.tag; remarks = remarks_called f.remarks h i }

-- the remarks of a file, by the numbers that are told of them
module _ (file ks os ls : List ℕ) where
  abbrev body : ℕ → List ℕ
  body i = part file (get_or os i 0) (get_or ls i 0)

  told_called : (n : ℕ) → n ≤ 4 → remarks_of (take n (behind_four ks)) (body 0 ∷ body 1 ∷ body 2 ∷ body 3 ∷ []) ≡ remarks_told file (behind_four ks) os ls 0 n
  unfolding remarks_of remarks_told
  told_called zero h = refl
  told_called (suc zero) h = refl
  told_called (suc (suc zero)) h = refl
  told_called (suc (suc (suc zero))) h = refl
  told_called (suc (suc (suc (suc zero)))) h = refl
  told_called (suc (suc (suc (suc (suc n))))) h = absurd (omega arith)

length_told : (file ks os ls : List ℕ) (i n : ℕ) → length (remarks_told file ks os ls i n) ≡ n
unfolding remarks_told
length_told file ks os ls i zero = refl
length_told file ks os ls i (suc n) = ap suc (length_told file ks os ls (suc i) n)

pub called_told : (file : List ℕ) → Bytes file → Accepted file → call_told file (read_ink_answer file) ≡ fields_read file
unfolding call_told fields_given fields_told read_ink_answer told_of
called_told file hb e =
    let t = read_ink_answer file in
    let w = (read_write file hb e).allowed.few in
    let l = length_told file t.kinds t.offsets t.lengths 0 t.count in
    let few : t.count ≤ 4 = omega arith in
    λ i. record {
      pad_number = part file t.pad_number 8;
      iv = part file t.iv 16;
      sealed = part file t.sealed t.sealed_length;
      tag = part file t.tag 16;
      remarks = told_called file (kinds_to file (records_read file).1) t.offsets t.lengths t.count few i;
    }
