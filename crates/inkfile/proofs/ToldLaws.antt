-- What is told of a file, from its records.
use mathlib.Core.Path.{◌≡◌, sym, ap, ◌∙◌}
use mathlib.Core.List.{List, [], ◌∷◌, ◌++◌}
use Prim.Native.Nat.{ℕ, ◌-◌}
use lib.ListN.{get_or, replicate, get_or-map}
use Rattle.lists.proofs.TabulationLaws.{get_or_filled}
use Rattle.inkfile.specs.Reading.{records_read, kinds_to, offsets_to, lengths_to, behind_four, told_of, read_ink_answer}
use Rattle.inkfile.specs.ReadingSteps.{records_of_walk, records_answer, kinds_in, offsets_in, lengths_in}
use Rattle.inkfile.specs.declared.read.Record.{Record}

four_filled : (l : List ℕ) (n : ℕ) → behind_four (l ++ replicate n 0) ≡ behind_four l
four_filled l n = λ i. get_or_filled l n 0 4 i ∷ get_or_filled l n 0 5 i ∷ get_or_filled l n 0 6 i ∷ get_or_filled l n 0 7 i ∷ []

told_filled : (q c n : ℕ) (ks os ls : List ℕ) → told_of q c (ks ++ replicate n 0) (os ++ replicate n 0) (ls ++ replicate n 0) ≡ told_of q c ks os ls
unfolding told_of
told_filled q c n ks os ls =
    λ i. record {
      refusal = q;
      pad_number = get_or_filled os n 0 0 i;
      iv = get_or_filled os n 0 1 i;
      sealed = get_or_filled os n 0 2 i;
      sealed_length = get_or_filled ls n 0 2 i;
      tag = get_or_filled os n 0 3 i;
      count = c - 4;
      kinds = four_filled ks n i;
      offsets = four_filled os n i;
      lengths = four_filled ls n i;
    }

pub laid_out : (file : List ℕ) (q c : ℕ) (ks os ls : List ℕ) → (q, c, ks, os, ls) ≡ records_answer file → told_of q c ks os ls ≡ read_ink_answer file
unfolding read_ink_answer records_of_walk
laid_out file q c ks os ls e =
    let a = records_read file in
    ap (λ (t : ℕ × ℕ × List ℕ × List ℕ × List ℕ). told_of t.0 t.1 t.2 t.3 t.4) e
    ∙ told_filled a.0 a.1 (8 - a.1) (kinds_to file a.1) (offsets_to file a.1) (lengths_to file a.1)

-- as the code puts it together, from the records
module _ (rs : List Record) where
  abbrev at : ℕ → Record
  at i = get_or rs i (record { kind = 0; offset = 0; length = 0 })

  pub told_records : (c m : ℕ) → m ≡ c - 4
      → record {
        refusal = 0;
        pad_number = (at 0).offset;
        iv = (at 1).offset;
        sealed = (at 2).offset;
        sealed_length = (at 2).length;
        tag = (at 3).offset;
        count = m;
        kinds = (at 4).kind ∷ (at 5).kind ∷ (at 6).kind ∷ (at 7).kind ∷ [];
        offsets = (at 4).offset ∷ (at 5).offset ∷ (at 6).offset ∷ (at 7).offset ∷ [];
        lengths = (at 4).length ∷ (at 5).length ∷ (at 6).length ∷ (at 7).length ∷ [];
      }
      ≡ told_of 0 c (kinds_in rs) (offsets_in rs) (lengths_in rs)
  unfolding told_of
  told_records c m e =
      let zero : Record = record { kind = 0; offset = 0; length = 0 } in
      let k = λ (i : ℕ). sym (get_or-map (λ (r : Record). r.kind) rs i zero) in
      let o = λ (i : ℕ). sym (get_or-map (λ (r : Record). r.offset) rs i zero) in
      let l = λ (i : ℕ). sym (get_or-map (λ (r : Record). r.length) rs i zero) in
      λ i. record {
        refusal = 0;
        pad_number = o 0 i;
        iv = o 1 i;
        sealed = o 2 i;
        sealed_length = l 2 i;
        tag = o 3 i;
        count = e i;
        kinds = k 4 i ∷ k 5 i ∷ k 6 i ∷ k 7 i ∷ [];
        offsets = o 4 i ∷ o 5 i ∷ o 6 i ∷ o 7 i ∷ [];
        lengths = l 4 i ∷ l 5 i ∷ l 6 i ∷ l 7 i ∷ [];
      }
