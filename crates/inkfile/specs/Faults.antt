-- The refusals of ink files in words (document 02, 2026-02): the first record with a fault decides, and at it 30 comes before 31.
use Rattle.std.specs.Prelude.{false, ◌≡◌, List, ◌∷◌, ℕ, suc, ◌+◌, ◌%◌, ◌≤◌, ◌<◌, length, get_or}
use Rattle.inkfile.specs.Format.{Record, mark, head_length, Fields, records_of, ink_of, Allowed}
use Rattle.inkfile.specs.Reading.{kind_at, length_at, start_of, ends}

-- ---- by the kind, for a reader and for a writer

-- a kind byte that may be that of record k, counted from 0: 01 to 04 in this order, then up to four remarks of kinds 10 to 1f
pub data DueKind (k kind : ℕ) : Type 0 where
  one_of_four : k < 4 → kind ≡ suc k → DueKind k kind
  a_remark : 4 ≤ k → k < 8 → 0x10 ≤ kind → kind ≤ 0x1f → DueKind k kind

-- how many bytes a kind allows
pub data KindLength (kind n : ℕ) : Type 0 where
  of_pad_number : kind ≡ 0x01 → n ≡ 8 → KindLength kind n
  of_iv : kind ≡ 0x02 → n ≡ 16 → KindLength kind n
  of_sealed : kind ≡ 0x03 → 16 ≤ n → n ≤ 1048576 → n % 16 ≡ 0 → KindLength kind n
  of_tag : kind ≡ 0x04 → n ≡ 16 → KindLength kind n
  of_remark : 0x10 ≤ kind → kind ≤ 0x1f → n ≤ 255 → KindLength kind n

-- both, of record k
pub record Fitting (k kind n : ℕ) : Type 0 where
  pub placed : DueKind k kind
  pub measured : KindLength kind n

-- what is wrong with a record, by its number: a kind that is not known or not due, a fifth remark among them; then a length
pub data KindFault (k kind n : ℕ) : ℕ → Type 0 where
  undue : (DueKind k kind → ⊥) → KindFault k kind n 30
  unsized : DueKind k kind → (KindLength kind n → ⊥) → KindFault k kind n 31

-- ---- a reader

-- record k, at a place, has no fault
pub record Sound (file : List ℕ) (k at : ℕ) : Type 0 where
  pub head : at + head_length ≤ length file
  pub marked : get_or file at 0 ≡ mark
  pub fitting : Fitting k (kind_at file at) (length_at file at)
  pub room : at + head_length + length_at file at ≤ length file

-- its fault: its first six bytes cut short, its mark, its kind or length, or a length past the file's end
pub data RecordFault (file : List ℕ) (k at : ℕ) : ℕ → Type 0 where
  cut_short : length file < at + head_length → RecordFault file k at 30
  unmarked : at + head_length ≤ length file → (get_or file at 0 ≡ mark → ⊥) → RecordFault file k at 30
  by_kind : {q : ℕ} → at + head_length ≤ length file → get_or file at 0 ≡ mark → KindFault k (kind_at file at) (length_at file at) q → RecordFault file k at q
  past_end : at + head_length ≤ length file → get_or file at 0 ≡ mark → Fitting k (kind_at file at) (length_at file at)
      → length file < at + head_length + length_at file at → RecordFault file k at 31

-- the first fault from record k on, where the file does not end
pub data ReadFault (file : List ℕ) : ℕ → ℕ → Type 0 where
  here : {k q : ℕ} → ends file k ≡ false → RecordFault file k (start_of file k) q → ReadFault file k q
  later : {k q : ℕ} → Sound file k (start_of file k) → ReadFault file (suc k) q → ReadFault file k q

-- ---- a writer

-- the first fault in records of which the first is record k
pub data WriteFault : ℕ → List Record → ℕ → Type 0 where
  here : {k q : ℕ} {r : Record} {rs : List Record} → KindFault k r.0 (length r.1) q → WriteFault k (r ∷ rs) q
  later : {k q : ℕ} {r : Record} {rs : List Record} → Fitting k r.0 (length r.1) → WriteFault (suc k) rs q → WriteFault k (r ∷ rs) q

-- what a writer refuses: a fault of its fields, and then a buffer without room
pub data WriteRefusal (f : Fields) (out : List ℕ) : ℕ → Type 0 where
  at_fault : {q : ℕ} → WriteFault 0 (records_of f) q → WriteRefusal f out q
  no_room : Allowed f → length out < length (ink_of f) → WriteRefusal f out 9
