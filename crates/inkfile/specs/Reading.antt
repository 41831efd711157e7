-- What reading an ink file answers (document 02, 2026-02): it goes record by record, and the first record with a fault decides.
use Rattle.std.specs.Prelude.{Bool, cond, not, ◌&&◌, List, [], ◌∷◌, ◌++◌, ℕ, zero, suc, ◌+◌, ◌-◌, eqb, leb, ltb, length, get_or, take, drop}
use Rattle.lists.specs.Blocks.{block_length}
use Rattle.lists.specs.Tabulation.{tab}
use Rattle.lists.specs.Refusals.{first}
use Rattle.words.specs.Word.{word}
use Rattle.inkfile.specs.Kinds.{pad_number_length, kind_tests}
use Rattle.inkfile.specs.Format.{Record, mark, head_length, Fields}

module _ (file : List ℕ) where
  -- of the record that starts at a place: its kind byte, and its length, of four bytes, lowest first
  abbrev pub kind_at : ℕ → ℕ
  kind_at at = get_or file (at + 1) 0

  unfoldable pub length_at : ℕ → ℕ
  length_at at = word (get_or file (at + 2) 0) (get_or file (at + 3) 0) (get_or file (at + 4) 0) (get_or file (at + 5) 0)

  -- where record k starts, if those before it are records
  unfoldable pub start_of : ℕ → ℕ
  start_of zero = 0
  start_of (suc k) = start_of k + head_length + length_at (start_of k)

  -- what is refused of record k, which starts at a place: 30, its first six bytes cut short, its mark, its kind; then 31, a length that the
  -- kind does not allow, or past the file's end
  unfoldable pub record_tests : ℕ → ℕ → List (Bool × ℕ)
  record_tests k at =
      (ltb (length file) (at + head_length), 30) ∷ (not (eqb (get_or file at 0) mark), 30)
      ∷ (kind_tests k (kind_at at) (length_at at) ++ ((ltb (length file) (at + head_length + length_at at), 31) ∷ []))

  -- the file ends behind the first k records, the tag among them
  unfoldable pub ends : ℕ → Bool
  ends k = leb 4 k && eqb (start_of k) (length file)

  -- behind k records, when at most n more may come: the number of a refusal and 0, or 0 and how many records there are
  unfoldable pub walk : ℕ → ℕ → ℕ × ℕ
  walk zero k = cond (ends k) (0, k) (30, 0)
  walk (suc n) k = cond (ends k) (0, k) (first (record_tests k (start_of k)) (λ q. (q, 0)) (walk n (suc k)))

  -- four records and up to four remarks
  unfoldable pub records_read : ℕ × ℕ
  records_read = walk 8 0

-- what is told of a file: a refusal's number or 0; where the fields stand, and the length of the sealed blocks; how many remarks there are,
-- and of each its kind, place and length. Where there is nothing to tell there are zeros
pub record Told : Type 0 where
  pub refusal : ℕ
  pub pad_number : ℕ
  pub iv : ℕ
  pub sealed : ℕ
  pub sealed_length : ℕ
  pub tag : ℕ
  pub count : ℕ
  pub kinds : List ℕ
  pub offsets : List ℕ
  pub lengths : List ℕ

-- of the first c records of a file: kinds, places of the bytes, lengths
abbrev pub kinds_to : List ℕ → ℕ → List ℕ
kinds_to file c = tab c (λ i. kind_at file (start_of file i))

abbrev pub offsets_to : List ℕ → ℕ → List ℕ
offsets_to file c = tab c (λ i. start_of file i + head_length)

abbrev pub lengths_to : List ℕ → ℕ → List ℕ
lengths_to file c = tab c (λ i. length_at file (start_of file i))

-- the four behind the first four
abbrev pub behind_four : List ℕ → List ℕ
behind_four l = get_or l 4 0 ∷ get_or l 5 0 ∷ get_or l 6 0 ∷ get_or l 7 0 ∷ []

-- all of it, by a refusal q, and kinds ks, places os and lengths ls of c records
unfoldable pub told_of : ℕ → ℕ → List ℕ → List ℕ → List ℕ → Told
told_of q c ks os ls =
    record {
      refusal = q;
      pad_number = get_or os 0 0;
      iv = get_or os 1 0;
      sealed = get_or os 2 0;
      sealed_length = get_or ls 2 0;
      tag = get_or os 3 0;
      count = c - 4;
      kinds = behind_four ks;
      offsets = behind_four os;
      lengths = behind_four ls;
    }

-- what reading answers
unfoldable pub read_ink_answer : List ℕ → Told
read_ink_answer file =
    let a = records_read file in told_of a.0 a.1 (kinds_to file a.1) (offsets_to file a.1) (lengths_to file a.1)

-- the fields, read out of a file by what is told of it
abbrev pub part : List ℕ → ℕ → ℕ → List ℕ
part file at n = take n (drop at file)

unfoldable pub remarks_told : List ℕ → List ℕ → List ℕ → List ℕ → ℕ → ℕ → List Record
remarks_told file ks os ls i zero = []
remarks_told file ks os ls i (suc n) = (get_or ks i 0, part file (get_or os i 0) (get_or ls i 0)) ∷ remarks_told file ks os ls (suc i) n

unfoldable pub fields_told : List ℕ → Told → Fields
fields_told file t =
    record {
      pad_number = part file t.pad_number pad_number_length;
      iv = part file t.iv block_length;
      sealed = part file t.sealed t.sealed_length;
      tag = part file t.tag block_length;
      remarks = remarks_told file t.kinds t.offsets t.lengths 0 t.count;
    }

abbrev pub fields_read : List ℕ → Fields
fields_read file = fields_told file (read_ink_answer file)
