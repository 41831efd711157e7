-- An ink file as bytes (document 02, 2026-02): what a set of fields looks like, and which fields are within the limits.
use Rattle.std.specs.Prelude.{◌≡◌, List, [], ◌∷◌, ◌++◌, ℕ, ◌%◌, ◌≤◌, length}
use Rattle.words.specs.Word.{bytes_of}

-- a record: its kind byte and its bytes
abbrev pub Record : Type 0
Record = ℕ × List ℕ

-- the first byte of every record
abbrev pub mark : ℕ
mark = 0xa5

-- the head of a record of n bytes: the mark, the kind, and the length in four bytes, lowest first
abbrev pub head_of : ℕ → ℕ → List ℕ
head_of kind n = mark ∷ kind ∷ bytes_of n

abbrev pub head_length : ℕ
head_length = 6

-- a record in bytes, and a run of records
unfoldable pub record_of : Record → List ℕ
record_of r = head_of r.0 (length r.1) ++ r.1

unfoldable pub run_of : List Record → List ℕ
run_of [] = []
run_of (r ∷ rs) = record_of r ++ run_of rs

-- what an ink file holds; a remark is its kind byte and its bytes
pub record Fields : Type 0 where
  pub pad_number : List ℕ
  pub iv : List ℕ
  pub sealed : List ℕ
  pub tag : List ℕ
  pub remarks : List Record

abbrev pub records_of : Fields → List Record
records_of f = (0x01, f.pad_number) ∷ (0x02, f.iv) ∷ (0x03, f.sealed) ∷ (0x04, f.tag) ∷ f.remarks

-- the ink file of a set of fields
unfoldable pub ink_of : Fields → List ℕ
ink_of f = run_of (records_of f)

-- a remark within the limits: kinds 10 to 1f, 0 to 255 bytes
pub record AllowedRemark (r : Record) : Type 0 where
  pub low : 0x10 ≤ r.0
  pub high : r.0 ≤ 0x1f
  pub short : length r.1 ≤ 255

pub data AllowedRemarks : List Record → Type 0 where
  no_more : AllowedRemarks []
  one_more : {r : Record} {rs : List Record} → AllowedRemark r → AllowedRemarks rs → AllowedRemarks (r ∷ rs)

-- fields within the limits: a pad number of 8 bytes, an IV of 16, sealed blocks of 16 to 1,048,576, a multiple of 16, a tag of 16, and up
-- to four remarks
pub record Allowed (f : Fields) : Type 0 where
  pub pad_number : length f.pad_number ≡ 8
  pub iv : length f.iv ≡ 16
  pub least : 16 ≤ length f.sealed
  pub most : length f.sealed ≤ 1048576
  pub whole : length f.sealed % 16 ≡ 0
  pub tag : length f.tag ≡ 16
  pub few : length f.remarks ≤ 4
  pub remarks : AllowedRemarks f.remarks
