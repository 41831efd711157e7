-- What writing an ink file answers (document 02, 2026-02): the fields are judged record by record, as a reader judges them, and then the
-- buffer.
use Rattle.std.specs.Prelude.{Bool, List, [], ◌∷◌, ◌++◌, map, ℕ, suc, length, get_or, take, drop}
use Rattle.lists.specs.Blocks.{block_length}
use Rattle.lists.specs.Refusals.{first}
use Rattle.cipher.specs.Answers.{room_tests}
use Rattle.inkfile.specs.Kinds.{pad_number_length, kind_tests}
use Rattle.inkfile.specs.Format.{Record, Fields, records_of, ink_of}
use Rattle.inkfile.specs.Reading.{Told, part}

-- what is refused of a run of records, the first of them record k
unfoldable pub run_tests : ℕ → List Record → List (Bool × ℕ)
run_tests k [] = []
run_tests k (r ∷ rs) = kind_tests k r.0 (length r.1) ++ run_tests (suc k) rs

-- and of fields that are to be written into a buffer
abbrev pub write_tests : Fields → List ℕ → List (Bool × ℕ)
write_tests f out = run_tests 0 (records_of f) ++ room_tests (length (ink_of f)) out

-- the fields into the front of out: the number of a refusal or 0, the length of the file, and what the buffer then holds
unfoldable pub write_ink_answer : Fields → List ℕ → (ℕ × ℕ) × List ℕ
write_ink_answer f out = first (write_tests f out) (λ q. ((q, 0), out)) ((0, length (ink_of f)), ink_of f ++ drop (length (ink_of f)) out)

-- remarks as they are given, their kinds and four bodies; a fifth and those behind it have no body
unfoldable pub remarks_of : List ℕ → List (List ℕ) → List Record
remarks_of [] bs = []
remarks_of (k ∷ ks) [] = (k, []) ∷ remarks_of ks []
remarks_of (k ∷ ks) (b ∷ bs) = (k, b) ∷ remarks_of ks bs

-- the fields as they are given
unfoldable pub fields_given : List ℕ → List ℕ → List ℕ → List ℕ → List ℕ → List (List ℕ) → Fields
fields_given pad_number iv sealed tag kinds bodies =
    record { pad_number = pad_number; iv = iv; sealed = sealed; tag = tag; remarks = remarks_of kinds bodies }

-- the call that gives fields of up to four remarks: their kinds, and four bodies, empty ones where there are fewer remarks
abbrev pub body_of : List Record → ℕ → List ℕ
body_of rs i = get_or (map (λ (r : Record). r.1) rs) i []

unfoldable pub call : Fields → Fields
call f =
    fields_given f.pad_number f.iv f.sealed f.tag (map (λ (r : Record). r.0) f.remarks)
    (body_of f.remarks 0 ∷ body_of f.remarks 1 ∷ body_of f.remarks 2 ∷ body_of f.remarks 3 ∷ [])

-- the call that gives what was read out of a file by what is told of it: the kinds as far as there are remarks, and four parts of the file
abbrev pub body_told : List ℕ → Told → ℕ → List ℕ
body_told file t i = part file (get_or t.offsets i 0) (get_or t.lengths i 0)

unfoldable pub call_told : List ℕ → Told → Fields
call_told file t =
    fields_given (part file t.pad_number pad_number_length) (part file t.iv block_length) (part file t.sealed t.sealed_length) (part file t.tag block_length)
    (take t.count t.kinds) (body_told file t 0 ∷ body_told file t 1 ∷ body_told file t 2 ∷ body_told file t 3 ∷ [])
