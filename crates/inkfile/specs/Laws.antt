-- What reading and writing of ink files owe each other (document 02, 2026-02: accepted files come out byte for byte, and fields within the
-- limits survive), and when each refuses.
use Rattle.std.specs.Prelude.{◌≡◌, ◌↔◌, List, [], ◌++◌, ℕ, ◌≤◌, ◌<◌, length, take, drop}
use Rattle.lists.specs.Blocks.{Bytes}
use Rattle.inkfile.specs.Format.{Fields, ink_of, Allowed}
use Rattle.inkfile.specs.Reading.{told_of, read_ink_answer, fields_read}
use Rattle.inkfile.specs.Writing.{write_ink_answer, call, call_told}
use Rattle.inkfile.specs.Faults.{ReadFault, WriteRefusal}

-- reading does not refuse a file
abbrev pub Accepted : List ℕ → Type 0
Accepted file = (read_ink_answer file).refusal ≡ 0

-- a file from which the fields f are read
pub record Holds (file : List ℕ) (f : Fields) : Type 0 where
  pub accepted : Accepted file
  pub same : fields_read file ≡ f

-- a file that is the writing of fields within the limits
pub record WritingOf (file : List ℕ) (f : Fields) : Type 0 where
  pub allowed : Allowed f
  pub same : ink_of f ≡ file

pub record WrittenFile (file : List ℕ) : Type 0 where
  pub fields : Fields
  pub writing : WritingOf file fields

-- writing f into out answers 0, the file's length, and leaves the file in front of what the buffer held behind it
abbrev pub WrittenInto : Fields → List ℕ → List ℕ → Type 0
WrittenInto f out file = write_ink_answer f out ≡ ((0, length file), file ++ drop (length file) out)

pub record InkLaws : Type 0 where
  -- fields within the limits, written and read, are those fields; and where a writer wrote some, they are in front of its buffer
  pub survives : (f : Fields) → Allowed f → Holds (ink_of f) f
  pub left : (f : Fields) (out : List ℕ) → (write_ink_answer f out).0.0 ≡ 0 → Holds (take (write_ink_answer f out).0.1 (write_ink_answer f out).1) f
  -- an accepted file, its fields read out and written, is that file
  pub restored : (file : List ℕ) → Bytes file → Accepted file → WritingOf file (fields_read file)
  pub again : (file out : List ℕ) → Bytes file → Accepted file → length file ≤ length out → WrittenInto (fields_read file) out file
  -- such fields can be given to the writer: all fields of up to four remarks, and those of an accepted file by what is told of it
  pub called : (f : Fields) → length f.remarks ≤ 4 → call f ≡ f
  pub called_told : (file : List ℕ) → Bytes file → Accepted file → call_told file (read_ink_answer file) ≡ fields_read file
  -- so a file of bytes is accepted exactly if it is the writing of fields within the limits, and these are the only ones
  pub exactly : (file : List ℕ) → Bytes file → Accepted file ↔ WrittenFile file
  pub once : (f g : Fields) → Allowed f → Allowed g → ink_of f ≡ ink_of g → f ≡ g
  -- refusals, both ways: a reader's number is that of the first fault in the file, a writer's that of the first fault of its fields, then 9;
  -- a writer writes exactly where there is none
  pub read_refused : (file : List ℕ) (q : ℕ) → 0 < q → ((read_ink_answer file).refusal ≡ q) ↔ ReadFault file 0 q
  pub nothing_told : (file : List ℕ) (q : ℕ) → ReadFault file 0 q → read_ink_answer file ≡ told_of q 0 [] [] []
  pub write_refused : (f : Fields) (out : List ℕ) (q : ℕ) → 0 < q → (write_ink_answer f out ≡ ((q, 0), out)) ↔ WriteRefusal f out q
  pub written : (f : Fields) (out : List ℕ) → WrittenInto f out (ink_of f) ↔ (Allowed f × (length (ink_of f) ≤ length out))
