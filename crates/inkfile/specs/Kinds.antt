-- The kinds of records of an ink file (document 02, 2026-02): which byte stands for which, as which record of a file each may come, and
-- how many bytes each may have.
use Rattle.std.specs.Prelude.{Bool, false, Option, Some, None, cond, not, ◌&&◌, List, [], ◌∷◌, ℕ, eqb, leb, ltb}
use Rattle.lists.specs.Blocks.{block_length}
use Rattle.lists.specs.Refusals.{first}
use Rattle.cipher.specs.Answers.{bad_text}
use Rattle.inkfile.specs.declared.kind.Kind.{Kind}
use Rattle.inkfile.specs.declared.kind.Kind.TheVariants.{PadNumber, Iv, Sealed, Tag, Remark}

-- the bytes of a pad number, and the most bytes of a remark
abbrev pub pad_number_length : ℕ
pad_number_length = 8

abbrev pub longest_remark : ℕ
longest_remark = 255

-- the kind that a byte stands for: 01 to 04 and 10 to 1f are known, 00, 05 to 0f and 20 to ff are not
unfoldable pub kind_of : ℕ → Option Kind
kind_of b =
    cond (eqb b 0x01) (Some PadNumber) (cond (eqb b 0x02) (Some Iv) (cond (eqb b 0x03) (Some Sealed) (cond (eqb b 0x04) (Some Tag)
    (cond (leb 0x10 b && leb b 0x1f) (Some Remark) None))))

-- whether a record of a kind may be record k of a file, counted from 0: the first four in their order, then up to four remarks; one of
-- no known kind may not
unfoldable pub due : Option Kind → ℕ → Bool
due (Some PadNumber) k = eqb k 0
due (Some Iv) k = eqb k 1
due (Some Sealed) k = eqb k 2
due (Some Tag) k = eqb k 3
due (Some Remark) k = leb 4 k && ltb k 8
due None k = false

-- whether it may have n bytes; sealed blocks are as many bytes as opening takes
unfoldable pub sized : Option Kind → ℕ → Bool
sized (Some PadNumber) n = eqb n pad_number_length
sized (Some Iv) n = eqb n block_length
sized (Some Sealed) n = not (bad_text n)
sized (Some Tag) n = eqb n block_length
sized (Some Remark) n = leb n longest_remark
sized None n = false

-- what is refused of a record k with a kind byte and n bytes, by a reader and by a writer: 30, a kind that is not known or not due; then
-- 31, a length that the kind does not allow
abbrev pub kind_tests : ℕ → ℕ → ℕ → List (Bool × ℕ)
kind_tests k kind n = (not (due (kind_of kind) k), 30) ∷ (not (sized (kind_of kind) n), 31) ∷ []

-- its fault by these: the number, 0 where there is none
unfoldable pub fault_of : ℕ → ℕ → ℕ → ℕ
fault_of k kind n = first (kind_tests k kind n) (λ q. q) 0
