-- A session as a C caller keeps it, a record of 19 bytes: its block, its count, lowest byte first, and a byte that is not 0 where
-- it is finished.
use Rattle.std.specs.Prelude.{Bool, true, false, not, List, [], ◌∷◌, ◌++◌, ℕ, ◌+◌, ◌*◌, ◌/◌, ◌%◌, eqb, get_or, take}
use Rattle.lists.specs.Blocks.{block_length}
use Rattle.driver.specs.declared.session.Session.{Session}

unfoldable pub session_in : List ℕ → Session
session_in b = record { block = take block_length b; taken = get_or b 16 0 + 256 * get_or b 17 0; finished = not (eqb (get_or b 18 0) 0) }

abbrev pub flag_of : Bool → ℕ
flag_of true = 1
flag_of false = 0

unfoldable pub record_of : Session → List ℕ
record_of s = s.block ++ (s.taken % 256 ∷ s.taken / 256 ∷ flag_of s.finished ∷ [])

-- an answer with its session as a record; and one with a tag
abbrev pub recorded : ℕ × Session → ℕ × List ℕ
recorded a = (a.0, record_of a.1)

abbrev pub tag_recorded : (ℕ × List ℕ) × Session → ℕ × (List ℕ × List ℕ)
tag_recorded a = (a.0.0, (a.0.1, record_of a.1))
