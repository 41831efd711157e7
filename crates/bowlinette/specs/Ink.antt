-- What is told of an ink file as a C caller gets it: the number of a refusal or 0, and 18 numbers, those of `bowlinette_ink`.
use Rattle.std.specs.Prelude.{List, [], ◌∷◌, ℕ, get_or}
use Rattle.inkfile.specs.Reading.{Told}

unfoldable pub ink_numbers : Told → ℕ × List ℕ
ink_numbers t = (
  t.refusal,
  t.pad_number ∷ t.iv ∷ t.sealed ∷ t.sealed_length ∷ t.tag ∷ t.count
      ∷ get_or t.kinds 0 0 ∷ get_or t.kinds 1 0 ∷ get_or t.kinds 2 0 ∷ get_or t.kinds 3 0
      ∷ get_or t.offsets 0 0 ∷ get_or t.offsets 1 0 ∷ get_or t.offsets 2 0 ∷ get_or t.offsets 3 0
      ∷ get_or t.lengths 0 0 ∷ get_or t.lengths 1 0 ∷ get_or t.lengths 2 0 ∷ get_or t.lengths 3 0 ∷ [],
)
