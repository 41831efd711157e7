-- The texts of document 01's example of the round program ("Table of examples"), in ASCII.
use Rattle.std.specs.Prelude.{List, [], ◌∷◌, ℕ}

-- "1 5190070f8d663d69d4cfede510111213"
abbrev pub first_line : List ℕ
first_line = 49 ∷ 32 ∷ 53 ∷ 49 ∷ 57 ∷ 48 ∷ 48 ∷ 55 ∷ 48 ∷ 102 ∷ 56 ∷ 100 ∷ 54 ∷ 54 ∷ 51 ∷ 100 ∷ 54 ∷ 57 ∷ 100 ∷ 52 ∷ 99 ∷ 102 ∷ 101 ∷ 100 ∷ 101 ∷ 53 ∷ 49 ∷ 48 ∷ 49 ∷ 49 ∷ 49 ∷ 50 ∷ 49 ∷ 51 ∷ 10 ∷ []

-- "24 9fc84e3528c6c6185532c7a704648bfd"
abbrev pub last_line : List ℕ
last_line = 50 ∷ 52 ∷ 32 ∷ 57 ∷ 102 ∷ 99 ∷ 56 ∷ 52 ∷ 101 ∷ 51 ∷ 53 ∷ 50 ∷ 56 ∷ 99 ∷ 54 ∷ 99 ∷ 54 ∷ 49 ∷ 56 ∷ 53 ∷ 53 ∷ 51 ∷ 50 ∷ 99 ∷ 55 ∷ 97 ∷ 55 ∷ 48 ∷ 52 ∷ 54 ∷ 52 ∷ 56 ∷ 98 ∷ 102 ∷ 100 ∷ 10 ∷ []

-- "refused 7", and a number of two digits, "refused 37"
abbrev pub refused_seven : List ℕ
refused_seven = 114 ∷ 101 ∷ 102 ∷ 117 ∷ 115 ∷ 101 ∷ 100 ∷ 32 ∷ 55 ∷ 10 ∷ []

abbrev pub refused_thirty_seven : List ℕ
refused_thirty_seven = 114 ∷ 101 ∷ 102 ∷ 117 ∷ 115 ∷ 101 ∷ 100 ∷ 32 ∷ 51 ∷ 55 ∷ 10 ∷ []
