-- Bytes over those of a buffer.
use Rattle.std.specs.Prelude.{List, ◌++◌, ℕ, ◌+◌, length, take, drop}

-- b over what d has from a place on
abbrev pub overlaid : List ℕ → ℕ → List ℕ → List ℕ
overlaid d at b = take at d ++ b ++ drop (at + length b) d
