-- A position in random bytes that each draw moves on.
use Rattle.std.specs.Prelude.{List, ℕ, ◌+◌, ◌≤◌, length, drop}
use Rattle.coding_maker.specs.declared.draw.Source.{Source}

-- the bytes that are left
abbrev pub rest : Source → List ℕ
rest s = drop s.at s.random.now

-- behind what u draws
abbrev pub past : (List ℕ → ℕ) → Source → Source
past u s = record { numbers = s.numbers; random = s.random; at = s.at + u (rest s) }

-- at most m places past the end
abbrev pub Near : ℕ → Source → Type 0
Near m s = s.at ≤ length s.random.now + m
