-- Which codings of a chain are not drawn (document 02, 2026-03; chain, set and coding are 01's terms). The codings of U and of the sets
-- 0 to r are counted as they stand: U has those from 0 on, set l those from 32 * (l + 1) on.
use Rattle.std.specs.Prelude.{◌≢◌, Bool, cond, ◌&&◌, ◌||◌, List, [], ℕ, ◌+◌, ◌-◌, ◌*◌, ◌/◌, ◌%◌, ◌<◌, leb, ltb, eqb, length}
use Rattle.cipher.specs.Lengths.{coding_length}

-- word `to` of each set from 1 on is coded as word `from` of the set before; of set 0 the codings in `given` are given
pub record Plan : Type 0 where
  pub from : ℕ
  pub to : ℕ
  pub given : List ℕ

-- what the two words must be
abbrev pub TwoWords : ℕ → ℕ → Type 0
TwoWords from to = (from < 4) × (to < 4) × (from ≢ to)

-- a chain of document 01: the word 3 rule, and nothing is given
abbrev pub sealing : Plan
sealing = record { from = 0; to = 3; given = [] }

-- a reading chain (2026-01) with the given set 0
abbrev pub reading : List ℕ → Plan
reading set = record { from = 3; to = 0; given = set }

-- the word rule fixes coding k
unfoldable pub fixed_coding : Plan → ℕ → Bool
fixed_coding p k = leb 64 k && eqb (k % 32 / 8) p.to

-- by this coding of the set before
unfoldable pub source : Plan → ℕ → ℕ
source p k = cond (fixed_coding p k) (k + 8 * p.from - (32 + 8 * p.to)) k

-- coding k is given
unfoldable pub given_coding : Plan → ℕ → Bool
given_coding p k = leb 32 k && ltb (k - 32) (length p.given / coding_length)

-- either way it draws nothing
abbrev pub undrawn : Plan → ℕ → Bool
undrawn p k = fixed_coding p k || given_coding p k
