-- Codings drawn from a few bytes (document 02, 2026-03), as they come out by hand.
use Rattle.std.specs.Prelude.{◌≡◌, List, [], ◌∷◌, ℕ, suc}
use Rattle.lists.specs.Tabulation.{tab}
use Rattle.coding_maker.specs.Draw.{limit, coding_from, coding_draws}

-- 0 for every k: each place is exchanged with place 0
abbrev pub zero_bytes : List ℕ
zero_bytes = 0 ∷ 0 ∷ 0 ∷ 0 ∷ 0 ∷ 0 ∷ 0 ∷ 0 ∷ 0 ∷ 0 ∷ 0 ∷ 0 ∷ 0 ∷ 0 ∷ 0 ∷ []

-- 7 for every k: the places from 15 down to 8 are exchanged with place 7, place 6 with place 0, 5 with 1, 4 with 2, 2 with 1, and 7, 3 and 1 stay
abbrev pub seven_bytes : List ℕ
seven_bytes = 7 ∷ 7 ∷ 7 ∷ 7 ∷ 7 ∷ 7 ∷ 7 ∷ 7 ∷ 7 ∷ 7 ∷ 7 ∷ 7 ∷ 7 ∷ 7 ∷ 7 ∷ []

-- k for every k, or what leaves the same remainder: each place stays as it is
abbrev pub own_bytes : List ℕ
own_bytes = 15 ∷ 29 ∷ 27 ∷ 25 ∷ 23 ∷ 21 ∷ 19 ∷ 17 ∷ 15 ∷ 13 ∷ 11 ∷ 9 ∷ 7 ∷ 5 ∷ 3 ∷ []

-- the same, and before each byte the first one that is skipped for that k, where there is one
abbrev pub skipped_bytes : List ℕ
skipped_bytes =
    15 ∷ 255 ∷ 14 ∷ 252 ∷ 13 ∷ 247 ∷ 12 ∷ 252 ∷ 11 ∷ 253 ∷ 10 ∷ 250 ∷ 9 ∷ 252 ∷ 8 ∷ 7 ∷ 252 ∷ 6 ∷ 252 ∷ 5 ∷ 255 ∷ 4 ∷ 3 ∷ 255 ∷ 2 ∷ 1 ∷ []

pub record MarkedCodings : Type 0 where
  -- from where on bytes are skipped, for k from 1 to 15
  pub limits : tab 15 (λ k. limit (suc k)) ≡ 256 ∷ 255 ∷ 256 ∷ 255 ∷ 252 ∷ 252 ∷ 256 ∷ 252 ∷ 250 ∷ 253 ∷ 252 ∷ 247 ∷ 252 ∷ 255 ∷ 256 ∷ []
  pub zero : coding_from zero_bytes ≡ 1 ∷ 2 ∷ 3 ∷ 4 ∷ 5 ∷ 6 ∷ 7 ∷ 8 ∷ 9 ∷ 10 ∷ 11 ∷ 12 ∷ 13 ∷ 14 ∷ 15 ∷ 0 ∷ []
  pub seven : coding_from seven_bytes ≡ 6 ∷ 4 ∷ 5 ∷ 3 ∷ 2 ∷ 1 ∷ 0 ∷ 8 ∷ 9 ∷ 10 ∷ 11 ∷ 12 ∷ 13 ∷ 14 ∷ 15 ∷ 7 ∷ []
  pub own : coding_from own_bytes ≡ 0 ∷ 1 ∷ 2 ∷ 3 ∷ 4 ∷ 5 ∷ 6 ∷ 7 ∷ 8 ∷ 9 ∷ 10 ∷ 11 ∷ 12 ∷ 13 ∷ 14 ∷ 15 ∷ []
  pub skips : coding_from skipped_bytes ≡ 0 ∷ 1 ∷ 2 ∷ 3 ∷ 4 ∷ 5 ∷ 6 ∷ 7 ∷ 8 ∷ 9 ∷ 10 ∷ 11 ∷ 12 ∷ 13 ∷ 14 ∷ 15 ∷ []
  -- how many bytes these draw
  pub zero_count : coding_draws zero_bytes ≡ 15
  pub skip_count : coding_draws skipped_bytes ≡ 26
