-- The chain that is made from random bytes (document 02, 2026-03; chain, set, coding and mask are 01's terms). Its parts are drawn in the
-- order in which they stand: the 32 codings of U, those of the sets 0 to r, then for each round 24 middle codings and 24 masks. Codings
-- that are fixed or given draw nothing; all masks are drawn (2026-06).
use Rattle.std.specs.Prelude.{cond, List, ◌++◌, ℕ, ◌+◌, ◌-◌, ◌*◌, ◌%◌, get_or, take, drop}
use Rattle.lists.specs.Tabulation.{tab, chunks}
use Rattle.cipher.specs.Lengths.{coding_length}
use Rattle.coding_maker.specs.Draw.{coding_from, coding_draws}
use Rattle.coding_maker.specs.Parts.{begins, left}
use Rattle.maker.specs.Plan.{Plan, source, given_coding, undrawn}

-- ---- the sets

-- what coding k of those of U and the sets draws
unfoldable pub set_use : Plan → ℕ → List ℕ → ℕ
set_use p k s = cond (undrawn p k) 0 (coding_draws s)

-- coding k where the word rule does not fix it: given, or drawn from s
unfoldable pub free_coding : Plan → ℕ → List ℕ → List ℕ
free_coding p k s = cond (given_coding p k) (take coding_length (drop (coding_length * (k - 32)) p.given)) (coding_from s)

-- coding k: the one that it is fixed by, or its own
unfoldable pub set_coding : Plan → List ℕ → ℕ → List ℕ
set_coding p s k = free_coding p (source p k) (left (set_use p) (source p k) s)

-- ---- a round

-- 24 middle codings: how many bytes, and the codings
abbrev pub middle_use : ℕ → List ℕ → ℕ
middle_use k s = coding_draws s

unfoldable pub middles_draw : List ℕ → ℕ
middles_draw s = begins middle_use 24 s

unfoldable pub middles_from : List ℕ → List ℕ
middles_from s = chunks 24 (λ k. coding_from (left middle_use k s))

-- 24 masks: each draws a byte, and is the lowest bit of it; the one at place k, and all
unfoldable pub mask_from : ℕ → List ℕ → ℕ
mask_from k s = get_or s k 0 % 2

unfoldable pub masks_from : List ℕ → List ℕ
masks_from s = tab 24 (λ k. mask_from k s)

-- the middle codings, and the masks from what they leave: how many bytes, and the round
unfoldable pub round_draws : List ℕ → ℕ
round_draws s = middles_draw s + 24

unfoldable pub round_from : List ℕ → List ℕ
round_from s = middles_from s ++ masks_from (drop (middles_draw s) s)

-- ---- the chain

-- the codings of U and the sets 0 to r: how many bytes, and the codings
unfoldable pub sets_draw : Plan → ℕ → List ℕ → ℕ
sets_draw p r s = begins (set_use p) (32 * (r + 2)) s

unfoldable pub sets_from : Plan → ℕ → List ℕ → List ℕ
sets_from p r s = chunks (32 * (r + 2)) (set_coding p s)

-- r rounds: how many bytes, and the rounds
abbrev pub round_use : ℕ → List ℕ → ℕ
round_use l s = round_draws s

unfoldable pub rounds_draw : ℕ → List ℕ → ℕ
rounds_draw r s = begins round_use r s

unfoldable pub rounds_from : ℕ → List ℕ → List ℕ
rounds_from r s = chunks r (λ l. round_from (left round_use l s))

-- a chain of r rounds, the sets first: how many bytes it draws from s, and the chain
unfoldable pub chain_draws : Plan → ℕ → List ℕ → ℕ
chain_draws p r s = sets_draw p r s + rounds_draw r (drop (sets_draw p r s) s)

unfoldable pub chain_made : Plan → ℕ → List ℕ → List ℕ
chain_made p r s = sets_from p r s ++ rounds_from r (drop (sets_draw p r s) s)
