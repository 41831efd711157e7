-- Chains for each key size: the identity chain (document 01, "Table of examples", its first paragraph); one of which no coding is the
-- identity and every mask is set; a reading chain (document 02, 2026-01) of that kind, whose set 0 is the second chain's set r; and both
-- of these with no mask set at half byte 0 (2026-06). All are valid (`PremisesMet`).
use Rattle.std.specs.Prelude.{cond, List, ℕ, ◌+◌, ◌*◌, ◌%◌, eqb}
use Rattle.cipher.specs.KeySize.{rounds}
use Rattle.cipher.specs.ChainParts.{chain_from}
use Rattle.cipher.specs.Examples.{unchanged}
use Rattle.cipher.specs.declared.size.KeySize.{KeySize}

-- every coding leaves every number as it is, and no mask is set
unfoldable pub identity_chain : KeySize → List ℕ
identity_chain z = chain_from (rounds z) unchanged (λ l. unchanged) (λ l. unchanged) (λ l k. 0)

-- a coding that adds k + 1, mod 16, for k below 15
abbrev pub shift : ℕ → ℕ → ℕ
shift k v = (v + k + 1) % 16

-- how far the coding of half byte j of word w shifts in set l, where the words go on by c from set to set
abbrev pub shift_at : ℕ → ℕ → ℕ → ℕ → ℕ
shift_at c l w j = (c * l + w) % 4 + j

-- masks by their places: all set, and all but those at half byte 0
abbrev pub all_set : ℕ → ℕ
all_set k = 1

abbrev pub tops_unset : ℕ → ℕ
tops_unset k = cond (eqb (k % 8) 0) 0 1

-- every coding shifts, by its place, and each round has the masks m
unfoldable pub shifting_chain : (ℕ → ℕ) → ℕ → KeySize → List ℕ
shifting_chain m c z =
    chain_from (rounds z) (λ w j. shift (shift_at c 0 w j)) (λ l w j. shift (shift_at c l w j)) (λ l i j. shift (shift_at c l i j)) (λ l k. m k)

-- word 3 of a set shifts as far as word 0 of the set before it; and in the reading chain word 0 as far as word 3
abbrev pub shifted_chain : KeySize → List ℕ
shifted_chain z = shifting_chain all_set 1 z

abbrev pub shifted_reading_chain : KeySize → List ℕ
shifted_reading_chain z = shifting_chain all_set 3 z
