-- Drawing from random bytes (document 02, 2026-03): a number, and a coding, which starts as 0 to 15 and of which two places at a time are exchanged.
-- What is left of the bytes stands in front; where they have ended, zeros are read on. A zero is taken for every k, so drawing always
-- comes to an end, and whether it went past the bytes that were given is told by how many it drew.
use Rattle.std.specs.Prelude.{cond, List, [], ◌∷◌, ℕ, zero, suc, ◌+◌, ◌-◌, ◌%◌, leb, get_or, set, drop}
use Rattle.lists.specs.Tabulation.{tab}
use Rattle.cipher.specs.Lengths.{coding_length}

-- ---- one number

-- a byte from here on is skipped for k: of the bytes below, equally many leave each of the remainders 0 to k
abbrev pub limit : ℕ → ℕ
limit k = 256 - 256 % (k + 1)

-- how many bytes in front are skipped for k
unfoldable pub skipped : ℕ → List ℕ → ℕ
skipped k [] = zero
skipped k (b ∷ s) = cond (leb (limit k) b) (suc (skipped k s)) zero

-- so many bytes are drawn for k
abbrev pub drawn : ℕ → List ℕ → ℕ
drawn k s = suc (skipped k s)

-- and this is the number that the byte taken stands for, at most k
abbrev pub chosen : ℕ → List ℕ → ℕ
chosen k s = get_or s (skipped k s) 0 % (k + 1)

-- ---- a coding

-- the contents of the places k and j of c exchanged
unfoldable pub swapped : List ℕ → ℕ → ℕ → List ℕ
swapped c k j = set (set c k (get_or c j 0)) j (get_or c k 0)

-- c, when each place from k down to 1 is exchanged with the one that is drawn for it
unfoldable pub shuffled : ℕ → List ℕ → List ℕ → List ℕ
shuffled zero c s = c
shuffled (suc k) c s = shuffled k (swapped c (suc k) (chosen (suc k) s)) (drop (drawn (suc k) s) s)

-- how many bytes that draws: k and the bytes alone decide it
unfoldable pub shuffle_draws : ℕ → List ℕ → ℕ
shuffle_draws zero s = zero
shuffle_draws (suc k) s = drawn (suc k) s + shuffle_draws k (drop (drawn (suc k) s) s)

-- places 0 to 15 hold 0 to 15
unfoldable pub unshuffled : List ℕ
unshuffled = tab coding_length (λ v. v)

-- the coding that is drawn from s, and how many bytes that draws
unfoldable pub coding_from : List ℕ → List ℕ
coding_from s = shuffled 15 unshuffled s

unfoldable pub coding_draws : List ℕ → ℕ
coding_draws s = shuffle_draws 15 s
