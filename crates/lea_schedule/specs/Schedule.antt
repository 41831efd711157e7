-- LEA's key schedule (document 001, algorithms 3, 4 and 5; document 01, "LEA", which mends their scans): the key's words T
-- are changed step by step, and each step gives one row of six round keys.
use Rattle.std.specs.Prelude.{ℕ, zero, suc, ◌+◌, ◌*◌, ◌%◌, List, [], ◌∷◌, ◌++◌, slice_index, slice_set}
use Rattle.words.specs.Word.{add, rol, word_at, words4}
use Rattle.words.specs.Rows.{thirty_two}

-- the constants δ0 to δ7
abbrev pub delta : List ℕ
delta = 0xc3efe9db ∷ 0x44626b02 ∷ 0x79e27c8a ∷ 0x78df30ec ∷ 0x715ea49e ∷ 0xc785da0a ∷ 0xe04ef22a ∷ 0xe5c40957 ∷ []

-- by how much the word at place m of a step is turned
abbrev pub turns : List ℕ
turns = 1 ∷ 3 ∷ 6 ∷ 11 ∷ 13 ∷ 17 ∷ []

-- δ of step i, for a key of n words
abbrev pub delta_of : ℕ → ℕ → ℕ
delta_of n i = slice_index delta (i % n)

-- a word t at place m of step i, with the step's δ
unfoldable pub mixed : ℕ → ℕ → ℕ → ℕ → ℕ
mixed d i m t = rol (slice_index turns m) (add t (rol (i + m) d))

-- ---- 16 bytes: four words, all changed in a step; word 1 stands three times in the row
unfoldable pub mixed_four : ℕ → ℕ → List ℕ → List ℕ
mixed_four d i t = mixed d i 0 (slice_index t 0) ∷ mixed d i 1 (slice_index t 1) ∷ mixed d i 2 (slice_index t 2) ∷ mixed d i 3 (slice_index t 3) ∷ []

abbrev pub step16 : ℕ → List ℕ → List ℕ
step16 i t = mixed_four (delta_of 4 i) i t

unfoldable pub row16 : ℕ → List ℕ → List ℕ
row16 i t = slice_index t 0 ∷ slice_index t 1 ∷ slice_index t 2 ∷ slice_index t 1 ∷ slice_index t 3 ∷ slice_index t 1 ∷ []

-- ---- 24 bytes: six words, all changed in a step; they are the row
unfoldable pub mixed_row : ℕ → ℕ → List ℕ → List ℕ
mixed_row d i w =
    mixed d i 0 (slice_index w 0)
    ∷ mixed d i 1 (slice_index w 1)
    ∷ mixed d i 2 (slice_index w 2)
    ∷ mixed d i 3 (slice_index w 3)
    ∷ mixed d i 4 (slice_index w 4)
    ∷ mixed d i 5 (slice_index w 5)
    ∷ []

abbrev pub step24 : ℕ → List ℕ → List ℕ
step24 i t = mixed_row (delta_of 6 i) i t

abbrev pub row24 : ℕ → List ℕ → List ℕ
row24 i t = t

-- ---- 32 bytes: eight words; a step changes six of them, the places taken mod 8, and these are the row
unfoldable pub place : ℕ → ℕ → ℕ
place i m = (6 * i + m) % 8

unfoldable pub mix_at : ℕ → ℕ → List ℕ → List ℕ
mix_at i m t = slice_set t (place i m) (mixed (delta_of 8 i) i m (slice_index t (place i m)))

unfoldable pub step32 : ℕ → List ℕ → List ℕ
step32 i t = mix_at i 5 (mix_at i 4 (mix_at i 3 (mix_at i 2 (mix_at i 1 (mix_at i 0 t)))))

unfoldable pub row32 : ℕ → List ℕ → List ℕ
row32 i t =
    slice_index t (place i 0)
    ∷ slice_index t (place i 1)
    ∷ slice_index t (place i 2)
    ∷ slice_index t (place i 3)
    ∷ slice_index t (place i 4)
    ∷ slice_index t (place i 5)
    ∷ []

-- ---- any size
-- the first words of a list of bytes
unfoldable pub words6 : List ℕ → List ℕ
words6 b = words4 b ++ (word_at b 16 ∷ word_at b 20 ∷ [])

unfoldable pub words8 : List ℕ → List ℕ
words8 b = words4 b ++ (word_at b 16 ∷ word_at b 20 ∷ word_at b 24 ∷ word_at b 28 ∷ [])

-- T after i steps
unfoldable pub stepped : (ℕ → List ℕ → List ℕ) → ℕ → List ℕ → List ℕ
stepped step zero t = t
stepped step (suc i) t = step i (stepped step i t)

-- of 32 rows the first n, row i being that of step i
abbrev pub filled : (ℕ → List ℕ → List ℕ) → (ℕ → List ℕ → List ℕ) → ℕ → List ℕ → List (List ℕ)
filled step row n t = thirty_two (λ i. row i (stepped step (suc i) t)) n
