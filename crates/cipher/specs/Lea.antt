-- LEA on blocks of 16 bytes under rows of round keys (document 001, algorithms 1, 2, 6 and 7; document 01, "LEA"). Everything is
-- said of any rows; a key enters only by its rows.
use Rattle.std.specs.Prelude.{ℕ, zero, suc, List, [], ◌∷◌, get_or, slice_index, slice_index_or}
use Rattle.words.specs.Word.{add, sub, xor, rol, ror, words4, bytes}
use Rattle.cipher.specs.KeySize.{rounds}
use Rattle.cipher.specs.Schedules.{key_rows}
use Rattle.cipher.specs.declared.size.KeySize.{KeySize}
use Rattle.cipher.specs.declared.schedules.Schedule.{Schedule}

-- the sum of two words, each under its round key
unfoldable pub keyed : ℕ → ℕ → ℕ → ℕ → ℕ
keyed x k y l = add (xor x k) (xor y l)

-- the word that gives the sum s together with x under k, its own key l taken off
unfoldable pub unkeyed : ℕ → ℕ → ℕ → ℕ → ℕ
unkeyed s x k l = xor (sub s (xor x k)) l

-- a round on four words, under a row of six round keys
unfoldable pub round : List ℕ → List ℕ → List ℕ
round k x =
    rol 9 (keyed (slice_index x 0) (slice_index k 0) (slice_index x 1) (slice_index k 1))
    ∷ ror 5 (keyed (slice_index x 1) (slice_index k 2) (slice_index x 2) (slice_index k 3))
    ∷ ror 3 (keyed (slice_index x 2) (slice_index k 4) (slice_index x 3) (slice_index k 5))
    ∷ slice_index x 0
    ∷ []

-- the same undone
unfoldable pub unround : List ℕ → List ℕ → List ℕ
unround k y =
    let a = get_or y 3 0 in
    let b = unkeyed (ror 9 (slice_index y 0)) a (slice_index k 0) (slice_index k 1) in
    let c = unkeyed (rol 5 (slice_index y 1)) b (slice_index k 2) (slice_index k 3) in
    let d = unkeyed (rol 3 (slice_index y 2)) c (slice_index k 4) (slice_index k 5) in
    a ∷ b ∷ c ∷ d ∷ []

-- the first n rounds, and the first n rounds undone, the last of them first
unfoldable pub forward : List (List ℕ) → ℕ → List ℕ → List ℕ
forward rows zero x = x
forward rows (suc n) x = round (slice_index_or rows n []) (forward rows n x)

unfoldable pub backward : List (List ℕ) → ℕ → List ℕ → List ℕ
backward rows zero x = x
backward rows (suc n) x = backward rows n (unround (slice_index_or rows n []) x)

-- the first n rounds on a block of bytes, and the same undone
unfoldable pub first_rounds : List (List ℕ) → ℕ → List ℕ → List ℕ
first_rounds rows n b = bytes (forward rows n (words4 b))

unfoldable pub undone_rounds : List (List ℕ) → ℕ → List ℕ → List ℕ
undone_rounds rows n b = bytes (backward rows n (words4 b))

-- a block enciphered, and deciphered, under a key of a size, by the schedule told: LEA, or WF-LEA, whose rounds are LEA's
abbrev pub encipher : Schedule → KeySize → List ℕ → List ℕ → List ℕ
encipher s z key b = first_rounds (key_rows s z key) (rounds z) b

abbrev pub decipher : Schedule → KeySize → List ℕ → List ℕ → List ℕ
decipher s z key b = undone_rounds (key_rows s z key) (rounds z) b
