-- What the tables of a book hold (document 01, "Book"), and how a reader uses them (the end of "Book", and the driver's
-- paragraph of "Pad, driver, archive"). Book, middle coding, mask, turn and fold are 01's terms.
use Rattle.std.specs.Prelude.{◌≡◌, ℕ, zero, suc, ◌+◌, ◌*◌, ◌/◌, ◌%◌, ◌<◌, List, bit_xor, slice_index}
use Rattle.lists.specs.HalfBytes.{half_byte}
use Rattle.cipher.specs.Lengths.{add_length, turn_length, fold_length, adds_length}
use Rattle.cipher.specs.Coding.{Permutation, Permutations, Set, SameWord, decode, block_half, of_halves}

-- ---- an entry of a single table (01, "Book")

-- what an add table sums up at index n = 256c + 16p + q: p decoded by f and q by g, under the key half bytes k and l, and the
-- carry c, of which m is the mask (01's term)
unfoldable pub add_sum : (ℕ → ℕ) → (ℕ → ℕ) → ℕ → ℕ → ℕ → ℕ → ℕ
add_sum f g k l m n = bit_xor (decode f (n / 16 % 16)) k + bit_xor (decode g (n % 16)) l + bit_xor (n / 256) m

-- an add entry, of the sum s: h is the middle coding (01's term), m the mask of the carry out, which the top half byte has too (02,
-- 2026-06)
unfoldable pub add_entry : (ℕ → ℕ) → ℕ → ℕ → ℕ
add_entry h m s = 16 * bit_xor (s / 16) m + h (s % 16)

-- a turn (01's term): two neighbouring half bytes u, v of sum i make one of new word i
abbrev pub turned : ℕ → ℕ → ℕ → ℕ
turned zero u v = (2 * u + v / 8) % 16
turned (suc zero) u v = (8 * u + v / 2) % 16
turned (suc (suc i)) u v = (2 * u + v / 8) % 16

-- an entry of a turn table for word i at index n = 16p + q: p decoded by f and q by g, the result coded by h
unfoldable pub turn_entry : ℕ → (ℕ → ℕ) → (ℕ → ℕ) → (ℕ → ℕ) → ℕ → ℕ
turn_entry i f g h n = h (turned i (decode f (n / 16)) (decode g (n % 16)))

-- an entry of a fold table (01's term) at index n = 16t + m: t decoded by f and m by g, the result under the key half byte k
-- coded by h
unfoldable pub fold_entry : (ℕ → ℕ) → (ℕ → ℕ) → (ℕ → ℕ) → ℕ → ℕ → ℕ
fold_entry f g h k n = h (bit_xor (bit_xor (decode f (n / 16)) (decode g (n % 16))) k)

-- ---- the tables of a round, and of a group of folds (01, "Book")

-- what a chain gives to a round: the sets before and after it, its middle codings, and for half byte j of sum i the masks of
-- the carry into it and of the carry out of it
pub record RoundCodings : Type 0 where
  pub before : Set
  pub after : Set
  pub middle : Set
  pub mask_in : ℕ → ℕ → ℕ
  pub mask_out : ℕ → ℕ → ℕ

-- what a round of tables asks of its codings and masks, besides a word rule: permutations; masks that are bits, none for the carry
-- into half byte 0, and the mask of the carry out of a half byte is that of the carry into the next
pub record ValidCodings (c : RoundCodings) : Type 0 where
  pub before_permute : Permutations c.before
  pub after_permute : Permutations c.after
  pub middle_permute : (i j : ℕ) → i < 3 → j < 8 → Permutation (c.middle i j)
  pub mask_bit : (i j : ℕ) → i < 3 → j < 8 → c.mask_in i j < 2
  pub mask_first : (i : ℕ) → i < 3 → c.mask_in i 0 ≡ 0
  pub mask_next : (i j : ℕ) → i < 3 → j < 7 → c.mask_out i j ≡ c.mask_in i (suc j)

-- and with the word 3 rule (01's term): after the round, word 3 is coded as word 0 was before it
pub record ValidRound (c : RoundCodings) : Type 0 where
  pub codings : ValidCodings c
  pub word3 : SameWord 0 3 c.before c.after

-- entry n of add table (i, j) of a round, under its row k of round keys
unfoldable pub add_table : RoundCodings → List ℕ → ℕ → ℕ → ℕ → ℕ
add_table c k i j n =
    add_entry (c.middle i j) (c.mask_out i j)
    (add_sum (c.before i j) (c.before (suc i) j) (half_byte (slice_index k (2 * i)) j) (half_byte (slice_index k (2 * i + 1)) j) (c.mask_in i j) n)

-- which half bytes of sum i are turned to half byte j of new word i, the upper one and the lower one
abbrev pub upper : ℕ → ℕ → ℕ
upper zero j = (j + 6) % 8
upper (suc zero) j = (j + 2) % 8
upper (suc (suc i)) j = (j + 1) % 8

abbrev pub lower : ℕ → ℕ → ℕ
lower zero j = (j + 5) % 8
lower (suc zero) j = (j + 1) % 8
lower (suc (suc i)) j = j

-- entry n of turn table (i, j) of a round
unfoldable pub turn_table : RoundCodings → ℕ → ℕ → ℕ → ℕ
turn_table c i j n = turn_entry i (c.middle i (upper i j)) (c.middle i (lower i j)) (c.after i j) n

-- entry n of the fold table for half byte j of word w: from the sets S and U to the set S', under the key block k
unfoldable pub fold_table : Set → Set → Set → List ℕ → ℕ → ℕ → ℕ → ℕ
fold_table S U S' k w j n = fold_entry (S w j) (U w j) (S' w j) (block_half k w j) n

-- ---- where an entry stands: in a round after 24 add tables come 24 turn tables, a group is 32 fold tables, each in the order of its number 8i + j (01, "Book")

abbrev pub add_at : List ℕ → ℕ → ℕ → ℕ → ℕ
add_at t i j n = slice_index t (add_length * (8 * i + j) + n)

abbrev pub turn_at : List ℕ → ℕ → ℕ → ℕ → ℕ
turn_at t i j n = slice_index t (adds_length + turn_length * (8 * i + j) + n)

abbrev pub fold_at : List ℕ → ℕ → ℕ → ℕ → ℕ
fold_at t w j n = slice_index t (fold_length * (8 * w + j) + n)

-- t begins with the tables of a round, or with a group of fold tables
pub record RoundTables (c : RoundCodings) (k t : List ℕ) : Type 0 where
  pub adds : (i j n : ℕ) → i < 3 → j < 8 → n < add_length → add_at t i j n ≡ add_table c k i j n
  pub turns : (i j n : ℕ) → i < 3 → j < 8 → n < turn_length → turn_at t i j n ≡ turn_table c i j n

abbrev pub FoldTables : Set → Set → Set → List ℕ → List ℕ → Type 0
FoldTables S U S' k t = (w j n : ℕ) → w < 4 → j < 8 → n < fold_length → fold_at t w j n ≡ fold_table S U S' k w j n

-- ---- a round by the tables t on a block b (01, "Book" and "Pad, driver, archive"): of each entry only these bits are used

-- the carry into half byte j of sum i: bit 4 of the entry read at the half byte below, and none into the lowest
unfoldable pub carry_at : List ℕ → List ℕ → ℕ → ℕ → ℕ
carry_at t b i zero = zero
carry_at t b i (suc j) = add_at t i j (256 * carry_at t b i j + 16 * block_half b i j + block_half b (suc i) j) / 16 % 2

-- half byte j of sum i, coded by its middle coding: the low four bits of the entry
unfoldable pub sum_at : List ℕ → List ℕ → ℕ → ℕ → ℕ
sum_at t b i j = add_at t i j (256 * carry_at t b i j + 16 * block_half b i j + block_half b (suc i) j) % 16

-- half byte j of new word i, for the words 0 to 2: the low four bits of the turn entry
unfoldable pub new_at : List ℕ → List ℕ → ℕ → ℕ → ℕ
new_at t b i j = turn_at t i j (16 * sum_at t b i (upper i j) + sum_at t b i (lower i j)) % 16

-- half byte j of word w after the round; word 3 is what word 0 was
unfoldable pub half_after : List ℕ → List ℕ → ℕ → ℕ → ℕ
half_after t b zero j = new_at t b 0 j
half_after t b (suc zero) j = new_at t b 1 j
half_after t b (suc (suc zero)) j = new_at t b 2 j
half_after t b (suc (suc (suc w))) j = block_half b 0 j

-- the block after the round, and after n rounds, round l by the tables t l
unfoldable pub table_round : List ℕ → List ℕ → List ℕ
table_round t b = of_halves (half_after t b)

unfoldable pub table_rounds : (ℕ → List ℕ) → ℕ → List ℕ → List ℕ
table_rounds t zero b = b
table_rounds t (suc n) b = table_round (t n) (table_rounds t n b)

-- ---- a block m folded into a block x by the group t of fold tables (01, "Book"): the low four bits of each entry

unfoldable pub fold_half : List ℕ → List ℕ → List ℕ → ℕ → ℕ → ℕ
fold_half t x m w j = fold_at t w j (16 * block_half x w j + block_half m w j) % 16

unfoldable pub table_fold : List ℕ → List ℕ → List ℕ → List ℕ
table_fold t x m = of_halves (fold_half t x m)
