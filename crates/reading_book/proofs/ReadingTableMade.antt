-- The tables that the builder makes from inverted codings are the tables of the reading book.
use mathlib.Core.Path.{◌≡◌, refl, sym, ap, ap₂, ◌∙◌}
use mathlib.Core.List.{List, [], ◌∷◌, ◌++◌}
use Prim.Native.Nat.{ℕ, zero, suc, ◌+◌, ◌*◌, ◌/◌, ◌%◌, ◌<◌}
use native.Mathlib.Nat.{not-suc-le-zero, le_of_suc-le-suc}
use native.Mathlib.Omega.{arith}
use lib.Bits.{bit_xor}
use lib.Dec.{lit<}
use lib.ListN.{length, get_or}
use Rattle.lists.specs.Tabulation.{tab, chunks, tables}
use Rattle.lists.specs.HalfBytes.{half_byte}
use Rattle.lists.proofs.TabulationLaws.{length_tab}
use Rattle.lists.proofs.ChunkLaws.{length_chunks, chunks_ext}
use Rattle.lists.proofs.HalfByteLaws.{half_lt}
use Rattle.cipher.specs.Coding.{FirstPermutations, coding_at, inverted}
use Rattle.cipher.specs.Tables.{add_entry}
use Rattle.cipher.specs.Lengths.{turn_length}
use Rattle.cipher.specs.Chain.{mask_into, mask_out_of}
use Rattle.cipher.specs.Book.{two_kinds}
use Rattle.reading.specs.Lengths.{subtract_length}
use Rattle.reading.specs.LikeSealing.{cut_of, sum_coding}
use Rattle.reading.specs.Tables.{upper_back, lower_back, turn_back_table, subtract_table}
use Rattle.reading.specs.Book.{reading_part}
use Rattle.reading.proofs.TurnsBack.{upper_lt, lower_lt}
use Rattle.reading.proofs.ReadingTableLaws.{turn_back_rows, subtract_rows}
use Rattle.table_maker.specs.Rows.{table_by}
use Rattle.table_maker.specs.Made.{RoundReady, codings_of, keyed_by, summands, turned_by}
use Rattle.table_maker.proofs.RowLaws.{length_table}
use Rattle.table_maker.proofs.MadeLaws.{length_turned}
use Rattle.book.proofs.BuildLaws.{mask_bit, sums_are, turned_are}
use Rattle.table_maker.proofs.InvertedLaws.{inverse_at, inverse_below}
use Rattle.reading_book.specs.Made.{made_turn_back, difference_entries, made_subtract}

-- ---- lengths

pub length_subtract : (m n A R k : List ℕ) (p : ℕ) → length (made_subtract m n A R k p) ≡ 512
unfolding made_subtract
length_subtract m n A R k p = length_table ◌+◌ _ _ _ ∙ ap (λ (n : ℕ). n * 16) (length_tab 32 _)

-- ---- the constants of the turns: how far above half byte j the two half bytes lie, and the cut

no_fourth : {A : Type 0} (i : ℕ) → suc (suc (suc i)) < 3 → A
no_fourth i h = absurd (not-suc-le-zero (le_of_suc-le-suc (le_of_suc-le-suc (le_of_suc-le-suc h))))

pub upper_back_is : (i j : ℕ) → i < 3 → j < 8 → (get_or (3 ∷ 7 ∷ 0 ∷ []) i 0 < 8) × ((j + get_or (3 ∷ 7 ∷ 0 ∷ []) i 0) % 8 ≡ upper_back i j)
upper_back_is zero j h k = (lit< tt, refl)
upper_back_is (suc zero) j h k = (lit< tt, refl)
upper_back_is (suc (suc zero)) j h k = (lit< tt, omega arith)
upper_back_is (suc (suc (suc i))) j h k = no_fourth i h

pub lower_back_is : (i j : ℕ) → i < 3 → (get_or (2 ∷ 6 ∷ 7 ∷ []) i 0 < 8) × ((j + get_or (2 ∷ 6 ∷ 7 ∷ []) i 0) % 8 ≡ lower_back i j)
lower_back_is zero j h = (lit< tt, refl)
lower_back_is (suc zero) j h = (lit< tt, refl)
lower_back_is (suc (suc zero)) j h = (lit< tt, refl)
lower_back_is (suc (suc (suc i))) j h = no_fourth i h

pub cut_is : (i : ℕ) → i < 3 → get_or (1 ∷ 0 ∷ 1 ∷ []) i 0 ≡ cut_of i
cut_is zero h = refl
cut_is (suc zero) h = refl
cut_is (suc (suc zero)) h = refl
cut_is (suc (suc (suc i))) h = no_fourth i h

-- ---- a table from its prepared parts is the table that is named

pub subtract_made : (m n A R K a b e : List ℕ) (p k l c : ℕ) → a ≡ tab 32 (summands m (16 * p) 15 c) → b ≡ tab 16 (keyed_by n (16 * p) k)
    → e ≡ tab 32 (difference_entries A R l p) → c ≡ mask_into R (p / 8) (p % 8) → k ≡ half_byte (get_or K (2 * (p / 8)) 0) (p % 8)
    → l ≡ half_byte (get_or K (2 * (p / 8) + 1) 0) (p % 8) → table_by ◌+◌ e a b ≡ made_subtract m n A R K p
unfolding made_subtract
subtract_made m n A R K a b e p k l c ea eb ee ec ek el = rw (ea, eb, ee, ec, ek, el)

-- ---- a round

-- the words 0 to 2 of a set of permutations
pub three_words_lem : (s : List ℕ) → FirstPermutations 32 s → FirstPermutations 24 s
three_words_lem s h k hk = h k (omega arith)

module _ (B A R K : List ℕ) (ready : RoundReady B A R) where
  turn_back_of : (p : ℕ) → p < 24 → made_turn_back (inverted 24 B) R p ≡ tab turn_length (turn_back_table (codings_of B A R) (p / 8) (p % 8))
  unfolding turned_by turn_back_table codings_of
  turn_back_of p hp =
      let i = p / 8 in
      let j = p % 8 in
      let a = upper_lt i j (omega arith) in
      let b = lower_lt i j (omega arith) in
      let u = 8 * i + upper_back i j in
      let v = 8 * i + lower_back i j in
      turned_are (inverted 24 B) R (16 * u) (16 * v) (cut_of i) (8 * i + j) (16 * p) (inverse_below 24 B (three_words_lem B ready.before)) (omega arith)
      ∙ sym (turn_back_rows (coding_at B u) (coding_at B v) (coding_at R (8 * i + j)) (λ x. get_or (inverted 24 B) (16 * u + x) 0) (λ x. get_or (inverted 24 B) (16 * v + x) 0)
      (λ x hx. inverse_at 24 B (16 * u + x) u x (omega arith) hx refl)
      (λ x hx. inverse_at 24 B (16 * v + x) v x (omega arith) hx refl) i)

  subtract_of_lem : (p : ℕ) → p < 24 → made_subtract (inverted 24 R) (inverted 24 A) A R K p ≡ tab subtract_length (subtract_table (codings_of B A R) K (p / 8) (p % 8))
  unfolding made_subtract subtract_table codings_of
  subtract_of_lem p hp =
      let i = p / 8 in
      let j = p % 8 in
      let k = half_byte (get_or K (2 * i) 0) j in
      let l = half_byte (get_or K (2 * i + 1) 0) j in
      let hk = half_lt (get_or K (2 * i) 0) j in
      let hm = mask_bit B A R K ready i j (omega arith) (omega arith) in
      let after = three_words_lem A ready.after in
      let e : 8 * suc i + j ≡ p + 8 = omega arith in
      sums_are (inverted 24 R) (inverted 24 A) (16 * p) (16 * p) 15 k (mask_into R i j) (inverse_below 24 R ready.middles) (inverse_below 24 A after) (lit< tt) hk hm
      (difference_entries A R l p)
      ∙ sym (subtract_rows (coding_at R (8 * i + j)) (coding_at A (8 * i + j)) (coding_at A (8 * suc i + j)) k l (mask_into R i j) (mask_out_of R i j)
      (ready.middles (8 * i + j) (omega arith)) (after (8 * i + j) (omega arith)) hk hm
      (keyed_by (inverted 24 R) (16 * p) 15) (keyed_by (inverted 24 A) (16 * p) k) (difference_entries A R l p)
      (λ v hv. ap (λ (y : ℕ). bit_xor y 15) (inverse_at 24 R (16 * p + v) (8 * i + j) v (omega arith) hv (omega arith)))
      (λ v hv. ap (λ (y : ℕ). bit_xor y k) (inverse_at 24 A (16 * p + v) (8 * i + j) v (omega arith) hv (omega arith)))
      (λ s hs. ap (λ (y : ℕ). add_entry (sum_coding (coding_at A y) l) (mask_out_of R i j) s) e))

  pub reading_is : chunks 24 (made_turn_back (inverted 24 B) R) ++ chunks 24 (made_subtract (inverted 24 R) (inverted 24 A) A R K) ≡ reading_part (codings_of B A R) K
  unfolding reading_part two_kinds tables
  reading_is =
      ap₂ {C = List ℕ} (λ (x y : List ℕ). x ++ y)
      (chunks_ext 24 (made_turn_back (inverted 24 B) R) (λ p. tab turn_length (turn_back_table (codings_of B A R) (p / 8) (p % 8))) turn_back_of)
      (chunks_ext 24 (made_subtract (inverted 24 R) (inverted 24 A) A R K) (λ p. tab subtract_length (subtract_table (codings_of B A R) K (p / 8) (p % 8))) subtract_of_lem)

-- ---- parts that are put together

pub turns_back_length : (x s R : List ℕ) → x ≡ chunks 24 (made_turn_back s R) → length x ≡ 6144
turns_back_length x s R e = ap length e ∙ length_chunks (made_turn_back s R) 256 (length_turned upper_back lower_back cut_of s R) 24

pub subtracts_length : (x m n A R K : List ℕ) → x ≡ chunks 24 (made_subtract m n A R K) → length x ≡ 12288
subtracts_length x m n A R K e = ap length e ∙ length_chunks (made_subtract m n A R K) 512 (length_subtract m n A R K) 24

pub reading_joined : (B A R K s m n x y : List ℕ) → RoundReady B A R → s ≡ inverted 24 B → m ≡ inverted 24 R → n ≡ inverted 24 A
    → x ≡ chunks 24 (made_turn_back s R) → y ≡ chunks 24 (made_subtract m n A R K) → x ++ y ≡ reading_part (codings_of B A R) K
reading_joined B A R K s m n x y h es em en ex ey = rw (ex, ey, es, em, en) (reading_is B A R K h)
