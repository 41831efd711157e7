-- Bit 4 of an entry of a top table is never read: two rounds of tables that differ there alone take every block to the same one, sealing
-- and reading, whatever bytes the tables hold.
use mathlib.Core.Path.{◌≡◌, refl, sym, ap, ap₂, ◌∙◌}
use mathlib.Core.List.{List}
use Prim.Native.Nat.{ℕ, zero, suc, ◌+◌, ◌*◌, ◌/◌, ◌%◌, ◌<◌}
use native.Mathlib.Omega.{arith}
use lib.Dec.{lit<}
use Rattle.cipher.specs.Lengths.{add_length, turn_length}
use Rattle.cipher.specs.Coding.{block_half}
use Rattle.cipher.specs.Tables.{upper, lower, add_at, turn_at, carry_at, sum_at, new_at, half_after, table_round, table_rounds}
use Rattle.cipher.proofs.CodingLaws.{block_half_lt, of_halves_ext}
use Rattle.cipher.proofs.TableLaws.{upper_lt, lower_lt}
use Rattle.table_reader.proofs.SumLaws.{sum_lt}
use Rattle.reading.specs.Lengths.{subtract_length}
use Rattle.reading.specs.Tables.{upper_back, lower_back, turn_back_at, subtract_at, turned_at, borrow_at, difference_at, half_read, read_round, read_rounds}
use Rattle.reading.proofs.ReadingRoundLaw.{read_lt}

-- ---- eight tables read one after another: T j n is entry n of table j, which is read at the operands p and q and the carry or borrow c

-- c is what goes from each table into the next
record Carried (T : ℕ → ℕ → ℕ) (p q c : ℕ → ℕ) : Type 0 where
  pub none : c 0 ≡ 0
  pub next : (j : ℕ) → c (suc j) ≡ T j (256 * c j + 16 * p j + q j) / 16 % 2

module _ (T T' : ℕ → ℕ → ℕ) (entries : (j n : ℕ) → j < 7 → n < 512 → T j n ≡ T' j n) (low : (j n : ℕ) → j < 8 → n < 512 → T j n % 16 ≡ T' j n % 16)
    (p q p' q' : ℕ → ℕ) (hp : (j : ℕ) → p j < 16) (hq : (j : ℕ) → q j < 16) (ep : (j : ℕ) → j < 8 → p j ≡ p' j) (eq : (j : ℕ) → j < 8 → q j ≡ q' j)
    (c c' : ℕ → ℕ) (h : Carried T p q c) (h' : Carried T' p' q' c') where
  bit : (j : ℕ) → c j < 2
  bit zero = rw h.none (lit< tt)
  bit (suc j) = rw (h.next j) (omega arith)

  index : (j : ℕ) → j < 8 → c j ≡ c' j → 256 * c j + 16 * p j + q j ≡ 256 * c' j + 16 * p' j + q' j
  index j hj e = rw (e, ep j hj, eq j hj)

  carry_same : (j : ℕ) → j < 8 → c j ≡ c' j
  carry_same zero hj = h.none ∙ sym h'.none
  carry_same (suc j) hj =
      let n = 256 * c j + 16 * p j + q j in
      let b = bit j in
      let u = hp j in
      let v = hq j in
      let k : j < 8 = omega arith in
      h.next j
      ∙ ap (λ (x : ℕ). x / 16 % 2) (entries j n (omega arith) (omega arith) ∙ ap (T' j) (index j k (carry_same j k)))
      ∙ sym (h'.next j)

  run_same : (j : ℕ) → j < 8 → T j (256 * c j + 16 * p j + q j) % 16 ≡ T' j (256 * c' j + 16 * p' j + q' j) % 16
  run_same j hj =
      let b = bit j in
      let u = hp j in
      let v = hq j in
      low j (256 * c j + 16 * p j + q j) hj (omega arith) ∙ ap (λ (n : ℕ). T' j n % 16) (index j hj (carry_same j hj))

-- ---- a round that seals

-- its tables differ in the entries of the top add tables alone, and there not in the lower four bits
pub record LikeRound (t t' : List ℕ) : Type 0 where
  pub adds : (i j n : ℕ) → i < 3 → j < 7 → n < add_length → add_at t i j n ≡ add_at t' i j n
  pub add_lows : (i j n : ℕ) → i < 3 → j < 8 → n < add_length → add_at t i j n % 16 ≡ add_at t' i j n % 16
  pub turn_lows : (i j n : ℕ) → i < 3 → j < 8 → n < turn_length → turn_at t i j n % 16 ≡ turn_at t' i j n % 16

module _ (t t' : List ℕ) (h : LikeRound t t') (b : List ℕ) where
  sum_same : (i j : ℕ) → i < 3 → j < 8 → sum_at t b i j ≡ sum_at t' b i j
  unfolding sum_at
  sum_same i j hi hj =
      run_same (add_at t i) (add_at t' i) (λ j n. h.adds i j n hi) (λ j n. h.add_lows i j n hi)
      (block_half b i) (block_half b (suc i)) (block_half b i) (block_half b (suc i)) (block_half_lt b i) (block_half_lt b (suc i)) (λ j l. refl) (λ j l. refl)
      (carry_at t b i) (carry_at t' b i)
      (record { none = unfold carry_at in refl; next = λ j. unfold carry_at in refl })
      (record { none = unfold carry_at in refl; next = λ j. unfold carry_at in refl }) j hj

  new_same : (i j : ℕ) → i < 3 → j < 8 → new_at t b i j ≡ new_at t' b i j
  unfolding new_at
  new_same i j hi hj =
      let u = sum_lt t b i (upper i j) in
      let v = sum_lt t b i (lower i j) in
      h.turn_lows i j (16 * sum_at t b i (upper i j) + sum_at t b i (lower i j)) hi hj (omega arith)
      ∙ ap₂ (λ (x y : ℕ). turn_at t' i j (16 * x + y) % 16) (sum_same i (upper i j) hi (upper_lt i j)) (sum_same i (lower i j) hi (lower_lt i j hj))

  half_same : (w j : ℕ) → w < 4 → j < 8 → half_after t b w j ≡ half_after t' b w j
  unfolding half_after
  half_same zero j hw hj = new_same 0 j (lit< tt) hj
  half_same (suc zero) j hw hj = new_same 1 j (lit< tt) hj
  half_same (suc (suc zero)) j hw hj = new_same 2 j (lit< tt) hj
  half_same (suc (suc (suc w))) j hw hj = refl

  pub same_round : table_round t b ≡ table_round t' b
  unfolding table_round
  same_round = of_halves_ext (half_after t b) (half_after t' b) half_same

pub same_rounds : (t t' : ℕ → List ℕ) → ((l : ℕ) → LikeRound (t l) (t' l)) → (n : ℕ) (b : List ℕ) → table_rounds t n b ≡ table_rounds t' n b
unfolding table_rounds
same_rounds t t' h zero b = refl
same_rounds t t' h (suc n) b = same_round (t n) (t' n) (h n) (table_rounds t n b) ∙ ap (table_round (t' n)) (same_rounds t t' h n b)

-- ---- a round that reads

-- its tables differ in the entries of the top subtract tables alone, and there not in the lower four bits
pub record LikeReading (t t' : List ℕ) : Type 0 where
  pub subtracts : (i j n : ℕ) → i < 3 → j < 7 → n < subtract_length → subtract_at t i j n ≡ subtract_at t' i j n
  pub subtract_lows : (i j n : ℕ) → i < 3 → j < 8 → n < subtract_length → subtract_at t i j n % 16 ≡ subtract_at t' i j n % 16
  pub turn_lows : (i j n : ℕ) → i < 3 → j < 8 → n < turn_length → turn_back_at t i j n % 16 ≡ turn_back_at t' i j n % 16

module _ (t t' : List ℕ) (h : LikeReading t t') (b : List ℕ) where
  turned_same : (i j : ℕ) → i < 3 → j < 8 → turned_at t b i j ≡ turned_at t' b i j
  unfolding turned_at
  turned_same i j hi hj =
      let u = block_half_lt b i (upper_back i j) in
      let v = block_half_lt b i (lower_back i j) in
      h.turn_lows i j (16 * block_half b i (upper_back i j) + block_half b i (lower_back i j)) hi hj (omega arith)

  turned_lt : (i j : ℕ) → turned_at t b i j < 16
  unfolding turned_at
  turned_lt i j = omega arith

  read_same : (w j : ℕ) → w < 4 → j < 8 → half_read t b w j ≡ half_read t' b w j
  unfolding half_read difference_at
  read_same zero j hw hj = refl
  read_same (suc i) j hw hj =
      run_same (subtract_at t i) (subtract_at t' i) (λ j n. h.subtracts i j n (omega arith)) (λ j n. h.subtract_lows i j n (omega arith))
      (turned_at t b i) (half_read t b i) (turned_at t' b i) (half_read t' b i) (turned_lt i) (read_lt t b i)
      (λ j. turned_same i j (omega arith)) (λ j l. read_same i j (omega arith) l)
      (borrow_at t b i (half_read t b i)) (borrow_at t' b i (half_read t' b i))
      (record { none = unfold borrow_at in refl; next = λ j. unfold borrow_at in refl })
      (record { none = unfold borrow_at in refl; next = λ j. unfold borrow_at in refl }) j hj

  pub same_reading : read_round t b ≡ read_round t' b
  unfolding read_round
  same_reading = of_halves_ext (half_read t b) (half_read t' b) read_same

pub same_readings : (t t' : ℕ → List ℕ) → ((l : ℕ) → LikeReading (t l) (t' l)) → (n : ℕ) (b : List ℕ) → read_rounds t n b ≡ read_rounds t' n b
unfolding read_rounds
same_readings t t' h zero b = refl
same_readings t t' h (suc n) b = same_reading (t n) (t' n) (h n) (read_rounds t n b) ∙ ap (read_round (t' n)) (same_readings t t' h n b)
