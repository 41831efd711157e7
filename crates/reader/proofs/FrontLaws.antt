-- A reading round reads the tables of the round, and nothing of what stands behind them.
use Rattle.std.proofs.Common.{◌≡◌, ℕ, zero, suc, ◌/◌, ◌%◌, ◌<◌, List, get_or, take, refl, ap, arith}
use lib.Seq.{get_or-take}
use Rattle.cipher.specs.Lengths.{round_length}
use Rattle.cipher.proofs.CodingLaws.{of_halves_ext}
use Rattle.reading.specs.Tables.{upper_back, lower_back, turned_at, borrow_at, difference_at, half_read, read_round}
use Rattle.reading.proofs.ReadingRoundLaw.{read_lt}
use Rattle.table_reader.proofs.FrontLaws.{block_half_lt}
use Rattle.reader.proofs.RoundLaws.{turned_lt, borrow_lt}

module _ (t b : List ℕ) where
  front : List ℕ
  front = take round_length t

  same : (n : ℕ) → n < round_length → get_or front n 0 ≡ get_or t n 0
  unfolding front
  same n h = get_or-take round_length t n 0 h

  turned_same : (i j : ℕ) → i < 3 → j < 8 → turned_at front b i j ≡ turned_at t b i j
  unfolding turned_at
  turned_same i j hi hj =
      let p = block_half_lt b i (upper_back i j) in
      let q = block_half_lt b i (lower_back i j) in
      ap (λ (e : ℕ). e % 16) (same _ (omega arith))

  module _ (i : ℕ) (hi : i < 3) (x y : ℕ → ℕ) (low : (j : ℕ) → y j < 16) (e : (j : ℕ) → j < 8 → x j ≡ y j) where
    borrow_same : (j : ℕ) → j < 9 → borrow_at front b i x j ≡ borrow_at t b i y j
    unfolding borrow_at
    borrow_same zero h = refl
    borrow_same (suc j) h =
        let c = borrow_lt t b i j y in
        let p = turned_lt t b i j in
        let q = low j in
        rw (borrow_same j (omega arith), turned_same i j hi (omega arith), e j (omega arith)) (ap (λ (v : ℕ). v / 16 % 2) (same _ (omega arith)))

    difference_same : (j : ℕ) → j < 8 → difference_at front b i x j ≡ difference_at t b i y j
    unfolding difference_at
    difference_same j h =
        let c = borrow_lt t b i j y in
        let p = turned_lt t b i j in
        let q = low j in
        rw (borrow_same j (omega arith), turned_same i j hi h, e j h) (ap (λ (v : ℕ). v % 16) (same _ (omega arith)))

  half_same : (w j : ℕ) → w < 4 → j < 8 → half_read front b w j ≡ half_read t b w j
  unfolding half_read
  half_same zero j hw hj = refl
  half_same (suc i) j hw hj =
      difference_same i (omega arith) (half_read front b i) (half_read t b i) (read_lt t b i) (λ k hk. half_same i k (omega arith) hk) j hj

  pub read_front : read_round (take round_length t) b ≡ read_round t b
  unfolding read_round front
  read_front = of_halves_ext (half_read front b) (half_read t b) half_same
