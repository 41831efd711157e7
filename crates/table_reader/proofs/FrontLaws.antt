-- A round reads the tables of the round, and a fold those of its group, and nothing of what stands behind them.
use Rattle.std.proofs.Common.{◌≡◌, ℕ, zero, suc, ◌/◌, ◌%◌, ◌<◌, List, get_or, take, refl, ap, arith}
use lib.Seq.{get_or-take}
use Rattle.lists.proofs.HalfByteLaws.{half_lt}
use Rattle.cipher.specs.Lengths.{round_length, group_length}
use Rattle.cipher.specs.Coding.{block_half}
use Rattle.cipher.specs.Tables.{upper, lower, carry_at, sum_at, new_at, half_after, table_round, fold_half, table_fold}
use Rattle.cipher.proofs.CodingLaws.{of_halves_ext}
use Rattle.table_reader.proofs.SumLaws.{carry_lt, sum_lt}

-- every half byte of a block is below 16
pub block_half_lt : (b : List ℕ) (i j : ℕ) → block_half b i j < 16
unfolding block_half
block_half_lt b i j = half_lt _ (j % 2)

module _ (t b : List ℕ) where
  front : List ℕ
  front = take round_length t

  same : (n : ℕ) → n < round_length → get_or front n 0 ≡ get_or t n 0
  unfolding front
  same n h = get_or-take round_length t n 0 h

  carry_same : (i j : ℕ) → i < 3 → j < 9 → carry_at front b i j ≡ carry_at t b i j
  unfolding carry_at
  carry_same i zero hi hj = refl
  carry_same i (suc j) hi hj =
      let c = carry_lt t b i j in
      let p = block_half_lt b i j in
      let q = block_half_lt b (suc i) j in
      rw (carry_same i j hi (omega arith)) (ap (λ (e : ℕ). e / 16 % 2) (same _ (omega arith)))

  sum_same : (i j : ℕ) → i < 3 → j < 8 → sum_at front b i j ≡ sum_at t b i j
  unfolding sum_at
  sum_same i j hi hj =
      let c = carry_lt t b i j in
      let p = block_half_lt b i j in
      let q = block_half_lt b (suc i) j in
      rw (carry_same i j hi (omega arith)) (ap (λ (e : ℕ). e % 16) (same _ (omega arith)))

  new_same : (i j : ℕ) → i < 3 → j < 8 → upper i j < 8 → lower i j < 8 → new_at front b i j ≡ new_at t b i j
  unfolding new_at
  new_same i j hi hj hu hl =
      let p = sum_lt t b i (upper i j) in
      let q = sum_lt t b i (lower i j) in
      rw (sum_same i (upper i j) hi hu, sum_same i (lower i j) hi hl) (ap (λ (e : ℕ). e % 16) (same _ (omega arith)))

  half_same : (w j : ℕ) → w < 4 → j < 8 → half_after front b w j ≡ half_after t b w j
  unfolding half_after
  half_same zero j hw hj = new_same 0 j (omega arith) hj (omega arith) (omega arith)
  half_same (suc zero) j hw hj = new_same 1 j (omega arith) hj (omega arith) (omega arith)
  half_same (suc (suc zero)) j hw hj = new_same 2 j (omega arith) hj (omega arith) hj
  half_same (suc (suc (suc w))) j hw hj = refl

  pub round_front : table_round (take round_length t) b ≡ table_round t b
  unfolding table_round front
  round_front = of_halves_ext (half_after front b) (half_after t b) half_same

module _ (t x m : List ℕ) where
  fold_same : (w j : ℕ) → w < 4 → j < 8 → fold_half (take group_length t) x m w j ≡ fold_half t x m w j
  unfolding fold_half
  fold_same w j hw hj =
      let p = block_half_lt x w j in
      let q = block_half_lt m w j in
      ap (λ (e : ℕ). e % 16) (get_or-take group_length t _ 0 (omega arith))

  pub fold_front : table_fold (take group_length t) x m ≡ table_fold t x m
  unfolding table_fold
  fold_front = of_halves_ext (fold_half (take group_length t) x m) (fold_half t x m) fold_same
