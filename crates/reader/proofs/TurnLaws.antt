-- The words of a block turned back: two half bytes that lie side by side as a byte, and what the loop over bytes has after m of each word.
use mathlib.Core.Path.{◌≡◌, refl, ap, ◌∙◌}
use mathlib.Core.List.{List}
use Prim.Native.Nat.{ℕ, ◌+◌, ◌*◌, ◌/◌, ◌%◌, ◌<◌}
use native.Mathlib.Omega.{arith}
use lib.ListN.{get_or}
use Rattle.cipher.specs.Lengths.{turn_length}
use Rattle.reading.specs.Tables.{upper_back, lower_back, turned_at}
use Rattle.table_reader.specs.Reading.{byte_of}
use Rattle.table_reader.proofs.ReadingLaws.{low_half, high_half, three}
use Rattle.table_reader.proofs.Columns.{byte_same, Columns, three_columns, three_full}
use Rattle.reader.specs.Round.{pair_of, turned_half, turned_byte, turned_bytes}

-- two half bytes make up one byte, or come from two
module _ (b : List ℕ) (i j : ℕ) where
  pub pair_even : j % 2 ≡ 0 → get_or b (4 * i + j % 8 / 2) 0 % 16 + 16 * (get_or b (4 * i + j % 8 / 2) 0 / 16 % 16) ≡ pair_of b i j
  pair_even h =
      let e : (j + 1) % 8 / 2 ≡ j % 8 / 2 = omega arith in
      rw (low_half b i j h, high_half b i (j + 1) (λ d. omega arith), e)

  pub pair_odd : (j % 2 ≡ 0 → ⊥) → get_or b (4 * i + j % 8 / 2) 0 / 16 % 16 + 16 * (get_or b (4 * i + (j + 1) % 8 / 2) 0 % 16) ≡ pair_of b i j
  pair_odd h = rw (high_half b i j h, low_half b i (j + 1) (omega (arith, h)))

-- the entry there
pub turn_at_lem : (t b : List ℕ) (i j v n : ℕ) → n ≡ pair_of b i (j + v) → get_or t (turn_length * (8 * i + j) + n) 0 % 16 ≡ turned_half t b i j v
unfolding turned_half
turn_at_lem t b i j v n e = ap (λ (x : ℕ). get_or t (turn_length * (8 * i + j) + x) 0 % 16) e

module _ (t b : List ℕ) where
  half_turned : (i j v : ℕ) → upper_back i j ≡ (j + v + 1) % 8 → lower_back i j ≡ (j + v) % 8 → turned_half t b i j v ≡ turned_at t b i j
  unfolding turned_half turned_at
  half_turned i j v e f = rw (e, f) (ap (λ (x : ℕ). get_or t (turn_length * (8 * i + j) + x) 0 % 16) (omega arith))

  byte_turned : (i m v : ℕ) → m < 4 → ((j : ℕ) → j < 8 → upper_back i j ≡ (j + v + 1) % 8) → ((j : ℕ) → j < 8 → lower_back i j ≡ (j + v) % 8)
      → turned_byte t b i m v ≡ byte_of (turned_at t b) i m
  unfolding turned_byte
  byte_turned i m v hm e f = byte_same (λ i j. turned_half t b i j v) (turned_at t b) i m hm (λ j hj. half_turned i j v (e j hj) (f j hj))

  -- the first m bytes of each word are turned, in place of those of s₀
  abbrev pub TurnedAre : List ℕ → ℕ → List ℕ → Type 0
  TurnedAre s₀ m s = Columns 3 (byte_of (turned_at t b)) s₀ m s

  pub turned_step : (s₀ s : List ℕ) (m u v w : ℕ) → m < 4 → TurnedAre s₀ m s → u ≡ turned_byte t b 0 m 2 → v ≡ turned_byte t b 1 m 6
      → w ≡ turned_byte t b 2 m 7 → TurnedAre s₀ (m + 1) (three s m u v w)
  turned_step s₀ s m u v w hm c eu ev ew =
      three_columns (byte_of (turned_at t b)) s₀ s m u v w hm c
      (eu ∙ byte_turned 0 m 2 hm (λ j h. omega arith) (λ j h. refl))
      (ev ∙ byte_turned 1 m 6 hm (λ j h. omega arith) (λ j h. refl))
      (ew ∙ byte_turned 2 m 7 hm (λ j h. omega arith) (λ j h. refl))

  pub turned_full : (s₀ s : List ℕ) (m : ℕ) → m ≡ 4 → TurnedAre s₀ m s → s ≡ turned_bytes t b
  turned_full s₀ s m e c = three_full (turned_at t b) s₀ s m e c
