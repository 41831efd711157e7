-- The new words of a round made byte by byte, all four side by side: that at the end it is the round.
use mathlib.Core.Path.{◌≡◌, refl, sym, ap, ◌∙◌}
use mathlib.Core.List.{List}
use Prim.Native.Nat.{ℕ, ◌+◌, ◌*◌, ◌%◌, ◌<◌}
use native.Mathlib.Nat.{zero-add}
use native.Mathlib.Omega.{arith}
use lib.Dec.{lit<}
use lib.ListN.{get_or}
use Rattle.lists.specs.Blocks.{Bytes}
use Rattle.cipher.specs.Coding.{block_half}
use Rattle.cipher.specs.Tables.{upper, lower, sum_at, new_at, half_after, table_round}
use Rattle.table_reader.specs.Reading.{byte_of, sum_bytes, turn_half, turn_byte}
use Rattle.table_reader.proofs.ReadingLaws.{half_lo, half_hi, four}
use Rattle.table_reader.proofs.Columns.{byte_same, Columns, four_columns, four_full, three_half}
use Rattle.table_reader.proofs.SumLaws.{sum_lt}

-- a byte is its two halves
pub halves : (b : List ℕ) → Bytes b → (w k : ℕ) → get_or b (4 * w + k) 0 ≡ byte_of (block_half b) w k
halves b hb w k =
    let h = hb (4 * w + k) in
    rw (half_lo b w k, half_hi b w k) (omega arith)

-- the half bytes that the turn tables give
module _ (t b : List ℕ) where
  turn_half_lem : (i j u v : ℕ) → i < 3 → j < 8 → upper i j ≡ (j + u) % 8 → lower i j ≡ (j + v) % 8
      → turn_half t (sum_bytes t b) i j u v ≡ new_at t b i j
  unfolding turn_half new_at
  turn_half_lem i j u v hi hj e f =
      rw (e, f, three_half (sum_at t b) (sum_lt t b) i ((j + u) % 8) hi (omega arith), three_half (sum_at t b) (sum_lt t b) i ((j + v) % 8) hi (omega arith))

  turn_byte_lem : (i m u v : ℕ) → i < 3 → m < 4 → ((j : ℕ) → j < 8 → upper i j ≡ (j + u) % 8) → ((j : ℕ) → j < 8 → lower i j ≡ (j + v) % 8)
      → turn_byte t (sum_bytes t b) i m u v ≡ byte_of (new_at t b) i m
  unfolding turn_byte
  turn_byte_lem i m u v hi hm e f = byte_same (λ i j. turn_half t (sum_bytes t b) i j u v) (new_at t b) i m hm (λ j hj. turn_half_lem i j u v hi hj (e j hj) (f j hj))

-- the first m bytes of each new word are made in y, in place of those of the block x
abbrev pub TurnsAre : List ℕ → List ℕ → ℕ → List ℕ → Type 0
TurnsAre t x m y = Columns 4 (byte_of (half_after t x)) x m y

pub turns_step : (t s x y : List ℕ) (m u v w : ℕ) → m < 4 → Bytes x → s ≡ sum_bytes t x → TurnsAre t x m y
    → u ≡ turn_byte t s 0 m 6 5 → v ≡ turn_byte t s 1 m 2 1 → w ≡ turn_byte t s 2 m 1 0
    → TurnsAre t x (m + 1) (four y m u v w (get_or y m 0))
unfolding half_after
turns_step t s x y m u v w hm hx es c eu ev ew =
    four_columns (byte_of (half_after t x)) x y m u v w (get_or y m 0) hm c
    (eu ∙ rw es (turn_byte_lem t x 0 m 6 5 (lit< tt) hm (λ j h. refl) (λ j h. refl)))
    (ev ∙ rw es (turn_byte_lem t x 1 m 2 1 (lit< tt) hm (λ j h. refl) (λ j h. refl)))
    (ew ∙ rw es (turn_byte_lem t x 2 m 1 0 (lit< tt) hm (λ j h. refl) (λ j h. omega arith)))
    (ap (λ (k : ℕ). get_or y k 0) (sym (zero-add m)) ∙ c.old 0 m (lit< tt) (omega arith) hm ∙ halves x hx 0 m)

pub turns_full : (t x y : List ℕ) (m : ℕ) → m ≡ 4 → TurnsAre t x m y → y ≡ table_round t x
unfolding table_round
turns_full t x y m e c = four_full (half_after t x) x y m e c
