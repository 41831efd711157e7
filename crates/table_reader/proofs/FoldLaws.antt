-- A fold made byte by byte.
use mathlib.Core.Path.{◌≡◌}
use mathlib.Core.List.{List}
use Prim.Native.Nat.{ℕ, ◌+◌, ◌*◌, ◌/◌, ◌%◌}
use native.Mathlib.Omega.{arith}
use lib.ListN.{get_or}
use Rattle.lists.specs.Tabulation.{tab}
use Rattle.lists.proofs.TabulationLaws.{tab_ext}
use Rattle.cipher.specs.Coding.{of_halves}
use Rattle.cipher.specs.Tables.{fold_half, table_fold}
use Rattle.table_reader.specs.Reading.{fold_byte}
use Rattle.table_reader.proofs.ReadingLaws.{half_lo, half_hi}

pub fold_each : (f x y : List ℕ) → tab 16 (λ k. fold_byte f k (get_or x k 0) (get_or y k 0)) ≡ table_fold f x y
unfolding table_fold of_halves fold_half fold_byte
fold_each f x y =
    tab_ext 16 (λ k. fold_byte f k (get_or x k 0) (get_or y k 0)) (λ k. fold_half f x y (k / 4) (2 * (k % 4)) + 16 * fold_half f x y (k / 4) (2 * (k % 4) + 1)) (λ k h.
    let e : 256 * (8 * (k / 4) + 2 * (k % 4)) ≡ 512 * k = omega arith in
    let g : 256 * (8 * (k / 4) + (2 * (k % 4) + 1)) ≡ 512 * k + 256 = omega arith in
    let i : 4 * (k / 4) + k % 4 ≡ k = omega arith in
    rw (half_lo x (k / 4) (k % 4), half_lo y (k / 4) (k % 4), half_hi x (k / 4) (k % 4), half_hi y (k / 4) (k % 4), e, g, i))
