-- Laws of the builder's loops: one that fills an array by a rule, one that writes a row of a table, one that writes parts one after
-- another, as the rows of a table, each with what holds at its counter, a turn and its end; and half bytes cut out by a shift.
use mathlib.Core.Path.{◌≡◌, ap}
use mathlib.Core.List.{List, ◌++◌}
use Prim.Native.Nat.{ℕ, zero, suc, ◌+◌, ◌*◌, ◌/◌, ◌%◌, ◌^◌, ◌≤◌, ◌<◌}
use native.Mathlib.Nat.{pow-suc, div-div-eq-div-mul, div-one}
use native.Mathlib.Omega.{arith}
use lib.ListN.{length, get_or, set, drop, length-set}
use Rattle.lists.specs.HalfBytes.{half_byte}
use Rattle.lists.specs.Tabulation.{tab}
use Rattle.lists.proofs.TabulationLaws.{length_tab}
use Rattle.lists.proofs.ChunkLaws.{length_chunks}
use Rattle.lists.proofs.PartLaws.{tab_turn, tab_full}
use Rattle.table_maker.specs.Rows.{row_by, table_by}

-- half byte j of a word, cut out by a shift
pub half_shift : (w j : ℕ) → w / 2 ^ (4 * j) % 16 ≡ half_byte w j
unfolding half_byte
half_shift w zero = rw div-one
half_shift w (suc j) =
    let e : 4 * suc j ≡ suc (suc (suc (suc (4 * j)))) = omega arith in
    let d : 2 ^ (4 * suc j) ≡ 16 * 2 ^ (4 * j) = rw (e, pow-suc, pow-suc, pow-suc, pow-suc) (omega arith) in
    rw (d, ← div-div-eq-div-mul) (half_shift (w / 16) j)

-- ---- a row by an operation, written up to q into out

pub length_row : (op : ℕ → ℕ → ℕ) (e : List ℕ) (s : ℕ) (b : List ℕ) → length (row_by op e s b) ≡ 16
unfolding row_by
length_row op e s b = length_tab 16 (λ q. get_or e (op s (get_or b q 0)) 0)

module _ (op : ℕ → ℕ → ℕ) (e : List ℕ) (s : ℕ) (b out₀ : List ℕ) where
  abbrev pub RowTill : List ℕ → ℕ → Type 0
  RowTill out q = (q ≤ 16) × (length out ≡ length out₀) × (out ≡ tab q (λ n. get_or e (op s (get_or b n 0)) 0) ++ drop q out₀)

  -- one entry more, looked up at the place n
  pub row_next : (n q : ℕ) (out : List ℕ) → RowTill out q → n ≡ op s (get_or b q 0) → q < 16 → length out₀ ≡ 16 → RowTill (set out q (get_or e n 0)) (q + 1)
  row_next n q out h p l r = (
    omega arith,
    simp length-set h.1,
    tab_turn (λ n. get_or e (op s (get_or b n 0)) 0) out₀ out q (get_or e n 0) h.2 (ap (λ (k : ℕ). get_or e k 0) p) (omega arith),
  )

  pub row_done : (out : List ℕ) (q : ℕ) → RowTill out q → 16 ≤ q → length out₀ ≡ 16 → out ≡ row_by op e s b
  unfolding row_by
  row_done out q h l r = tab_full (λ n. get_or e (op s (get_or b n 0)) 0) out₀ out 16 q h.2 (omega (arith, h.0)) r

-- ---- a table by an operation

pub length_table : (op : ℕ → ℕ → ℕ) (e a b : List ℕ) → length (table_by op e a b) ≡ length a * 16
unfolding table_by
length_table op e a b = length_chunks (λ x. row_by op e (get_or a x 0) b) 16 (λ x. length_row op e (get_or a x 0) b) (length a)
