-- Laws of the tables as the builder makes them: their lengths, and the parts of a turned half byte.
use mathlib.Core.Path.{◌≡◌, refl, ap, ap₂, ◌∙◌}
use mathlib.Core.List.{List, [], ◌∷◌}
use Prim.Native.Nat.{ℕ, zero, suc, ◌+◌, ◌-◌, ◌*◌, ◌/◌, ◌%◌, ◌≤◌, ◌<◌}
use native.Mathlib.Nat.{not-suc-le-zero, le_of_suc-le-suc}
use native.Mathlib.Omega.{arith}
use lib.Bits.{bit_xor, xor_lt}
use lib.Dec.{lit<}
use lib.ListN.{length, get_or, drop, length-drop}
use lib.Seq.{get_or-drop}
use Rattle.lists.specs.Tabulation.{tab}
use Rattle.lists.specs.Blocks.{Below}
use Rattle.lists.specs.HalfBytes.{half_byte}
use Rattle.lists.proofs.TabulationLaws.{length_tab, get_or_tab}
use Rattle.cipher.specs.Coding.{block_half}
use Rattle.cipher.specs.Tables.{upper, lower}
use Rattle.cipher.specs.Chain.{mask_into}
use Rattle.table_maker.specs.Rows.{table_by, TableFits}
use Rattle.table_maker.specs.Made.{keyed_by, summands, sum_entries, made_add, upper_part, lower_part, upper_parts, lower_parts, turned_rows, turned_by, made_fold}
use Rattle.table_maker.proofs.RowLaws.{length_table}

-- ---- lengths

pub length_add : (s R k : List ℕ) (p : ℕ) → length (made_add s R k p) ≡ 512
unfolding made_add
length_add s R k p = length_table ◌+◌ _ _ _ ∙ ap (λ (n : ℕ). n * 16) (length_tab 32 _)

pub length_turned : (above below : ℕ → ℕ → ℕ) (sum : ℕ → ℕ) (s S : List ℕ) (p : ℕ) → length (turned_by above below sum s S p) ≡ 256
unfolding turned_by
length_turned above below sum s S p = length_table ◌+◌ _ _ _ ∙ ap (λ (n : ℕ). n * 16) (length_tab 16 _)

pub length_fold : (s u S k : List ℕ) (p : ℕ) → length (made_fold s u S k p) ≡ 256
unfolding made_fold
length_fold s u S k p = length_table bit_xor _ _ _ ∙ ap (λ (n : ℕ). n * 16) (length_tab 16 _)

-- ---- turned half bytes

pub parts_lt : (i u v : ℕ) → v < 16 → upper_part i u + lower_part i v < 16
parts_lt zero u v h = omega arith
parts_lt (suc zero) u v h = omega arith
parts_lt (suc (suc i)) u v h = omega arith

-- the constants of the turns: how far above half byte j the two half bytes of a sum lie
no_fourth : {A : Type 0} (i : ℕ) → suc (suc (suc i)) < 3 → A
no_fourth i h = absurd (not-suc-le-zero (le_of_suc-le-suc (le_of_suc-le-suc (le_of_suc-le-suc h))))

pub upper_is : (i j : ℕ) → i < 3 → (get_or (6 ∷ 2 ∷ 1 ∷ []) i 0 < 8) × ((j + get_or (6 ∷ 2 ∷ 1 ∷ []) i 0) % 8 ≡ upper i j)
upper_is zero j h = (lit< tt, refl)
upper_is (suc zero) j h = (lit< tt, refl)
upper_is (suc (suc zero)) j h = (lit< tt, refl)
upper_is (suc (suc (suc i))) j h = no_fourth i h

pub lower_is : (i j : ℕ) → i < 3 → j < 8 → (get_or (5 ∷ 1 ∷ 0 ∷ []) i 0 < 8) × ((j + get_or (5 ∷ 1 ∷ 0 ∷ []) i 0) % 8 ≡ lower i j)
lower_is zero j h k = (lit< tt, refl)
lower_is (suc zero) j h k = (lit< tt, refl)
lower_is (suc (suc zero)) j h k = (lit< tt, omega arith)
lower_is (suc (suc (suc i))) j h k = no_fourth i h

-- half byte p of a block, in its byte
pub block_half_is : (k : List ℕ) (p : ℕ) → half_byte (get_or k (p / 2) 0) (p % 2) ≡ block_half k (p / 8) (p % 8)
unfolding block_half
block_half_is k p =
    let e : p / 2 ≡ 4 * (p / 8) + p % 8 / 2 = omega arith in
    let d : p % 2 ≡ p % 8 % 2 = omega arith in
    ap₂ (λ (x y : ℕ). half_byte (get_or k x 0) y) e d

-- ---- a table from its prepared parts a, b and e: the look-ups stay inside e, and it is the table that is named

module _ (s t a b e : List ℕ) (n k l m : ℕ) (at at' : ℕ) (f : ℕ → ℕ) (ea : a ≡ tab 32 (summands s at k m)) (eb : b ≡ tab 16 (keyed_by t at' l))
    (ee : e ≡ tab 32 f) (h : Below 16 s) (ht : Below 16 t) (hk : k < 16) (hl : l < 16) (hm : m < 2) (room : n ≡ 512) where
  pub add_fits : (16 ≤ length b) × (n ≡ length a * 16) × TableFits ◌+◌ e a b
  add_fits = (omega (arith, lb), omega (arith, la), λ x hx q hq. fit x q (omega (arith, la)) hq)
    where
      la : length a ≡ 32
      la = ap length ea ∙ length_tab 32 (summands s at k m)

      lb : length b ≡ 16
      lb = ap length eb ∙ length_tab 16 (keyed_by t at' l)

      le : length e ≡ 32
      le = ap length ee ∙ length_tab 32 f

      fit : (x q : ℕ) → x < 32 → q < 16 → get_or a x 0 + get_or b q 0 < length e
      fit x q hx hq =
          let p = ap (λ (v : List ℕ). get_or v x 0) ea ∙ get_or_tab 32 (summands s at k m) x hx in
          let r = ap (λ (v : List ℕ). get_or v q 0) eb ∙ get_or_tab 16 (keyed_by t at' l) q hq in
          let u = xor_lt 4 (get_or s (at + x % 16) 0) k (h (at + x % 16)) hk in
          let v = xor_lt 4 (get_or t (at' + q) 0) l (ht (at' + q)) hl in
          let w = xor_lt 1 (x / 16) m (omega arith) hm in
          omega (arith, p, r, u, v, w, le)

pub add_made : (s R K a b e : List ℕ) (p k l m : ℕ) → a ≡ tab 32 (summands s (16 * p) k m)
    → b ≡ tab 16 (keyed_by s (16 * p + 128) l) → e ≡ tab 32 (sum_entries R p) → m ≡ mask_into R (p / 8) (p % 8) → k ≡ half_byte (get_or K (2 * (p / 8)) 0) (p % 8)
    → l ≡ half_byte (get_or K (2 * (p / 8) + 1) 0) (p % 8) → table_by ◌+◌ e a b ≡ made_add s R K p
unfolding made_add
add_made s R K a b e p k l m ea eb ee em ek el = rw (ea, eb, ee, em, ek, el)

module _ (s a b e : List ℕ) (n i at at' : ℕ) (ea : a ≡ tab 16 (upper_parts s at i)) (eb : b ≡ tab 16 (lower_parts s at' i))
    (h : Below 16 s) (far : 16 ≤ length e) (room : n ≡ 256) where
  pub turn_fits : (16 ≤ length b) × (n ≡ length a * 16) × TableFits ◌+◌ e a b
  turn_fits = (omega (arith, lb), omega (arith, la), λ x hx q hq. fit x q (omega (arith, la)) hq)
    where
      la : length a ≡ 16
      la = ap length ea ∙ length_tab 16 (upper_parts s at i)

      lb : length b ≡ 16
      lb = ap length eb ∙ length_tab 16 (lower_parts s at' i)

      fit : (x q : ℕ) → x < 16 → q < 16 → get_or a x 0 + get_or b q 0 < length e
      fit x q hx hq =
          let p = ap (λ (v : List ℕ). get_or v x 0) ea ∙ get_or_tab 16 (upper_parts s at i) x hx in
          let r = ap (λ (v : List ℕ). get_or v q 0) eb ∙ get_or_tab 16 (lower_parts s at' i) q hq in
          let u = parts_lt i (get_or s (at + x) 0) (get_or s (at' + q) 0) (h (at' + q)) in
          omega (arith, p, r, u)

-- x and y are the two half bytes, z the sum as whose they are cut
pub turned_made : (above below : ℕ → ℕ → ℕ) (sum : ℕ → ℕ) (s S e : List ℕ) (p x y z : ℕ) → e ≡ drop (16 * p) S → x ≡ above (p / 8) (p % 8)
    → y ≡ below (p / 8) (p % 8) → z ≡ sum (p / 8) → turned_rows s (16 * (8 * (p / 8) + x)) (16 * (8 * (p / 8) + y)) z e ≡ turned_by above below sum s S p
unfolding turned_by
turned_made above below sum s S e p x y z ee ex ey ez = rw (ee, ex, ey, ez)

module _ (s u S a b e : List ℕ) (n k at : ℕ) (ea : a ≡ tab 16 (keyed_by s at k)) (eb : b ≡ drop at u) (ee : e ≡ drop at S)
    (h : Below 16 s) (hu : Below 16 u) (hk : k < 16) (near : at + 16 ≤ length u) (far : at + 16 ≤ length S) (room : n ≡ 256) where
  pub fold_fits : (16 ≤ length b) × (n ≡ length a * 16) × TableFits bit_xor e a b
  fold_fits = (omega (arith, lb), omega (arith, la), λ x hx q hq. fit x q (omega (arith, la)) hq)
    where
      la : length a ≡ 16
      la = ap length ea ∙ length_tab 16 (keyed_by s at k)

      lb : length b ≡ length u - at
      lb = ap length eb ∙ length-drop at u

      le : length e ≡ length S - at
      le = ap length ee ∙ length-drop at S

      fit : (x q : ℕ) → x < 16 → q < 16 → bit_xor (get_or a x 0) (get_or b q 0) < length e
      fit x q hx hq =
          let p = ap (λ (v : List ℕ). get_or v x 0) ea ∙ get_or_tab 16 (keyed_by s at k) x hx in
          let r = ap (λ (v : List ℕ). get_or v q 0) eb ∙ get_or-drop at u q 0 in
          let v = xor_lt 4 (get_or s (at + x) 0) k (h (at + x)) hk in
          let w = hu (at + q) in
          let z = xor_lt 4 (get_or a x 0) (get_or b q 0) (omega (arith, p, v)) (omega (arith, r, w)) in
          omega (arith, z, le)

pub fold_made : (s u S K a b e : List ℕ) (p k : ℕ) → a ≡ tab 16 (keyed_by s (16 * p) k) → b ≡ drop (16 * p) u → e ≡ drop (16 * p) S
    → k ≡ block_half K (p / 8) (p % 8) → table_by bit_xor e a b ≡ made_fold s u S K p
unfolding made_fold
fold_made s u S K a b e p k ea eb ee ek = rw (ea, eb, ee, ek)
