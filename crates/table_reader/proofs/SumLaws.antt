-- Sums read from add tables two half bytes at a time, and the three sums of a round side by side: what the loop has after m bytes of
-- each.
use mathlib.Core.Path.{◌≡◌, refl, sym, ◌∙◌}
use mathlib.Core.List.{List}
use Prim.Native.Nat.{ℕ, zero, suc, ◌+◌, ◌*◌, ◌/◌, ◌%◌, ◌<◌}
use native.Mathlib.Numerals.{add-one}
use native.Mathlib.Omega.{arith}
use lib.ListN.{get_or, length}
use Rattle.cipher.specs.Lengths.{add_length}
use Rattle.cipher.specs.Coding.{block_half}
use Rattle.cipher.specs.Tables.{add_at, carry_at, sum_at}
use Rattle.table_reader.specs.Reading.{low_entry, high_entry, TwoIs, byte_of}
use Rattle.table_reader.proofs.ReadingLaws.{half_lo, half_hi, three}
use Rattle.table_reader.proofs.Columns.{Columns, columns_first, three_columns}

-- two entries of the add tables in t, from table `base` on, read at the half bytes 2m and 2m + 1 of the operands p and q: T j n is entry n
-- of table base + j, and c j the carry into half byte j
module _ (t : List ℕ) (base : ℕ) (T : ℕ → ℕ → ℕ) (p q c : ℕ → ℕ) (entries : (j n : ℕ) → get_or t (add_length * (base + j) + n) 0 ≡ T j n)
    (next : (j : ℕ) → c (suc j) ≡ T j (256 * c j + 16 * p j + q j) / 16 % 2) (m k e x y s d : ℕ) (ek : k ≡ base + 2 * m) (ee : e ≡ c (2 * m))
    (x0 : x % 16 ≡ p (2 * m)) (x1 : x / 16 % 16 ≡ p (2 * m + 1)) (y0 : y % 16 ≡ q (2 * m)) (y1 : y / 16 % 16 ≡ q (2 * m + 1))
    (is : TwoIs t k e x y s d) where
  lo_is : low_entry t k e x y ≡ T (2 * m) (256 * c (2 * m) + 16 * p (2 * m) + q (2 * m))
  unfolding low_entry
  lo_is = rw (ek, ee, x0, y0) (entries (2 * m) (256 * c (2 * m) + 16 * p (2 * m) + q (2 * m)))

  up : (j : ℕ) → c (j + 1) ≡ T j (256 * c j + 16 * p j + q j) / 16 % 2
  up j = rw add-one (next j)

  hi_is : high_entry t k e x y ≡ T (2 * m + 1) (256 * c (2 * m + 1) + 16 * p (2 * m + 1) + q (2 * m + 1))
  unfolding high_entry
  hi_is =
      let o : k + 1 ≡ base + (2 * m + 1) = omega arith in
      rw (o, lo_is, sym (up (2 * m)), x1, y1) (entries (2 * m + 1) (256 * c (2 * m + 1) + 16 * p (2 * m + 1) + q (2 * m + 1)))

  pub two_sum : s ≡ T (2 * m) (256 * c (2 * m) + 16 * p (2 * m) + q (2 * m)) % 16 + 16 * (T (2 * m + 1) (256 * c (2 * m + 1) + 16 * p (2 * m + 1) + q (2 * m + 1)) % 16)
  two_sum = is.sum ∙ rw (lo_is, hi_is)

  pub two_carry : d ≡ c (2 * (m + 1))
  two_carry =
      let o : 2 * (m + 1) ≡ 2 * m + 1 + 1 = omega arith in
      is.carry ∙ rw (hi_is, o, up (2 * m + 1))

-- ---- the sums of a round

pub carry_lt : (t b : List ℕ) (i j : ℕ) → carry_at t b i j < 2
unfolding carry_at
carry_lt t b i zero = omega arith
carry_lt t b i (suc j) = omega arith

module _ (t b : List ℕ) (i m k c p q s d : ℕ) (ek : k ≡ 8 * i + 2 * m) (ep : p ≡ 4 * i + m) (eq : q ≡ 4 * suc i + m)
    (ec : c ≡ carry_at t b i (2 * m)) (is : TwoIs t k c (get_or b p 0) (get_or b q 0) s d) where
  sum_two : s ≡ byte_of (sum_at t b) i m
  unfolding sum_at
  sum_two =
      two_sum t (8 * i) (add_at t i) (block_half b i) (block_half b (suc i)) (carry_at t b i) (λ j n. refl) (λ j. unfold carry_at in refl) m k c (get_or b p 0) (get_or b q 0) s d
      ek ec (rw (ep, half_lo b i m)) (rw (ep, half_hi b i m)) (rw (eq, half_lo b (suc i) m)) (rw (eq, half_hi b (suc i) m)) is

  carry_two : d ≡ carry_at t b i (2 * (m + 1))
  carry_two =
      two_carry t (8 * i) (add_at t i) (block_half b i) (block_half b (suc i)) (carry_at t b i) (λ j n. refl) (λ j. unfold carry_at in refl) m k c (get_or b p 0) (get_or b q 0) s d
      ek ec (rw (ep, half_lo b i m)) (rw (ep, half_hi b i m)) (rw (eq, half_lo b (suc i) m)) (rw (eq, half_hi b (suc i) m)) is

-- the first m bytes of each sum are made, in place of those of x; and the carries that come in next
pub record Sums (t b x : List ℕ) (m : ℕ) (s : List ℕ) (c0 c1 c2 : ℕ) : Type 0 where
  pub small0 : c0 < 2
  pub small1 : c1 < 2
  pub small2 : c2 < 2
  pub are : Columns 3 (byte_of (sum_at t b)) x m s
  pub carry0 : c0 ≡ carry_at t b 0 (2 * m)
  pub carry1 : c1 ≡ carry_at t b 1 (2 * m)
  pub carry2 : c2 ≡ carry_at t b 2 (2 * m)

pub sums_first : (t b s : List ℕ) → length s ≡ 12 → Sums t b s 0 s 0 0 0
unfolding carry_at
sums_first t b s h = record {
  small0 = omega arith;
  small1 = omega arith;
  small2 = omega arith;
  are = columns_first 3 (byte_of (sum_at t b)) s h;
  carry0 = refl;
  carry1 = refl;
  carry2 = refl;
}

pub sums_next : (t b x s : List ℕ) (m c0 c1 c2 u d0 v d1 w d2 : ℕ) → m < 4 → Sums t b x m s c0 c1 c2
    → TwoIs t (2 * m) c0 (get_or b m 0) (get_or b (m + 4) 0) u d0
    → TwoIs t (2 * m + 8) c1 (get_or b (m + 4) 0) (get_or b (m + 8) 0) v d1
    → TwoIs t (2 * m + 16) c2 (get_or b (m + 8) 0) (get_or b (m + 12) 0) w d2
    → Sums t b x (m + 1) (three s m u v w) d0 d1 d2
sums_next t b x s m c0 c1 c2 u d0 v d1 w d2 hm z x0 x1 x2 =
    let e0 = carry_two t b 0 m (2 * m) c0 m (m + 4) u d0 (omega arith) (omega arith) (omega arith) z.carry0 x0 in
    let e1 = carry_two t b 1 m (2 * m + 8) c1 (m + 4) (m + 8) v d1 (omega arith) (omega arith) (omega arith) z.carry1 x1 in
    let e2 = carry_two t b 2 m (2 * m + 16) c2 (m + 8) (m + 12) w d2 (omega arith) (omega arith) (omega arith) z.carry2 x2 in
    record {
      small0 = rw e0 (carry_lt t b 0 (2 * (m + 1)));
      small1 = rw e1 (carry_lt t b 1 (2 * (m + 1)));
      small2 = rw e2 (carry_lt t b 2 (2 * (m + 1)));
      are = three_columns (byte_of (sum_at t b)) x s m u v w hm z.are
          (sum_two t b 0 m (2 * m) c0 m (m + 4) u d0 (omega arith) (omega arith) (omega arith) z.carry0 x0)
          (sum_two t b 1 m (2 * m + 8) c1 (m + 4) (m + 8) v d1 (omega arith) (omega arith) (omega arith) z.carry1 x1)
          (sum_two t b 2 m (2 * m + 16) c2 (m + 8) (m + 12) w d2 (omega arith) (omega arith) (omega arith) z.carry2 x2);
      carry0 = e0;
      carry1 = e1;
      carry2 = e2;
    }

pub sum_lt : (t b : List ℕ) (i j : ℕ) → sum_at t b i j < 16
unfolding sum_at
sum_lt t b i j = omega arith
