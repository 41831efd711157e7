-- Eight add tables read one after another, the carry of each under its mask going into the next, give the sum of two words, coded. It
-- is said of any operands, keys and codings, so it serves sums and, by complements, differences.
use Rattle.std.proofs.Common.{◌≡◌, ℕ, zero, suc, ◌+◌, ◌*◌, ◌/◌, ◌%◌, ◌<◌, refl, ◌∙◌, arith, lit<}
use lib.Bits.{bit_xor, xor_lt}
use Rattle.lists.specs.HalfBytes.{half_byte}
use Rattle.lists.proofs.HalfByteLaws.{half_lt}
use Rattle.lists.proofs.XorLaws.{xor_cancel}
use Rattle.words.specs.Word.{add}
use Rattle.cipher.specs.Coding.{decode}
use Rattle.cipher.specs.Tables.{add_sum, add_entry}
use Rattle.cipher.proofs.RippleAdd.{carry_into, carry_next, carry_lt, half_add}

-- what eight add tables are built from, by half byte: the codings of the operands and of the sum, the key half bytes of the operands,
-- the masks of the carry in and of the carry out
pub record Run : Type 0 where
  pub left : ℕ → ℕ → ℕ
  pub right : ℕ → ℕ → ℕ
  pub sum : ℕ → ℕ → ℕ
  pub key_left : ℕ → ℕ
  pub key_right : ℕ → ℕ
  pub mask_in : ℕ → ℕ
  pub mask_out : ℕ → ℕ

-- T j n is entry n of table j, and what the law asks of codings and masks
pub record RunTables (r : Run) (T : ℕ → ℕ → ℕ) : Type 0 where
  pub entries : (j n : ℕ) → j < 8 → n < 512
      → T j n ≡ add_entry (r.sum j) (r.mask_out j) (add_sum (r.left j) (r.right j) (r.key_left j) (r.key_right j) (r.mask_in j) n)
  pub low : (j x : ℕ) → j < 8 → x < 16 → r.sum j x < 16
  pub bit : (j : ℕ) → j < 8 → r.mask_in j < 2
  pub none : r.mask_in 0 ≡ 0
  pub next : (j : ℕ) → j < 7 → r.mask_out j ≡ r.mask_in (suc j)

-- the tables are read at the operands p and q, which are decoded and keyed to the half bytes of X and Y; c j is the carry into half
-- byte j
module _ (r : Run) (T : ℕ → ℕ → ℕ) (h : RunTables r T) (p q : ℕ → ℕ) (hp : (j : ℕ) → j < 8 → p j < 16) (hq : (j : ℕ) → j < 8 → q j < 16) (X Y : ℕ)
    (eX : (j : ℕ) → j < 8 → bit_xor (decode (r.left j) (p j)) (r.key_left j) ≡ half_byte X j)
    (eY : (j : ℕ) → j < 8 → bit_xor (decode (r.right j) (q j)) (r.key_right j) ≡ half_byte Y j)
    (c : ℕ → ℕ) (c_none : c 0 ≡ 0) (c_next : (j : ℕ) → c (suc j) ≡ T j (256 * c j + 16 * p j + q j) / 16 % 2) where
  summed : (j : ℕ) → j < 8 → c j ≡ bit_xor (carry_into 0 X Y j) (r.mask_in j)
      → add_sum (r.left j) (r.right j) (r.key_left j) (r.key_right j) (r.mask_in j) (256 * c j + 16 * p j + q j) ≡ half_byte X j + half_byte Y j + carry_into 0 X Y j
  unfolding add_sum
  summed j hj e =
      let a = hp j hj in
      let b = hq j hj in
      let u : (256 * c j + 16 * p j + q j) / 16 % 16 ≡ p j = omega arith in
      let v : (256 * c j + 16 * p j + q j) % 16 ≡ q j = omega arith in
      let w : (256 * c j + 16 * p j + q j) / 256 ≡ c j = omega arith in
      rw (u, v, w, eX j hj, eY j hj, e, xor_cancel (carry_into 0 X Y j) (r.mask_in j))

  -- the entry read at half byte j: the next carry above the coded half byte of the sum
  entry_is : (j : ℕ) → j < 8 → c j ≡ bit_xor (carry_into 0 X Y j) (r.mask_in j)
      → T j (256 * c j + 16 * p j + q j) ≡ 16 * bit_xor (carry_into 0 X Y (suc j)) (r.mask_out j) + r.sum j (half_byte (add X Y) j)
  unfolding add_entry
  entry_is j hj e =
      let a = hp j hj in
      let b = hq j hj in
      let d = xor_lt 1 (carry_into 0 X Y j) (r.mask_in j) (carry_lt 0 X Y j (lit< tt)) (h.bit j hj) in
      h.entries j (256 * c j + 16 * p j + q j) hj (omega arith)
      ∙ rw (summed j hj e, ← carry_next 0 X Y j, ← half_add X Y j hj)

  carry_is : (j : ℕ) → j < 8 → c j ≡ bit_xor (carry_into 0 X Y j) (r.mask_in j)
  carry_is zero hj = rw (c_none, h.none) (unfold carry_into in refl)
  carry_is (suc j) hj =
      let l : j < 8 = omega arith in
      let d = xor_lt 1 (carry_into 0 X Y (suc j)) (r.mask_in (suc j)) (carry_lt 0 X Y (suc j) (lit< tt)) (h.bit (suc j) hj) in
      let g = h.low j (half_byte (add X Y) j) l (half_lt (add X Y) j) in
      rw (c_next j, entry_is j l (carry_is j l), h.next j (omega arith)) (omega arith)

  pub ripple : (j : ℕ) → j < 8 → T j (256 * c j + 16 * p j + q j) % 16 ≡ r.sum j (half_byte (add X Y) j)
  ripple j hj =
      let g = h.low j (half_byte (add X Y) j) hj (half_lt (add X Y) j) in
      rw (entry_is j hj (carry_is j hj)) (omega arith)
