-- Laws of single reading tables: a turn table is one of a sealing book's with another cut; a subtract table is an add table, its first
-- operand under the key half byte 15 and its sums coded otherwise. So what is known of add and turn tables, as rows of sixteen that
-- a builder fills, serves these too.
use mathlib.Core.Path.{◌≡◌, refl, sym, ap, ap₂, ◌∙◌}
use Prim.Native.Nat.{ℕ, zero, suc, ◌+◌, ◌-◌, ◌*◌, ◌/◌, ◌%◌, ◌<◌}
use native.Mathlib.Omega.{arith}
use lib.Bits.{bit_xor, bit_and, xor_lt, xor_add_and, and_mask}
use Rattle.lists.specs.Tabulation.{tab, chunks}
use Rattle.lists.proofs.TabulationLaws.{tab_ext}
use Rattle.lists.proofs.XorLaws.{xor_assoc}
use Rattle.cipher.specs.Coding.{Permutation, decode}
use Rattle.cipher.specs.Tables.{add_sum, add_entry, turned, turn_entry}
use Rattle.cipher.proofs.Permutation.{decode_lt}
use Rattle.cipher.proofs.TableLaws.{add_rows, turn_rows}
use Rattle.reading.specs.LikeSealing.{cut_of, sum_coding}
use Rattle.reading.specs.Tables.{turned_back, turn_back_entry, difference, subtract_entry}

-- ---- turn tables

turned_is : (i u v : ℕ) → turned_back i u v ≡ turned (cut_of i) u v
turned_is zero u v = refl
turned_is (suc zero) u v = refl
turned_is (suc (suc i)) u v = refl

pub turn_back_is : (i : ℕ) (f g h : ℕ → ℕ) (n : ℕ) → turn_back_entry i f g h n ≡ turn_entry (cut_of i) f g h n
unfolding turn_back_entry turn_entry
turn_back_is i f g h n = ap h (turned_is i (decode f (n / 16)) (decode g (n % 16)))

pub turn_back_rows : (f g h u v : ℕ → ℕ) → ((p : ℕ) → p < 16 → decode f p ≡ u p) → ((q : ℕ) → q < 16 → decode g q ≡ v q)
    → (i : ℕ) → tab 256 (turn_back_entry i f g h) ≡ chunks 16 (λ p. tab 16 (λ q. h (turned (cut_of i) (u p) (v q))))
turn_back_rows f g h u v eu ev i =
    tab_ext 256 (turn_back_entry i f g h) (turn_entry (cut_of i) f g h) (λ n l. turn_back_is i f g h n) ∙ turn_rows f g h u v eu ev (cut_of i)

-- ---- subtract tables

-- xor with 15 is the complement of a half byte
pub flip : (x : ℕ) → x < 16 → bit_xor x 15 ≡ 15 - x
flip x h =
    let a : bit_xor x 15 + bit_and x 15 * 2 ≡ x + 15 = xor_add_and x 15 in
    let b : bit_and x 15 ≡ x % 16 = and_mask x 4 in
    omega arith

module _ (f g : ℕ → ℕ) (p : Permutation f) (q : Permutation g) (k m n : ℕ) (hk : k < 16) (hm : m < 2) (hn : n < 512) where
  pub subtract_is_add : (h : ℕ → ℕ) (l m' : ℕ) → subtract_entry h l m' (difference f g k m n) ≡ add_entry (sum_coding h l) m' (add_sum f g 15 k m n)
  unfolding subtract_entry difference add_entry add_sum
  subtract_is_add h l m' =
      let x = decode f (n / 16 % 16) in
      let y = bit_xor (decode g (n % 16)) k + bit_xor (n / 256) m in
      let s = bit_xor x 15 + bit_xor (decode g (n % 16)) k + bit_xor (n / 256) m in
      let hx = decode_lt f p (n / 16 % 16) (omega arith) in
      let a = xor_lt 4 (decode g (n % 16)) k (decode_lt g q (n % 16) (omega arith)) hk in
      let b = xor_lt 1 (n / 256) m (omega arith) hm in
      let e = flip x hx in
      let c : 1 - (16 + x - y) / 16 ≡ s / 16 = omega arith in
      let d : (16 + x - y) % 16 ≡ 15 - s % 16 = omega arith in
      ap₂ (λ (u v : ℕ). 16 * bit_xor u m' + h (bit_xor v l)) c (d ∙ sym (flip (s % 16) (omega arith)))
      ∙ ap (λ (u : ℕ). 16 * bit_xor (s / 16) m' + h u) (xor_assoc (s % 16) 15 l)

-- a and b hold the operands decoded, a those of the turned half byte complemented, b those of the new word keyed; e the entry of each
-- of the add table's sums
pub subtract_rows : (f g h : ℕ → ℕ) (k l m m' : ℕ) → Permutation f → Permutation g → k < 16 → m < 2 → (a b e : ℕ → ℕ)
    → ((p : ℕ) → p < 16 → bit_xor (decode f p) 15 ≡ a p) → ((q : ℕ) → q < 16 → bit_xor (decode g q) k ≡ b q)
    → ((s : ℕ) → s < 32 → add_entry (sum_coding h l) m' s ≡ e s)
    → tab 512 (λ n. subtract_entry h l m' (difference f g k m n)) ≡ chunks 32 (λ x. tab 16 (λ q. e (a (x % 16) + b q + bit_xor (x / 16) m)))
subtract_rows f g h k l m m' pf pg hk hm a b e ea eb ee =
    tab_ext 512 (λ n. subtract_entry h l m' (difference f g k m n)) (λ n. add_entry (sum_coding h l) m' (add_sum f g 15 k m n))
    (λ n hn. subtract_is_add f g pf pg k m n hk hm hn h l m')
    ∙ add_rows f g (sum_coding h l) 15 k m m' pf pg (omega arith) hk hm a b e ea eb ee
