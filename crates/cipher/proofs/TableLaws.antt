-- Laws of single tables: how large a sum is, which half bytes are turned, and each table as rows of sixteen, from codings inverted
-- beforehand, as a builder fills it.
use Rattle.std.proofs.Common.{◌≡◌, ℕ, zero, suc, ◌+◌, ◌*◌, ◌/◌, ◌%◌, ◌<◌, ap, ◌∙◌, arith}
use lib.Bits.{bit_xor, xor_lt}
use Rattle.lists.specs.Tabulation.{tab, chunks}
use Rattle.lists.proofs.ChunkLaws.{tab_rows}
use Rattle.cipher.specs.Coding.{Permutation, decode}
use Rattle.cipher.specs.Tables.{add_sum, add_entry, turned, turn_entry, fold_entry, upper, lower}
use Rattle.cipher.proofs.Permutation.{decode_lt}

module _ (f g : ℕ → ℕ) (p : Permutation f) (q : Permutation g) where
  pub sum_below : (k l m n : ℕ) → k < 16 → l < 16 → m < 2 → n < 512 → add_sum f g k l m n < 32
  unfolding add_sum
  sum_below k l m n hk hl hm hn =
      let a = xor_lt 4 (decode f (n / 16 % 16)) k (decode_lt f p (n / 16 % 16) (omega arith)) hk in
      let b = xor_lt 4 (decode g (n % 16)) l (decode_lt g q (n % 16) (omega arith)) hl in
      let c = xor_lt 1 (n / 256) m (omega arith) hm in
      omega arith

pub turned_lt : (i u v : ℕ) → turned i u v < 16
turned_lt zero u v = omega arith
turned_lt (suc zero) u v = omega arith
turned_lt (suc (suc i)) u v = omega arith

pub upper_lt : (i j : ℕ) → upper i j < 8
upper_lt zero j = omega arith
upper_lt (suc zero) j = omega arith
upper_lt (suc (suc i)) j = omega arith

pub lower_lt : (i j : ℕ) → j < 8 → lower i j < 8
lower_lt zero j h = omega arith
lower_lt (suc zero) j h = omega arith
lower_lt (suc (suc i)) j h = h

-- ---- tables as rows of sixteen

-- an add table: a and b hold the operands decoded and keyed, e the entry of each sum
pub add_rows : (f g h : ℕ → ℕ) (k l m m' : ℕ) → Permutation f → Permutation g → k < 16 → l < 16 → m < 2 → (a b e : ℕ → ℕ)
    → ((p : ℕ) → p < 16 → bit_xor (decode f p) k ≡ a p) → ((q : ℕ) → q < 16 → bit_xor (decode g q) l ≡ b q)
    → ((s : ℕ) → s < 32 → add_entry h m' s ≡ e s)
    → tab 512 (λ n. add_entry h m' (add_sum f g k l m n)) ≡ chunks 32 (λ x. tab 16 (λ q. e (a (x % 16) + b q + bit_xor (x / 16) m)))
unfolding add_sum
add_rows f g h k l m m' pf pg hk hl hm a b e ea eb ee =
    tab_rows 32 16 (λ n. add_entry h m' (add_sum f g k l m n)) (λ x q. e (a (x % 16) + b q + bit_xor (x / 16) m)) (λ x q hx hq.
    ee (add_sum f g k l m (x * 16 + q)) (sum_below f g pf pg k l m (x * 16 + q) hk hl hm (omega arith)) ∙ ap e (at x q hx hq))
  where
    at : (x q : ℕ) → x < 32 → q < 16 → add_sum f g k l m (x * 16 + q) ≡ a (x % 16) + b q + bit_xor (x / 16) m
    at x q hx hq =
        let u : (x * 16 + q) / 16 % 16 ≡ x % 16 = omega arith in
        let v : (x * 16 + q) % 16 ≡ q = omega arith in
        let w : (x * 16 + q) / 256 ≡ x / 16 = omega arith in
        rw (u, v, w, ea (x % 16) (omega arith), eb q hq)

-- a turn table and a fold table: u and v hold the operands decoded
module _ (f g h u v : ℕ → ℕ) (eu : (p : ℕ) → p < 16 → decode f p ≡ u p) (ev : (q : ℕ) → q < 16 → decode g q ≡ v q) where
  pub turn_rows : (i : ℕ) → tab 256 (turn_entry i f g h) ≡ chunks 16 (λ p. tab 16 (λ q. h (turned i (u p) (v q))))
  unfolding turn_entry
  turn_rows i =
      tab_rows 16 16 (turn_entry i f g h) (λ p q. h (turned i (u p) (v q))) (λ p q hp hq.
      let a : (p * 16 + q) / 16 ≡ p = omega arith in
      let b : (p * 16 + q) % 16 ≡ q = omega arith in
      rw (a, b, eu p hp, ev q hq))

  pub fold_rows : (k : ℕ) → tab 256 (fold_entry f g h k) ≡ chunks 16 (λ p. tab 16 (λ q. h (bit_xor (bit_xor (u p) (v q)) k)))
  unfolding fold_entry
  fold_rows k =
      tab_rows 16 16 (fold_entry f g h k) (λ p q. h (bit_xor (bit_xor (u p) (v q)) k)) (λ p q hp hq.
      let a : (p * 16 + q) / 16 ≡ p = omega arith in
      let b : (p * 16 + q) % 16 ≡ q = omega arith in
      rw (a, b, eu p hp, ev q hq))
