-- The tables that the builder makes from inverted codings are the tables of the book.
use mathlib.Core.Path.{◌≡◌, refl, sym, ap, ap₂, ◌∙◌}
use mathlib.Core.List.{List, ◌++◌}
use Prim.Native.Nat.{ℕ, zero, suc, ◌+◌, ◌*◌, ◌/◌, ◌%◌, ◌<◌}
use native.Mathlib.Omega.{arith}
use lib.Bits.{bit_xor, xor_lt, xor_comm}
use lib.Dec.{lit<}
use lib.ListN.{length, get_or, drop}
use lib.Seq.{get_or-drop}
use Rattle.lists.specs.Tabulation.{tab, chunks, tables}
use Rattle.lists.specs.Blocks.{Below}
use Rattle.lists.specs.HalfBytes.{half_byte}
use Rattle.lists.proofs.TabulationLaws.{length_tab, get_or_tab, tab_ext}
use Rattle.lists.proofs.ChunkLaws.{length_chunks, chunks_ext}
use Rattle.lists.proofs.HalfByteLaws.{half_lt}
use Rattle.lists.proofs.XorLaws.{xor_assoc}
use Rattle.cipher.specs.Coding.{coding_at, set_of, inverted, block_half}
use Rattle.cipher.specs.Tables.{add_entry, add_table, turned, upper, lower, turn_table, fold_table}
use Rattle.cipher.specs.Lengths.{add_length, turn_length, fold_length}
use Rattle.cipher.specs.Chain.{mask_into, mask_out_of}
use Rattle.cipher.specs.Book.{two_kinds, round_part, group_part}
use Rattle.cipher.proofs.TableLaws.{upper_lt, lower_lt, add_rows, turn_rows, fold_rows}
use Rattle.table_maker.specs.Rows.{row_by, table_by}
use Rattle.table_maker.specs.Made.{RoundReady, codings_of, keyed_by, summands, sum_entries, made_add, upper_part, lower_part, upper_parts, lower_parts, turned_rows, turned_by, itself, made_turn, made_fold}
use Rattle.table_maker.proofs.InvertedLaws.{inverse_at, inverse_below}
use Rattle.table_maker.proofs.MadeLaws.{length_add, length_turned}

-- ---- tables by their entries

pub table_is : (op : ℕ → ℕ → ℕ) (E : List ℕ) (n : ℕ) (a : ℕ → ℕ) (B : List ℕ) (g : ℕ → ℕ → ℕ)
    → ((x q : ℕ) → x < n → q < 16 → get_or E (op (a x) (get_or B q 0)) 0 ≡ g x q) → table_by op E (tab n a) B ≡ chunks n (λ x. tab 16 (g x))
unfolding table_by row_by
table_is op E n a B g h =
    ap (λ (m : ℕ). chunks m (λ x. tab 16 (λ q. get_or E (op (get_or (tab n a) x 0) (get_or B q 0)) 0))) (length_tab n a)
    ∙ chunks_ext n (λ x. tab 16 (λ q. get_or E (op (get_or (tab n a) x 0) (get_or B q 0)) 0)) (λ x. tab 16 (g x)) (λ x hx.
    tab_ext 16 (λ q. get_or E (op (get_or (tab n a) x 0) (get_or B q 0)) 0) (g x) (λ q hq.
    ap (λ (y : ℕ). get_or E (op y (get_or B q 0)) 0) (get_or_tab n a x hx) ∙ h x q hx hq))

-- the same where the places' operands are tabulated too
pub both_tabled : (op : ℕ → ℕ → ℕ) (E : List ℕ) (n : ℕ) (a b : ℕ → ℕ) (g : ℕ → ℕ → ℕ)
    → ((x q : ℕ) → x < n → q < 16 → get_or E (op (a x) (b q)) 0 ≡ g x q) → table_by op E (tab n a) (tab 16 b) ≡ chunks n (λ x. tab 16 (g x))
both_tabled op E n a b g h =
    table_is op E n a (tab 16 b) g (λ x q hx hq. ap (λ (y : ℕ). get_or E (op (a x) y) 0) (get_or_tab 16 b q hq) ∙ h x q hx hq)

-- ---- a round

parts_turn : (i u v : ℕ) → v < 16 → upper_part i u + lower_part i v ≡ turned i u v
parts_turn zero u v h = omega arith
parts_turn (suc zero) u v h = omega arith
parts_turn (suc (suc i)) u v h = omega arith

-- a table of sums: s has the rows' operands, t those of the places, each from a place on
module _ (s t : List ℕ) (at at' k l m : ℕ) (hs : Below 16 s) (ht : Below 16 t) (hk : k < 16) (hl : l < 16) (hm : m < 2) (entry : ℕ → ℕ) where
  abbrev sum_of : ℕ → ℕ → ℕ
  sum_of x q = keyed_by s at k (x % 16) + keyed_by t at' l q + bit_xor (x / 16) m

  sum_at_lem : (x q : ℕ) → x < 32 → q < 16 → get_or (tab 32 entry) (summands s at k m x + keyed_by t at' l q) 0 ≡ entry (sum_of x q)
  sum_at_lem x q hx hq =
      let a = xor_lt 4 (get_or s (at + x % 16) 0) k (hs (at + x % 16)) hk in
      let b = xor_lt 4 (get_or t (at' + q) 0) l (ht (at' + q)) hl in
      let c = xor_lt 1 (x / 16) m (omega arith) hm in
      let d : summands s at k m x + keyed_by t at' l q ≡ sum_of x q = omega arith in
      ap (λ (n : ℕ). get_or (tab 32 entry) n 0) d ∙ get_or_tab 32 entry (sum_of x q) (omega arith)

  pub sums_are : table_by ◌+◌ (tab 32 entry) (tab 32 (summands s at k m)) (tab 16 (keyed_by t at' l)) ≡ chunks 32 (λ x. tab 16 (λ q. entry (sum_of x q)))
  sums_are = both_tabled ◌+◌ (tab 32 entry) 32 (summands s at k m) (keyed_by t at' l) (λ x q. entry (sum_of x q)) sum_at_lem

-- a table of turned half bytes: s has the operands, from two places on, and the turned ones are coded by coding p of F
pub turned_are : (s F : List ℕ) (at at' i p o : ℕ) → Below 16 s → o ≡ 16 * p
    → turned_rows s at at' i (drop o F) ≡ chunks 16 (λ x. tab 16 (λ q. coding_at F p (turned i (get_or s (at + x) 0) (get_or s (at' + q) 0))))
turned_are s F at at' i p o h e =
    both_tabled ◌+◌ (drop o F) 16 (upper_parts s at i) (lower_parts s at' i) (λ x q. coding_at F p (turned i (get_or s (at + x) 0) (get_or s (at' + q) 0))) (λ x q hx hq.
    get_or-drop o F (upper_parts s at i x + lower_parts s at' i q) 0
    ∙ ap₂ (λ (y z : ℕ). get_or F (y + z) 0) e (parts_turn i (get_or s (at + x) 0) (get_or s (at' + q) 0) (h (at' + q))))

module _ (B A R K : List ℕ) (ready : RoundReady B A R) where
  -- the mask of a carry in is a bit
  pub mask_bit : (i j : ℕ) → i < 3 → j < 8 → mask_into R i j < 2
  mask_bit i zero hi hj = lit< tt
  mask_bit i (suc j) hi hj = ready.masks (384 + (8 * i + suc j)) (omega arith) (omega arith)

  add_is : (p : ℕ) → p < 24 → made_add (inverted 32 B) R K p ≡ tab add_length (add_table (codings_of B A R) K (p / 8) (p % 8))
  unfolding made_add add_table codings_of
  add_is p hp =
      let i = p / 8 in
      let j = p % 8 in
      let e : 8 * i + j ≡ p = omega arith in
      let k = half_byte (get_or K (2 * i) 0) j in
      let l = half_byte (get_or K (2 * i + 1) 0) j in
      let hk = half_lt (get_or K (2 * i) 0) j in
      let hl = half_lt (get_or K (2 * i + 1) 0) j in
      let hm = mask_bit i j (omega arith) (omega arith) in
      let low = inverse_below 32 B ready.before in
      sums_are (inverted 32 B) (inverted 32 B) (16 * p) (16 * p + 128) k l (mask_into R i j) low low hk hl hm (sum_entries R p)
      ∙ sym (add_rows (coding_at B (8 * i + j)) (coding_at B (8 * suc i + j)) (coding_at R (8 * i + j)) k l (mask_into R i j) (mask_out_of R i j)
      (ready.before (8 * i + j) (omega arith)) (ready.before (8 * suc i + j) (omega arith)) hk hl hm
      (keyed_by (inverted 32 B) (16 * p) k) (keyed_by (inverted 32 B) (16 * p + 128) l) (sum_entries R p)
      (λ v hv. ap (λ (y : ℕ). bit_xor y k) (inverse_at 32 B (16 * p + v) (8 * i + j) v (omega arith) hv (omega arith)))
      (λ v hv. ap (λ (y : ℕ). bit_xor y l) (inverse_at 32 B (16 * p + 128 + v) (8 * suc i + j) v (omega arith) hv (omega arith)))
      (λ v hv. ap (λ (y : ℕ). add_entry (coding_at R y) (mask_out_of R i j) v) e))

  turn_is : (p : ℕ) → p < 24 → made_turn (inverted 24 R) A p ≡ tab turn_length (turn_table (codings_of B A R) (p / 8) (p % 8))
  unfolding turned_by turn_table codings_of
  turn_is p hp = go (p / 8) (p % 8) (omega arith) (omega arith) (omega arith)
    where
      go : (i j : ℕ) → i < 3 → j < 8 → 8 * i + j ≡ p
          → turned_rows (inverted 24 R) (16 * (8 * i + upper i j)) (16 * (8 * i + lower i j)) i (drop (16 * p) A) ≡ tab 256 (turn_table (codings_of B A R) i j)
      go i j hi hj e =
          let hu = upper_lt i j in
          let hl = lower_lt i j hj in
          let u : ℕ → ℕ = λ x. get_or (inverted 24 R) (16 * (8 * i + upper i j) + x) 0 in
          let v : ℕ → ℕ = λ x. get_or (inverted 24 R) (16 * (8 * i + lower i j) + x) 0 in
          turned_are (inverted 24 R) A (16 * (8 * i + upper i j)) (16 * (8 * i + lower i j)) i (8 * i + j) (16 * p) (inverse_below 24 R ready.middles) (omega arith)
          ∙ sym (turn_rows (coding_at R (8 * i + upper i j)) (coding_at R (8 * i + lower i j)) (coding_at A (8 * i + j)) u v
          (λ x hx. inverse_at 24 R (16 * (8 * i + upper i j) + x) (8 * i + upper i j) x (omega arith) hx refl)
          (λ x hx. inverse_at 24 R (16 * (8 * i + lower i j) + x) (8 * i + lower i j) x (omega arith) hx refl) i)

  pub round_is : chunks 24 (made_add (inverted 32 B) R K) ++ chunks 24 (made_turn (inverted 24 R) A) ≡ round_part (codings_of B A R) K
  unfolding round_part two_kinds tables
  round_is =
      ap₂ {C = List ℕ} (λ (x y : List ℕ). x ++ y) (chunks_ext 24 (made_add (inverted 32 B) R K) (λ p. tab add_length (add_table (codings_of B A R) K (p / 8) (p % 8))) add_is)
      (chunks_ext 24 (made_turn (inverted 24 R) A) (λ p. tab turn_length (turn_table (codings_of B A R) (p / 8) (p % 8))) turn_is)

-- ---- a group

module _ (S U F K : List ℕ) where
  fold_is : (p : ℕ) → p < 32 → made_fold (inverted 32 S) (inverted 32 U) F K p ≡ tab fold_length (fold_table (set_of S) (set_of U) (set_of F) K (p / 8) (p % 8))
  unfolding made_fold fold_table
  fold_is p hp =
      let e : 8 * (p / 8) + p % 8 ≡ p = omega arith in
      let k = block_half K (p / 8) (p % 8) in
      let u : ℕ → ℕ = λ x. get_or (inverted 32 S) (16 * p + x) 0 in
      let v : ℕ → ℕ = λ x. get_or (inverted 32 U) (16 * p + x) 0 in
      table_is bit_xor (drop (16 * p) F) 16 (keyed_by (inverted 32 S) (16 * p) k) (drop (16 * p) (inverted 32 U))
      (λ x q. coding_at F (8 * (p / 8) + p % 8) (bit_xor (bit_xor (u x) (v q)) k)) (λ x q hx hq.
      get_or-drop (16 * p) F (bit_xor (bit_xor (u x) k) (get_or (drop (16 * p) (inverted 32 U)) q 0)) 0
      ∙ ap₂ (λ (y z : ℕ). get_or F (16 * y + z) 0) (sym e)
      (ap (bit_xor (bit_xor (u x) k)) (get_or-drop (16 * p) (inverted 32 U) q 0) ∙ xor_assoc (u x) k (v q) ∙ ap (bit_xor (u x)) (xor_comm k (v q)) ∙ sym (xor_assoc (u x) (v q) k)))
      ∙ sym (fold_rows (coding_at S (8 * (p / 8) + p % 8)) (coding_at U (8 * (p / 8) + p % 8)) (coding_at F (8 * (p / 8) + p % 8)) u v
      (λ x hx. inverse_at 32 S (16 * p + x) (8 * (p / 8) + p % 8) x (omega arith) hx (omega arith))
      (λ x hx. inverse_at 32 U (16 * p + x) (8 * (p / 8) + p % 8) x (omega arith) hx (omega arith)) k)

  pub group_is : chunks 32 (made_fold (inverted 32 S) (inverted 32 U) F K) ≡ group_part (set_of S) (set_of U) (set_of F) K
  unfolding group_part tables
  group_is = chunks_ext 32 (made_fold (inverted 32 S) (inverted 32 U) F K) (λ p. tab fold_length (fold_table (set_of S) (set_of U) (set_of F) K (p / 8) (p % 8))) fold_is

-- ---- parts that are put together

pub adds_length_lem : (x s R K : List ℕ) → x ≡ chunks 24 (made_add s R K) → length x ≡ 12288
adds_length_lem x s R K e = ap length e ∙ length_chunks (made_add s R K) 512 (length_add s R K) 24

pub turns_length : (x s S : List ℕ) → x ≡ chunks 24 (made_turn s S) → length x ≡ 6144
turns_length x s S e = ap length e ∙ length_chunks (made_turn s S) 256 (length_turned upper lower itself s S) 24

pub round_joined : (B A R K s m x y : List ℕ) → RoundReady B A R → s ≡ inverted 32 B → m ≡ inverted 24 R → x ≡ chunks 24 (made_add s R K)
    → y ≡ chunks 24 (made_turn m A) → x ++ y ≡ round_part (codings_of B A R) K
round_joined B A R K s m x y h es em ex ey = rw (ex, ey, es, em) (round_is B A R K h)
