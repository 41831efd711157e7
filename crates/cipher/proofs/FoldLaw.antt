-- A fold by tables, decoded, is the xor of the two blocks decoded and the key block.
use Rattle.std.proofs.Common.{◌≡◌, ℕ, ◌+◌, ◌*◌, ◌/◌, ◌%◌, ◌<◌, List, ap, ◌∙◌, mod-eq_of_lt, arith}
use lib.Bits.{bit_xor}
use Rattle.lists.specs.Blocks.{Block, xor_block}
use Rattle.lists.proofs.BlockLaws.{block_xor}
use Rattle.cipher.specs.Coding.{Set, Permutations, decode, block_half, of_halves, decoded}
use Rattle.cipher.specs.Tables.{fold_entry, fold_table, FoldTables, fold_half, table_fold}
use Rattle.cipher.proofs.Permutation.{decode_code}
use Rattle.cipher.proofs.CodingLaws.{Halves, block_half_lt, block_half_of, block_half_xor, block_is, block_decoded, half_decoded}

-- the half bytes of a fold
pub fold_lt : (t x m : List ℕ) → Halves (fold_half t x m)
unfolding fold_half
fold_lt t x m w j hw hj = omega arith

module _ (S U S' : Set) (k t : List ℕ) (p : Permutations S) (q : Permutations U) (p' : Permutations S') (hk : Block k)
    (h : FoldTables S U S' k t) (x m : List ℕ) where
  -- what the tables fold to, before it is coded
  folded : List ℕ
  folded = xor_block (xor_block (decoded S x) (decoded U m)) k

  half_folded : (w j : ℕ) → w < 4 → j < 8
      → block_half folded w j ≡ bit_xor (bit_xor (decode (S w j) (block_half x w j)) (decode (U w j) (block_half m w j))) (block_half k w j)
  unfolding folded
  half_folded w j hw hj =
      rw (
        block_half_xor (xor_block (decoded S x) (decoded U m)) k w j hw hj,
        block_half_xor (decoded S x) (decoded U m) w j hw hj,
        half_decoded S p x w j hw hj,
        half_decoded U q m w j hw hj,
      )

  half_law : (w j : ℕ) → w < 4 → j < 8 → decode (S' w j) (fold_half t x m w j) ≡ block_half folded w j
  unfolding fold_half fold_table fold_entry
  half_law w j hw hj =
      let hx = block_half_lt x w j in
      let hm = block_half_lt m w j in
      let a : (16 * block_half x w j + block_half m w j) / 16 ≡ block_half x w j = omega arith in
      let b : (16 * block_half x w j + block_half m w j) % 16 ≡ block_half m w j = omega arith in
      let f = p' w j hw hj in
      let l = block_half_lt folded w j in
      rw (
        h w j (16 * block_half x w j + block_half m w j) hw hj (omega arith),
        a,
        b,
        ← half_folded w j hw hj,
        mod-eq_of_lt (f.low (block_half folded w j) l),
      )
      (decode_code (S' w j) f (block_half folded w j) l)

  pub fold_law : decoded S' (table_fold t x m) ≡ xor_block (xor_block (decoded S x) (decoded U m)) k
  unfolding decoded table_fold folded
  fold_law =
      let bx = block_decoded S p x in
      let bm = block_decoded U q m in
      let b = block_xor (decoded S x) (decoded U m) bx.bytes bm.bytes in
      block_is (λ w j. decode (S' w j) (block_half (of_halves (fold_half t x m)) w j)) folded
      (block_xor (xor_block (decoded S x) (decoded U m)) k b.bytes hk.bytes) (λ w j hw hj.
      ap (decode (S' w j)) (block_half_of (fold_half t x m) (fold_lt t x m) w j hw hj) ∙ half_law w j hw hj)
