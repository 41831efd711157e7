-- Laws of doubling, by the cases of the code; a double is a block.
use Rattle.std.proofs.Common.{◌≡◌, ℕ, ◌+◌, ◌<◌, ◌≤◌, Bool, true, false, cond, leb, List, [], ◌∷◌, ◌++◌, length, get_or, set, replicate, ap, ◌∙◌, append-nil, arith, lit<, length-append, le-leb}
use native.Mathlib.Decide.{dec_lt}
use borrow.Author.Tests.{lt-leb}
use lib.Bits.{bit_xor, xor_lt, xor_zero_r}
use lib.ListN.{get_or-append}
use lib.Seq.{get_or_at}
use Rattle.lists.specs.Tabulation.{tab}
use Rattle.lists.proofs.PartLaws.{fill_more}
use Rattle.lists.specs.Blocks.{Block}
use Rattle.lists.proofs.BlockLaws.{bytes_of_lem}
use Rattle.lists.proofs.TabulationLaws.{length_tab, get_or_tab}
use Rattle.cipher.specs.Cmac.{shifted, double}

-- bytes 0 to 14 of a double
abbrev pub rule : List ℕ → ℕ → ℕ
rule b k = shifted (get_or b k 0) (get_or b (k + 1) 0)

-- a byte stored after them
last : (b d : List ℕ) (v : ℕ) → d ≡ tab 15 (rule b) ++ replicate 1 0 → set d 15 v ≡ tab 15 (rule b) ++ (v ∷ [])
last b d v e =
    ap (λ (l : List ℕ). set l 15 v) e
    ∙ fill_more 16 15 0 v (tab 15 (rule b)) (length_tab 15 (rule b)) (omega arith)
    ∙ append-nil (tab 15 (rule b) ++ (v ∷ []))

-- the last byte, where a bit fell out and where none did
module _ (b d : List ℕ) (e : d ≡ tab 15 (rule b) ++ replicate 1 0) (v : ℕ) (w : v ≡ shifted (get_or b 15 0) 0) where
  pub double_high : 128 ≤ get_or b 0 0 → set d 15 (bit_xor v 0x87) ≡ double b
  unfolding double
  double_high h = last b d (bit_xor v 0x87) e ∙ rw (w, le-leb 128 (get_or b 0 0) h)

  pub double_low : get_or b 0 0 < 128 → set d 15 v ≡ double b
  unfolding double
  double_low h = last b d v e ∙ rw (w, lt-leb 128 (get_or b 0 0) h, xor_zero_r)

-- a double is a block, whatever was doubled
pub block_double : (b : List ℕ) → Block (double b)
unfolding double
block_double b = record { size = size; bytes = bytes_of_lem (tab 15 (rule b) ++ (v ∷ [])) (λ k h. at k (rw size at h) (dec_lt k 15)) }
  where
    v : ℕ
    v = bit_xor (shifted (get_or b 15 0) 0) (cond (leb 128 (get_or b 0 0)) 0x87 0)

    size : length (tab 15 (rule b) ++ (v ∷ [])) ≡ 16
    size = length-append (tab 15 (rule b)) (v ∷ []) ∙ rw (length_tab 15 (rule b))

    bit_lt : (t : Bool) → cond t 0x87 0 < 256
    bit_lt true = lit< tt
    bit_lt false = lit< tt

    at : (k : ℕ) → k < 16 → Dec (k < 15) → get_or (tab 15 (rule b) ++ (v ∷ [])) k 0 < 256
    at k h (yes l) =
        rw (get_or-append (tab 15 (rule b)) (v ∷ []) 0 k (rw (length_tab 15 (rule b)) l), get_or_tab 15 (rule b) k l) (omega arith)
    at k h (no l) =
        let e : k ≡ 15 = omega arith in
        rw (e, get_or_at (tab 15 (rule b)) v [] 0 15 (length_tab 15 (rule b)))
        (xor_lt 8 (shifted (get_or b 15 0) 0) (cond (leb 128 (get_or b 0 0)) 0x87 0) (omega arith) (bit_lt (leb 128 (get_or b 0 0))))
