-- Laws of inverted codings: each value, and that all are half bytes.
use mathlib.Core.Path.{◌≡◌, sym, ap, ◌∙◌}
use mathlib.Core.List.{List}
use Prim.Native.Nat.{ℕ, ◌+◌, ◌*◌, ◌/◌, ◌%◌, ◌<◌}
use native.Mathlib.Decide.{dec_lt}
use native.Mathlib.Omega.{arith}
use lib.Dec.{lit<}
use lib.ListN.{get_or, get_or-eq_default}
use Rattle.lists.specs.Blocks.{Below}
use Rattle.cipher.specs.Coding.{FirstPermutations, coding_at, decode, inverted}
use Rattle.cipher.proofs.Permutation.{decode_lt}
use Rattle.cipher.proofs.InverseLaws.{length_inverted, inverted_at}

module _ (n : ℕ) (s : List ℕ) where
  -- the value at o, which is place v of coding k
  pub inverse_at : (o k v : ℕ) → k < n → v < 16 → o ≡ 16 * k + v → decode (coding_at s k) v ≡ get_or (inverted n s) o 0
  inverse_at o k v hk hv e = sym (ap (λ (m : ℕ). get_or (inverted n s) m 0) e ∙ inverted_at n s k v hk hv)

  pub inverse_below : FirstPermutations n s → Below 16 (inverted n s)
  inverse_below h o = go (dec_lt o (n * 16))
    where
      go : Dec (o < n * 16) → get_or (inverted n s) o 0 < 16
      go (yes d) =
          let e = inverse_at o (o / 16) (o % 16) (omega arith) (omega arith) (omega arith) in
          let b = decode_lt (coding_at s (o / 16)) (h (o / 16) (omega arith)) (o % 16) (omega arith) in
          omega arith
      go (no d) = rw (get_or-eq_default (inverted n s) 0 {n = o} (rw (length_inverted n s) (omega arith))) (lit< tt)
