-- Codings inverted once: to decode by a set is to code by the inverted set. And coding a block byte by byte, as a loop does.
use Rattle.std.proofs.Common.{◌≡◌, ℕ, ◌+◌, ◌*◌, ◌/◌, ◌%◌, ◌<◌, List, length, get_or, sym, ap, ◌∙◌, subst, ap₂, arith}
use Rattle.lists.specs.Tabulation.{tab, chunks}
use Rattle.lists.specs.Blocks.{Bytes}
use Rattle.lists.specs.HalfBytes.{half_byte}
use Rattle.lists.proofs.TabulationLaws.{length_tab, get_or_tab, tab_ext}
use Rattle.lists.proofs.ChunkLaws.{length_chunks, get_or_chunks}
use Rattle.cipher.specs.Coding.{Permutations, LowSet, decode, coding_at, set_of, byte_coded, block_half, of_halves, coded, decoded, inverted}
use Rattle.cipher.proofs.Permutation.{decode_lt}
use Rattle.cipher.proofs.CodingLaws.{block_half_lt, of_halves_ext}

-- ---- inverted codings

module _ (n : ℕ) (s : List ℕ) where
  each : (k : ℕ) → length (tab 16 (decode (coding_at s k))) ≡ 16
  each k = length_tab 16 (decode (coding_at s k))

  pub length_inverted : length (inverted n s) ≡ n * 16
  unfolding inverted
  length_inverted = length_chunks (λ k. tab 16 (decode (coding_at s k))) 16 each n

  pub inverted_at : (k v : ℕ) → k < n → v < 16 → coding_at (inverted n s) k v ≡ decode (coding_at s k) v
  unfolding inverted
  inverted_at k v hk hv =
      let e : 16 * k + v ≡ k * 16 + v = omega arith in
      ap (λ (i : ℕ). get_or (chunks n (λ k. tab 16 (decode (coding_at s k)))) i 0) e
      ∙ get_or_chunks (λ k. tab 16 (decode (coding_at s k))) 16 each n k v hk hv
      ∙ get_or_tab 16 (decode (coding_at s k)) v hv

pub decoded_inverted : (s b : List ℕ) → decoded (set_of s) b ≡ coded (set_of (inverted 32 s)) b
unfolding decoded coded
decoded_inverted s b =
    of_halves_ext (λ w j. decode (set_of s w j) (block_half b w j)) (λ w j. set_of (inverted 32 s) w j (block_half b w j)) (λ w j hw hj.
    sym (inverted_at 32 s (8 * w + j) (block_half b w j) (omega arith) (block_half_lt b w j)))

-- ---- byte by byte

pub coded_each : (s b : List ℕ) → coded (set_of s) b ≡ tab 16 (λ k. byte_coded s k (get_or b k 0))
unfolding coded of_halves block_half half_byte
coded_each s b =
    tab_ext 16 _ (λ k. byte_coded s k (get_or b k 0)) (λ k l.
    let p : 4 * (k / 4) + 2 * (k % 4) / 2 ≡ k = omega arith in
    let q : 4 * (k / 4) + (2 * (k % 4) + 1) / 2 ≡ k = omega arith in
    let c : 2 * (k % 4) % 2 ≡ 0 = omega arith in
    let d : (2 * (k % 4) + 1) % 2 ≡ 1 = omega arith in
    let u : 16 * (8 * (k / 4) + 2 * (k % 4)) + get_or b k 0 % 16 ≡ 32 * k + get_or b k 0 % 16 = omega arith in
    let v : 16 * (8 * (k / 4) + (2 * (k % 4) + 1)) + get_or b k 0 / 16 % 16 ≡ 32 * k + 16 + get_or b k 0 / 16 % 16 = omega arith in
    rw (p, q, c, d) (ap₂ (λ (x y : ℕ). get_or s x 0 + 16 * get_or s y 0) u v))

-- byte k of the block b coded by the codings in s: codings 2k and 2k + 1 serve its halves
abbrev pub coded_byte : List ℕ → List ℕ → ℕ → ℕ
coded_byte s b k = get_or s (32 * k + get_or b k 0 % 16) 0 + 16 * get_or s (32 * k + 16 + get_or b k 0 / 16) 0

pub coded_bytes : (s b : List ℕ) → Bytes b → coded (set_of s) b ≡ tab 16 (coded_byte s b)
coded_bytes s b h =
    coded_each s b
    ∙ tab_ext 16 (λ k. byte_coded s k (get_or b k 0)) (coded_byte s b) (λ k l.
    let m = h k in
    let e : get_or b k 0 / 16 % 16 ≡ get_or b k 0 / 16 = omega arith in
    ap (λ (x : ℕ). get_or s (32 * k + get_or b k 0 % 16) 0 + 16 * get_or s (32 * k + 16 + x) 0) e)

-- ---- the bytes of a set of permutations, and of that set inverted, are half bytes

pub low_set : (s : List ℕ) → Permutations (set_of s) → LowSet s
low_set s p i h =
    let e : 16 * (8 * (i / 128) + i / 16 % 8) + i % 16 ≡ i = omega arith in
    subst (λ (n : ℕ). get_or s n 0 < 16) e ((p (i / 128) (i / 16 % 8) (omega arith) (omega arith)).low (i % 16) (omega arith))

pub low_inverted : (s : List ℕ) → Permutations (set_of s) → LowSet (inverted 32 s)
low_inverted s p i h =
    let e : 16 * (8 * (i / 128) + i / 16 % 8) + i % 16 ≡ i = omega arith in
    subst (λ (n : ℕ). get_or (inverted 32 s) n 0 < 16) e
    (rw (inverted_at 32 s (8 * (i / 128) + i / 16 % 8) (i % 16) (omega arith) (omega arith))
    (decode_lt (set_of s (i / 128) (i / 16 % 8)) (p (i / 128) (i / 16 % 8) (omega arith) (omega arith)) (i % 16) (omega arith)))
