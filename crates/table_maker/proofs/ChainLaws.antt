-- A valid chain gives what its rounds are made from.
use mathlib.Core.Path.{◌≡◌}
use mathlib.Core.List.{List}
use Prim.Native.Nat.{ℕ, suc, ◌+◌, ◌-◌, ◌*◌, ◌/◌, ◌%◌, ◌≤◌, ◌<◌}
use native.Mathlib.Omega.{arith}
use lib.ListN.{get_or, drop, length-drop}
use Rattle.cipher.specs.Coding.{FirstPermutations}
use Rattle.cipher.specs.KeySize.{rounds}
use Rattle.cipher.specs.Chain.{ChainBy, round_bytes, round_codings}
use Rattle.cipher.specs.declared.size.KeySize.{KeySize}
use Rattle.table_maker.specs.Made.{RoundBytes, RoundReady, codings_of}

module _ {from to : ℕ} (z : KeySize) (ch : List ℕ) (h : ChainBy from to z ch) where
  pub sets_permute : (l : ℕ) → l ≤ rounds z → FirstPermutations 32 (drop (512 * suc l) ch)
  sets_permute l hl k hk =
      let e : 8 * (k / 8) + k % 8 ≡ k = omega arith in
      let p = h.codings.sets l hl (k / 8) (k % 8) (omega arith) (omega arith) in
      rw e at p

  pub message_permutes : FirstPermutations 32 ch
  message_permutes k hk =
      let e : 8 * (k / 8) + k % 8 ≡ k = omega arith in
      let p = h.codings.message (k / 8) (k % 8) (omega arith) (omega arith) in
      rw e at p

  middles_permute : (l : ℕ) → l < rounds z → FirstPermutations 24 (round_bytes (rounds z) ch l)
  middles_permute l hl k hk =
      let e : 8 * (k / 8) + k % 8 ≡ k = omega arith in
      let p = h.codings.middles l (k / 8) (k % 8) hl (omega arith) (omega arith) in
      rw e at p

  masks_are : (l : ℕ) → l < rounds z → (k : ℕ) → 384 ≤ k → k < 408 → get_or (round_bytes (rounds z) ch l) k 0 < 2
  masks_are l hl k hk hk' =
      let e : 384 + (k - 384) ≡ k = omega arith in
      let p = h.masks l (k - 384) hl (omega arith) in
      rw e at p

  module _ (l : ℕ) (B A R : List ℕ) (b a n : ℕ) (hl : l < rounds z) (eB : B ≡ drop b ch) (eA : A ≡ drop a ch) (eR : R ≡ drop n ch)
      (eb : b ≡ 512 * suc l) (ea : a ≡ 512 * suc (suc l)) (en : n ≡ 512 * (rounds z + 2) + 408 * l) where
    pub round_ready : RoundReady B A R
    round_ready = record {
      before = rw (eB, eb) (sets_permute l (omega arith));
      after = rw (eA, ea) (sets_permute (suc l) hl);
      middles = rw (eR, en) (middles_permute l hl);
      masks = rw (eR, en) (masks_are l hl);
      room_before = rw (eB, length-drop) (omega (arith, h.size));
      room_after = rw (eA, length-drop) (omega (arith, h.size));
      room_middles = rw (eR, length-drop) (omega (arith, h.size));
    }

    pub codings_at : codings_of B A R ≡ round_codings (rounds z) ch l
    unfolding codings_of round_codings
    codings_at = rw (eB, eA, eR, eb, ea, en)

-- the bytes of a round are half bytes, and masks that are bits
pub round_bytes_lem : (B A R : List ℕ) → RoundReady B A R → RoundBytes R
round_bytes_lem B A R h = record {
  room = h.room_middles;
  codings = λ v l.
      let e : 16 * (v / 16) + v % 16 ≡ v = omega arith in
      let b = (h.middles (v / 16) (omega arith)).low (v % 16) (omega arith) in
      rw e at b;
  masks = h.masks;
}
