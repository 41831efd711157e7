-- The padding of a message of at most 55 bytes makes one block of it, and is three stores into a copy of the message.
use Rattle.std.proofs.Common.{◌≡◌, ℕ, suc, ◌+◌, ◌-◌, ◌*◌, ◌/◌, ◌%◌, ◌≤◌, List, [], ◌∷◌, ◌++◌, length, take, drop, set, replicate, refl, sym, ap, ◌∙◌, ap₂, append_assoc, arith, length-append}
use Rattle.std.proofs.lemmas.List.{drop-replicate}
use Rattle.std.specs.Int.{w64, to_be_bytes}
use mathlib.Core.List.{append-nil}
use lib.ListN.{length-replicate, replicate-append-replicate}
use lib.Seq.{set_at, take_at, drop_at}
use Rattle.sha256.specs.Sha256.{big_endian, padded}

-- the eight bytes of a number, highest first, as the library has them
eight_bytes : (x : ℕ) → to_be_bytes w64 x ≡ big_endian 8 x
unfolding big_endian
eight_bytes x =
    let e2 : x / 65536 ≡ x / 256 / 256 = omega arith in
    let e3 : x / 16777216 ≡ x / 256 / 256 / 256 = omega arith in
    let e4 : x / 4294967296 ≡ x / 256 / 256 / 256 / 256 = omega arith in
    let e5 : x / 1099511627776 ≡ x / 256 / 256 / 256 / 256 / 256 = omega arith in
    let e6 : x / 281474976710656 ≡ x / 256 / 256 / 256 / 256 / 256 / 256 = omega arith in
    let e7 : x / 72057594037927936 ≡ x / 256 / 256 / 256 / 256 / 256 / 256 / 256 = omega arith in
    λ i. e7 i % 256 ∷ e6 i % 256 ∷ e5 i % 256 ∷ e4 i % 256 ∷ e3 i % 256 ∷ e2 i % 256 ∷ x / 256 % 256 ∷ x % 256 ∷ []

length_eight : (x : ℕ) → length (big_endian 8 x) ≡ 8
unfolding big_endian
length_eight x = refl

-- m put over the front of 64 zeros, as the borrow checker writes it
pub put_in_zeros : (m q : List ℕ) → q ≡ m → q ++ drop (length m - 0) (replicate 64 0) ≡ m ++ replicate (64 - length m) 0
put_in_zeros m q f =
    let e : length m - 0 ≡ length m = omega arith in
    ap₂ (λ (l : List ℕ) (k : ℕ). l ++ drop k (replicate 64 0)) f e ∙ ap (λ (l : List ℕ). m ++ l) (drop-replicate (length m) 64 0)

module _ (m : List ℕ) (n : ℕ) (e : length m ≡ n) (h : n ≤ 55) where
  -- all of the block but the message's length
  abbrev front : List ℕ
  front = m ++ (0x80 ∷ replicate (55 - n) 0)

  front_length : length front ≡ 56
  front_length = length-append m _ ∙ omega (arith, length-replicate {A = ℕ} (55 - n) 0)

  padded_is : padded m ≡ front ++ big_endian 8 (8 * n)
  unfolding padded
  padded_is =
      let z : (64 + 55 - n % 64) % 64 ≡ 55 - n = omega arith in
      ap (λ (j : ℕ). m ++ (0x80 ∷ (replicate ((64 + 55 - j % 64) % 64) 0 ++ big_endian 8 (8 * j)))) e
      ∙ ap (λ (j : ℕ). m ++ (0x80 ∷ (replicate j 0 ++ big_endian 8 (8 * n)))) z
      ∙ sym (append_assoc m (0x80 ∷ replicate (55 - n) 0) (big_endian 8 (8 * n)))

  pub padded_length : length (padded m) ≡ 64
  padded_length = ap length padded_is ∙ length-append front _ ∙ rw (front_length, length_eight (8 * n))

  -- the one bit stored behind the message
  opened : set (m ++ replicate (64 - n) 0) n 0x80 ≡ front ++ replicate 8 0
  opened =
      let k : 64 - n ≡ suc (55 - n + 8) = omega arith in
      ap (λ (j : ℕ). set (m ++ replicate j 0) n 0x80) k
      ∙ ap (λ (l : List ℕ). set (m ++ (0 ∷ l)) n 0x80) (sym (replicate-append-replicate (55 - n) 8 0))
      ∙ set_at m 0 (replicate (55 - n) 0 ++ replicate 8 0) 0x80 n e
      ∙ sym (append_assoc m (0x80 ∷ replicate (55 - n) 0) (replicate 8 0))

  -- and the length in bits put over the last eight bytes, as the borrow checker writes it
  pub padded_stored : (p q : List ℕ) → p ≡ m ++ replicate (64 - n) 0 → q ≡ to_be_bytes w64 (8 * n)
      → take 56 (set p n 0x80) ++ (q ++ drop 8 (drop 56 (set p n 0x80))) ≡ padded m
  padded_stored p q ep eq =
      let put : List ℕ → List ℕ → List ℕ = λ l b. take 56 l ++ (b ++ drop 8 (drop 56 l)) in
      let long : List ℕ = big_endian 8 (8 * n) in
      ap₂ put (ap (λ (l : List ℕ). set l n 0x80) ep ∙ opened) (eq ∙ eight_bytes (8 * n))
      ∙ ap₂ {C = List ℕ} (λ (a b : List ℕ). a ++ (long ++ drop 8 b)) (take_at front (replicate 8 0) 56 front_length) (drop_at front (replicate 8 0) 56 front_length)
      ∙ ap (λ (l : List ℕ). front ++ l) (append-nil long)
      ∙ sym padded_is
