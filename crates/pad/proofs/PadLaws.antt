-- Laws of padding: a padded message is whole blocks, 1 to 65,536 of them; what PKCS#7 adds can be told from the text, and
-- taking it off gives the message.
use mathlib.Core.Path.{◌≡◌, refl, sym, ap, ◌∙◌}
use mathlib.Core.Bool.{Bool, true, false, cond, not, ◌&&◌}
use mathlib.Core.List.{List, [], ◌∷◌, ◌++◌}
use Prim.Native.Nat.{ℕ, zero, suc, ◌+◌, ◌-◌, ◌*◌, ◌/◌, ◌%◌, ◌≤◌, ◌<◌}
use native.Mathlib.Decide.{ℕ_discrete}
use native.Mathlib.Omega.{arith}
use borrow.Author.Tests.{eq-eqb, ne_eqb}
use lib.Dec.{eqb, lit<}
use lib.ListN.{length, get_or, take, replicate, length-append, length-replicate, get_or-replicate}
use lib.Seq.{length-take-le, take_at, get_or-append-add}
use Rattle.lists.specs.Blocks.{Bytes}
use Rattle.lists.proofs.BlockLaws.{bytes_append}
use Rattle.pad.specs.Padding.{sealing_added, padded_for_sealing, last_byte, SealingPadded, stripped, fills_blocks, kind_of, tag_added, padded_for_tag}

-- ---- bytes

bytes_replicate : (n v : ℕ) → v < 256 → Bytes (replicate n v)
bytes_replicate zero v h k = lit< tt
bytes_replicate (suc n) v h zero = h
bytes_replicate (suc n) v h (suc k) = bytes_replicate n v h k

-- the front of equal bytes
pub replicate_front : (k n v : ℕ) → k ≤ n → take k (replicate n v) ≡ replicate k v
replicate_front zero n v h = refl
replicate_front (suc k) zero v h = absurd (omega arith)
replicate_front (suc k) (suc n) v h = ap {B = List ℕ} (λ t. v ∷ t) (replicate_front k n v (omega arith))

-- the front of a list, as the code lends it
pub front_length : (k : ℕ) (l : List ℕ) → k ≤ length l → length (take (k - 0) l) ≡ k
front_length k l h =
    let e : k - 0 ≡ k = omega arith in
    rw e (length-take-le k l h)

-- ---- for sealing

module _ (m : List ℕ) where
  pub sealing_length : length (padded_for_sealing m) ≡ length m + sealing_added (length m)
  unfolding padded_for_sealing
  sealing_length = length-append m (replicate (sealing_added (length m)) (sealing_added (length m))) ∙ rw length-replicate

  -- what is added, as the code lends it: the front of sixteen equal bytes
  pub sealing_tail : (v : ℕ) → v ≡ sealing_added (length m) → padded_for_sealing m ≡ m ++ take (sealing_added (length m) - 0) (replicate 16 v)
  unfolding padded_for_sealing
  sealing_tail v e =
      let d : sealing_added (length m) - 0 ≡ sealing_added (length m) = omega arith in
      ap {B = List ℕ} (λ t. m ++ t) (sym (rw (d, e) (replicate_front (sealing_added (length m)) 16 (sealing_added (length m)) (omega arith))))

  -- whole blocks, one at least, and at most 1,048,576 bytes
  pub sealing_blocks : length (padded_for_sealing m) ≡ 16 * (length m / 16 + 1)
  sealing_blocks = sealing_length ∙ omega arith

  pub sealing_most : length m ≤ 1048575 → length (padded_for_sealing m) ≤ 1048576
  sealing_most h = omega (arith, sealing_blocks)

  pub sealing_bytes : Bytes m → Bytes (padded_for_sealing m)
  unfolding padded_for_sealing
  sealing_bytes h =
      bytes_append m (replicate (sealing_added (length m)) (sealing_added (length m))) h
      (bytes_replicate (sealing_added (length m)) (sealing_added (length m)) (omega arith))

  sealing_at : (k : ℕ) → k < sealing_added (length m) → get_or (padded_for_sealing m) (length m + k) 0 ≡ sealing_added (length m)
  unfolding padded_for_sealing
  sealing_at k h =
      get_or-append-add m (replicate (sealing_added (length m)) (sealing_added (length m))) k 0
      ∙ get_or-replicate (sealing_added (length m)) k (sealing_added (length m)) 0 h

  -- the last byte says how many were added
  pub sealing_last : last_byte (padded_for_sealing m) ≡ sealing_added (length m)
  sealing_last =
      let e : length (padded_for_sealing m) - 1 ≡ length m + (sealing_added (length m) - 1) = omega (arith, sealing_length) in
      ap (λ (k : ℕ). get_or (padded_for_sealing m) k 0) e ∙ sealing_at (sealing_added (length m) - 1) (omega arith)

  -- a padded message ends in PKCS#7 padding, and without it is the message
  pub sealing_padded : SealingPadded (padded_for_sealing m)
  sealing_padded = record {
    some = omega (arith, sealing_last);
    most = omega (arith, sealing_last);
    room = omega (arith, sealing_last, sealing_length);
    all = λ k h.
        let e : length (padded_for_sealing m) - last_byte (padded_for_sealing m) + k ≡ length m + k = omega (arith, sealing_last, sealing_length) in
        ap (λ (i : ℕ). get_or (padded_for_sealing m) i 0) e ∙ sealing_at k (omega (arith, sealing_last)) ∙ sym sealing_last;
  }

  sealing_front : take (length m) (padded_for_sealing m) ≡ m
  unfolding padded_for_sealing
  sealing_front = take_at m (replicate (sealing_added (length m)) (sealing_added (length m))) (length m) refl

  pub strip_padded : stripped (padded_for_sealing m) ≡ m
  unfolding stripped
  strip_padded =
      let e : length (padded_for_sealing m) - last_byte (padded_for_sealing m) ≡ length m = omega (arith, sealing_last, sealing_length) in
      ap (λ (n : ℕ). take n (padded_for_sealing m)) e ∙ sealing_front

-- ---- for a tag

-- the three cases of a message's length
module _ (n : ℕ) where
  pub fills_empty : n ≡ 0 → fills_blocks n ≡ false
  unfolding fills_blocks
  fills_empty h = rw (eq-eqb n 0 h)

  pub fills_whole : (n ≡ 0 → ⊥) → n % 16 ≡ 0 → fills_blocks n ≡ true
  unfolding fills_blocks
  fills_whole h e = rw (ne_eqb n 0 h, eq-eqb (n % 16) 0 e)

  pub fills_part : (n % 16 ≡ 0 → ⊥) → fills_blocks n ≡ false
  unfolding fills_blocks
  fills_part h = rw (ne_eqb (n % 16) 0 h) (and_no (not (eqb n 0)))
    where
      and_no : (b : Bool) → b && false ≡ false
      and_no true = refl
      and_no false = refl

  pub kind_empty : n ≡ 0 → kind_of n ≡ 1
  unfolding kind_of
  kind_empty h = rw (fills_empty h)

  pub kind_whole : (n ≡ 0 → ⊥) → n % 16 ≡ 0 → kind_of n ≡ 0
  unfolding kind_of
  kind_whole h e = rw (fills_whole h e)

  pub kind_part : (n % 16 ≡ 0 → ⊥) → kind_of n ≡ 1
  unfolding kind_of
  kind_part h = rw (fills_part h)

  -- a kind is 0 or 1
  pub kind_most : kind_of n ≤ 1
  unfolding kind_of
  kind_most = go (fills_blocks n)
    where
      go : (b : Bool) → cond {A = ℕ} b 0 1 ≤ 1
      go true = omega arith
      go false = omega arith

  -- how many bytes are added, by the kind
  pub added_none : kind_of n ≡ 0 → tag_added n ≡ 0
  unfolding kind_of tag_added
  added_none = go (fills_blocks n)
    where
      go : (b : Bool) → cond {A = ℕ} b 0 1 ≡ 0 → cond b 0 (16 - n % 16) ≡ 0
      go true e = refl
      go false e = absurd (omega arith)

  pub added_some : (kind_of n ≡ 0 → ⊥) → tag_added n ≡ 16 - n % 16
  unfolding kind_of tag_added
  added_some = go (fills_blocks n)
    where
      go : (b : Bool) → (cond {A = ℕ} b 0 1 ≡ 0 → ⊥) → cond b 0 (16 - n % 16) ≡ 16 - n % 16
      go true h = absurd (h refl)
      go false h = refl

  pub added_most : tag_added n ≤ 16
  unfolding tag_added
  added_most = go (fills_blocks n)
    where
      go : (b : Bool) → cond b 0 (16 - n % 16) ≤ 16
      go true = omega arith
      go false = omega arith

module _ (m : List ℕ) where
  -- what is added, as the code lends it: the front of hex 80 and fifteen zeros
  pub tag_tail : (k : ℕ) → k ≡ tag_added (length m) → padded_for_tag m ≡ m ++ take (k - 0) (0x80 ∷ replicate 15 0)
  unfolding padded_for_tag tag_added
  tag_tail k e =
      let d : k - 0 ≡ tag_added (length m) = omega arith in
      ap {B = List ℕ} (λ t. m ++ t) (go (fills_blocks (length m)) ∙ ap (λ (j : ℕ). take j (0x80 ∷ replicate 15 0)) (sym d))
    where
      go : (b : Bool) → cond {A = List ℕ} b [] (0x80 ∷ replicate (15 - length m % 16) 0) ≡ take (cond b 0 (16 - length m % 16)) (0x80 ∷ replicate 15 0)
      go true = refl
      go false =
          let e : 16 - length m % 16 ≡ suc (15 - length m % 16) = omega arith in
          rw e (ap {B = List ℕ} (λ t. 0x80 ∷ t) (sym (replicate_front (15 - length m % 16) 15 0 (omega arith))))

  pub tag_length : length (padded_for_tag m) ≡ length m + tag_added (length m)
  unfolding padded_for_tag tag_added
  tag_length = length-append m (cond (fills_blocks (length m)) [] (0x80 ∷ replicate (15 - length m % 16) 0)) ∙ ap (λ (k : ℕ). length m + k) (go (fills_blocks (length m)))
    where
      go : (b : Bool) → length (cond {A = List ℕ} b [] (0x80 ∷ replicate (15 - length m % 16) 0)) ≡ cond b 0 (16 - length m % 16)
      go true = refl
      go false = rw length-replicate (omega arith)

  -- by the number of bytes that the code adds
  pub tag_total : (k : ℕ) → k ≡ tag_added (length m) → length (padded_for_tag m) ≡ length m + k
  tag_total k e = tag_length ∙ ap (λ (j : ℕ). length m + j) (sym e)

  -- whole blocks, one at least, and at most 1,048,576 bytes
  pub tag_blocks : length (padded_for_tag m) ≡ 16 * ((length m - 1) / 16 + 1)
  tag_blocks = go (ℕ_discrete (length m) 0) (ℕ_discrete (length m % 16) 0)
    where
      go : Dec (length m ≡ 0) → Dec (length m % 16 ≡ 0) → length (padded_for_tag m) ≡ 16 * ((length m - 1) / 16 + 1)
      go (yes z) d = omega (arith, tag_length, added_some (length m) (λ e. omega (arith, kind_empty (length m) z)))
      go (no a) (yes z) = omega (arith, tag_length, added_none (length m) (kind_whole (length m) a z))
      go (no a) (no b) = omega (arith, tag_length, added_some (length m) (λ e. omega (arith, kind_part (length m) b)))

  pub tag_most : length m ≤ 1048575 → length (padded_for_tag m) ≤ 1048576
  tag_most h = omega (arith, tag_blocks)

  pub tag_bytes : Bytes m → Bytes (padded_for_tag m)
  unfolding padded_for_tag
  tag_bytes h = bytes_append m (cond (fills_blocks (length m)) [] (0x80 ∷ replicate (15 - length m % 16) 0)) h (go (fills_blocks (length m)))
    where
      go : (b : Bool) → Bytes (cond {A = List ℕ} b [] (0x80 ∷ replicate (15 - length m % 16) 0))
      go true k = lit< tt
      go false zero = lit< tt
      go false (suc k) = bytes_replicate (15 - length m % 16) 0 (lit< tt) k
