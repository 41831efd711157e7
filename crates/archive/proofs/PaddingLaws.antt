-- Padding at the end of a text is padding at the end of its last block.
use mathlib.Core.Path.{◌≡◌, refl, sym, ap, ◌∙◌}
use mathlib.Core.Bool.{Bool, true, false, cond, ◌&&◌}
use mathlib.Core.List.{List, ◌++◌}
use Prim.Native.Nat.{ℕ, ◌+◌, ◌-◌, ◌≤◌, ◌<◌}
use native.Mathlib.Omega.{arith}
use borrow.Author.Tests.{le-leb, lt-leb, leb-true}
use lib.Dec.{leb, eqb}
use lib.ListN.{length, get_or, take, drop, length-append, length-drop}
use lib.Seq.{length-take-le, get_or-take, get_or-drop, get_or-append-add, take-append-add}
use Rattle.std.specs.Prelude.{Option, Some, None}
use Rattle.std.specs.List.{list_all}
use Rattle.std.proofs.lemmas.Option.{none-some, same_Some}
use Rattle.lists.specs.Every.{every}
use Rattle.lists.proofs.EveryLaws.{and_true, every_ext}
use Rattle.lists.proofs.AllLaws.{all_items}
use Rattle.archive.specs.Archive.{last_byte, ends_padded, unpadded}

-- ---- the answers of the test on a block

-- how many bytes of padding it ends with, as the code says it
abbrev pub padded : List ℕ → Option ℕ
padded b = cond (ends_padded b) (Some (last_byte b)) None

-- all of its last v bytes
pub all_last : (b : List ℕ) (v : ℕ) (p : ℕ → Bool) → length b ≡ 16 → v ≤ 16
    → list_all p (take (16 - (16 - v)) (drop (16 - v) b)) ≡ every v (λ k. p (get_or b (16 - v + k) 0))
all_last b v p l h =
    let s = take (16 - (16 - v)) (drop (16 - v) b) in
    let n : length s ≡ v = length-take-le (16 - (16 - v)) (drop (16 - v) b) (omega (arith, length-drop (16 - v) b)) ∙ omega arith in
    all_items s p
    ∙ ap (λ (m : ℕ). every m (λ k. p (get_or s k 0))) n
    ∙ every_ext v _ _ (λ k i. ap p (get_or-take (16 - (16 - v)) (drop (16 - v) b) k 0 (omega arith) ∙ get_or-drop (16 - v) b k 0))

module _ (b : List ℕ) (l : length b ≡ 16) where
  last_is : last_byte b ≡ get_or b 15 0
  last_is = rw l

  pub padding_low : get_or b 15 0 ≡ 0 → padded b ≡ None
  unfolding ends_padded
  padding_low h = rw (last_is, h)

  pub padding_high : 16 < get_or b 15 0 → padded b ≡ None
  unfolding ends_padded
  padding_high h = rw (last_is, lt-leb (get_or b 15 0) 16 h, le-leb 1 (get_or b 15 0) (omega arith))

  module _ (v : ℕ) (e : v ≡ get_or b 15 0) (lo : 1 ≤ v) (hi : v ≤ 16) where
    ends_is : ends_padded b ≡ every v (λ k. eqb (get_or b (16 - v + k) 0) v)
    unfolding ends_padded
    ends_is = rw (last_is, l, sym e, le-leb 1 v lo, le-leb v 16 hi)

    pub padding_all : every v (λ k. eqb (get_or b (16 - v + k) 0) v) ≡ true → Some v ≡ padded b
    padding_all h = ap Some (e ∙ sym last_is) ∙ sym (rw (ends_is, h))

    pub padding_not : every v (λ k. eqb (get_or b (16 - v + k) 0) v) ≡ false → None ≡ padded b
    padding_not h = sym (rw (ends_is, h))

-- ---- a text that ends with the block b

module _ (a b : List ℕ) (l : length b ≡ 16) where
  whole : length (a ++ b) ≡ length a + 16
  whole = length-append a b ∙ ap (λ (n : ℕ). length a + n) l

  pub last_text : last_byte (a ++ b) ≡ last_byte b
  last_text =
      let e : length (a ++ b) - 1 ≡ length a + (length b - 1) = omega (arith, whole) in
      ap (λ (n : ℕ). get_or (a ++ b) n 0) e ∙ get_or-append-add a b (length b - 1) 0

  pub ends_text : ends_padded (a ++ b) ≡ ends_padded b
  unfolding ends_padded
  ends_text = rw last_text (go (leb (last_byte b) 16) refl)
    where
      go : (t : Bool) → leb (last_byte b) 16 ≡ t
          → leb 1 (last_byte b) && t && every (last_byte b) (λ k. eqb (get_or (a ++ b) (length (a ++ b) - last_byte b + k) 0) (last_byte b))
          ≡ leb 1 (last_byte b) && t && every (last_byte b) (λ k. eqb (get_or b (length b - last_byte b + k) 0) (last_byte b))
      go true e =
          let h = leb-true (last_byte b) 16 e in
          ap (λ (q : Bool). leb 1 (last_byte b) && true && q)
          (every_ext (last_byte b)
          (λ k. eqb (get_or (a ++ b) (length (a ++ b) - last_byte b + k) 0) (last_byte b))
          (λ k. eqb (get_or b (length b - last_byte b + k) 0) (last_byte b))
          (λ k i.
          let w : length (a ++ b) - last_byte b + k ≡ length a + (length b - last_byte b + k) = omega (arith, whole) in
          ap (λ (n : ℕ). eqb n (last_byte b)) (ap (λ (n : ℕ). get_or (a ++ b) n 0) w ∙ get_or-append-add a b (length b - last_byte b + k) 0)))
      go false e = go_false (leb 1 (last_byte b))
        where
          go_false : (s : Bool) → s && false && every (last_byte b) (λ k. eqb (get_or (a ++ b) (length (a ++ b) - last_byte b + k) 0) (last_byte b))
              ≡ s && false && every (last_byte b) (λ k. eqb (get_or b (length b - last_byte b + k) 0) (last_byte b))
          go_false true = refl
          go_false false = refl

  pub unpadded_text : last_byte b ≤ 16 → unpadded (a ++ b) ≡ a ++ take (16 - last_byte b) b
  unfolding unpadded
  unpadded_text h =
      let e : length (a ++ b) - last_byte (a ++ b) ≡ length a + (16 - last_byte b) = omega (arith, whole, last_text) in
      ap (λ (n : ℕ). take n (a ++ b)) e ∙ take-append-add a b (16 - last_byte b)

-- ---- what the number of padding bytes tells

ends_range : (b : List ℕ) → ends_padded b ≡ true → (1 ≤ last_byte b) × (last_byte b ≤ 16)
unfolding ends_padded
ends_range b e =
    let p = and_true (leb 1 (last_byte b) && leb (last_byte b) 16) (every (last_byte b) (λ k. eqb (get_or b (length b - last_byte b + k) 0) (last_byte b))) e in
    let q = and_true (leb 1 (last_byte b)) (leb (last_byte b) 16) p.0 in
    (leb-true 1 (last_byte b) q.0, leb-true (last_byte b) 16 q.1)

pub padding_none : (b : List ℕ) → padded b ≡ None → ends_padded b ≡ false
padding_none b e = go (ends_padded b) refl
  where
    go : (t : Bool) → ends_padded b ≡ t → ends_padded b ≡ false
    go false w = w
    go true w = absurd (none-some (last_byte b) (sym e ∙ rw w))

pub padding_some : (b : List ℕ) (v : ℕ) → padded b ≡ Some v → (ends_padded b ≡ true) × (v ≡ last_byte b) × (last_byte b ≤ 16)
padding_some b v e = go (ends_padded b) refl
  where
    go : (t : Bool) → ends_padded b ≡ t → (ends_padded b ≡ true) × (v ≡ last_byte b) × (last_byte b ≤ 16)
    go true w = (w, same_Some v (last_byte b) (sym e ∙ rw w), (ends_range b w).1)
    go false w = absurd (none-some v (sym (sym e ∙ rw w)))

pub few : (b : List ℕ) (v : ℕ) → padded b ≡ Some v → v ≤ 16
few b v e = let p = padding_some b v e in omega (arith, p.1, p.2)
