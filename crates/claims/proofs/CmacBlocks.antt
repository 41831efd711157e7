-- CMAC block by block, as the model session makes it: the padded message's blocks, all but the last enciphered in a chain, the
-- last one under the key of the message's kind.
use mathlib.Core.Path.{◌≡◌, refl, ap, ap₂, ◌∙◌}
use mathlib.Core.Bool.{true, false, cond}
use mathlib.Core.List.{List, [], ◌∷◌, ◌++◌, append-nil}
use Prim.Native.Nat.{ℕ, zero, suc, ◌-◌, ◌*◌, ◌/◌, ◌%◌, ◌≤◌}
use native.Mathlib.Decide.{ℕ_discrete}
use native.Mathlib.Omega.{arith}
use borrow.Author.Tests.{eq-eqb, ne_eqb}
use lib.Bits.{bit_xor}
use lib.ListN.{length, get_or, take, drop, replicate, length-append, length-drop}
use lib.Seq.{take_all, take-append-le, drop-append-le}
use Rattle.lists.specs.Blocks.{zeros, xor_block, cut, blocks}
use Rattle.lists.proofs.TabulationLaws.{tab_ext}
use Rattle.lists.proofs.XorLaws.{xor_assoc}
use Rattle.lists.proofs.BlockLaws.{xor_at, cut_more}
use Rattle.cipher.specs.Cmac.{cbc_mac, blocks_before, last_block, cmac}
use Rattle.pad.specs.Padding.{fills_blocks, kind_of, padded_for_tag}
use Rattle.pad.proofs.PadLaws.{fills_empty, fills_whole, fills_part, tag_blocks}
use Rattle.claims.specs.Model.{kind_key}

-- ---- a chain whose last block is enciphered under the key k

unfoldable pub mac_of : (List ℕ → List ℕ) → List ℕ → List ℕ → List (List ℕ) → List ℕ
mac_of E k x [] = x
mac_of E k x (b ∷ []) = E (xor_block (xor_block x b) k)
mac_of E k x (b ∷ c ∷ bs) = mac_of E k (E (xor_block x b)) (c ∷ bs)

mac_last : (E : List ℕ → List ℕ) (k x : List ℕ) (bs : List (List ℕ)) (b : List ℕ)
    → mac_of E k x (bs ++ (b ∷ [])) ≡ E (xor_block (xor_block (cbc_mac E x bs) b) k)
unfolding mac_of cbc_mac
mac_last E k x [] b = refl
mac_last E k x (c ∷ []) b = refl
mac_last E k x (c ∷ d ∷ bs) b = mac_last E k (E (xor_block x c)) (d ∷ bs) b

xor_block_assoc : (a b c : List ℕ) → xor_block (xor_block a b) c ≡ xor_block a (xor_block b c)
unfolding xor_block
xor_block_assoc a b c =
    tab_ext 16 (λ k. bit_xor (get_or (xor_block a b) k 0) (get_or c k 0)) (λ k. bit_xor (get_or a k 0) (get_or (xor_block b c) k 0)) (λ k h.
    rw (xor_at a b k h, xor_at b c k h) (xor_assoc (get_or a k 0) (get_or b k 0) (get_or c k 0)))

-- ---- a text with more after it

cut_front : (n : ℕ) (m t : List ℕ) → 16 * n ≤ length m → cut n (m ++ t) ≡ cut n m
unfolding cut
cut_front zero m t h = refl
cut_front (suc n) m t h =
    ap₂ {C = List (List ℕ)} (λ (b : List ℕ) (bs : List (List ℕ)). b ∷ bs) (take-append-le 16 m t (omega arith))
    (ap (cut n) (drop-append-le 16 m t (omega arith)) ∙ cut_front n (drop 16 m) t (omega (arith, length-drop 16 m)))

-- ---- the padded message

module _ (E : List ℕ → List ℕ) (m : List ℕ) where
  abbrev n : ℕ
  n = blocks_before (length m)

  abbrev rest : List ℕ
  rest = drop (16 * n) m

  abbrev added : List ℕ
  added = cond (fills_blocks (length m)) [] (0x80 ∷ replicate (15 - length m % 16) 0)

  before : 16 * n ≤ length m
  unfolding blocks_before
  before = omega arith

  rest_length : length rest ≡ length m - 16 * n
  rest_length = length-drop (16 * n) m

  last_piece : take 16 (drop (16 * n) (padded_for_tag m)) ≡ rest ++ added
  unfolding padded_for_tag blocks_before
  last_piece =
      ap (take 16) (drop-append-le (16 * n) m added before)
      ∙ take_all 16 (rest ++ added) (omega (arith, length-append rest added, rest_length, length-append m added, tag_blocks m))

  front : cut n (padded_for_tag m) ≡ cut n m
  unfolding padded_for_tag
  front = cut_front n m added before

  pieces : blocks (padded_for_tag m) ≡ cut n m ++ ((rest ++ added) ∷ [])
  unfolding blocks blocks_before
  pieces =
      let e : length (padded_for_tag m) / 16 ≡ suc n = omega (arith, tag_blocks m) in
      ap (λ (k : ℕ). cut k (padded_for_tag m)) e
      ∙ cut_more n (padded_for_tag m)
      ∙ ap₂ {C = List (List ℕ)} (λ (bs : List (List ℕ)) (b : List ℕ). bs ++ (b ∷ [])) front last_piece

  -- the last block under its key, by the message's length
  key_whole_lem : fills_blocks (length m) ≡ true → length rest ≡ 16 → xor_block (rest ++ added) (kind_key E (kind_of (length m))) ≡ last_block E rest
  unfolding kind_of kind_key last_block
  key_whole_lem f l = rw (f, eq-eqb (length rest) 16 l, append-nil)

  key_part_lem : fills_blocks (length m) ≡ false → length rest ≡ length m % 16 → xor_block (rest ++ added) (kind_key E (kind_of (length m))) ≡ last_block E rest
  unfolding kind_of kind_key last_block
  key_part_lem f l =
      let d : 15 - length m % 16 ≡ 15 - length rest = omega arith in
      rw (f, ne_eqb (length rest) 16 (λ w. omega arith), d)

  last_keyed : xor_block (rest ++ added) (kind_key E (kind_of (length m))) ≡ last_block E rest
  unfolding blocks_before
  last_keyed = go (ℕ_discrete (length m) 0) (ℕ_discrete (length m % 16) 0)
    where
      go : Dec (length m ≡ 0) → Dec (length m % 16 ≡ 0) → xor_block (rest ++ added) (kind_key E (kind_of (length m))) ≡ last_block E rest
      go (yes a) b = key_part_lem (fills_empty (length m) a) (omega (arith, rest_length))
      go (no a) (yes b) = key_whole_lem (fills_whole (length m) a b) (omega (arith, rest_length))
      go (no a) (no b) = key_part_lem (fills_part (length m) b) (omega (arith, rest_length))

  pub mac_is_cmac : mac_of E (kind_key E (kind_of (length m))) zeros (blocks (padded_for_tag m)) ≡ cmac E m
  unfolding cmac
  mac_is_cmac =
      let K = kind_key E (kind_of (length m)) in
      let X = cbc_mac E zeros (cut n m) in
      ap (mac_of E K zeros) pieces
      ∙ mac_last E K zeros (cut n m) (rest ++ added)
      ∙ ap E (xor_block_assoc X (rest ++ added) K ∙ ap (xor_block X) last_keyed)
