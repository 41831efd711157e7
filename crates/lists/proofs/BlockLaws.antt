-- Laws of blocks of 16 bytes: xor, and a text cut into its blocks and put together again.
use mathlib.Core.Path.{◌≡◌, refl, sym, ap, ap₂, ◌∙◌}
use mathlib.Core.List.{List, [], ◌∷◌, ◌++◌, flatten, append_assoc, append-nil}
use Prim.Native.Nat.{ℕ, zero, suc, ◌+◌, ◌*◌, ◌/◌, ◌<◌}
use native.Mathlib.Decide.{dec_lt}
use native.Mathlib.Omega.{arith}
use lib.Dec.{lit<}
use lib.Bits.{bit_xor, xor_lt, xor_zero_r}
use lib.ListN.{length, get_or, take, drop, length-append, length-drop, take-append-drop, get_or-eq_default}
use lib.Seq.{get_or-drop, take_at, drop_at, drop-drop, length-take-le}
use Rattle.lists.specs.Tabulation.{tab, chunks}
use Rattle.lists.specs.Blocks.{Bytes, Block, zeros, xor_block, block_of, block_before, each_after, cut, blocks}
use Rattle.lists.proofs.TabulationLaws.{length_tab, get_or_tab, tab_is, tab_below, get_d_replicate}
use Rattle.lists.proofs.XorLaws.{xor_cancel}

-- what a slice of bytes tells
pub bytes_of_lem : (l : List ℕ) → ((k : ℕ) → k < length l → get_or l k 0 < 256) → Bytes l
bytes_of_lem l h k = go (dec_lt k (length l))
  where
    go : Dec (k < length l) → get_or l k 0 < 256
    go (yes a) = h k a
    go (no a) = rw (get_or-eq_default l 0 {n = k} (omega arith)) (lit< tt)

pub block_tab : (f : ℕ → ℕ) → ((k : ℕ) → k < 16 → f k < 256) → Block (tab 16 f)
block_tab f h = record { size = length_tab 16 f; bytes = tab_below 256 16 f (lit< tt) h }

pub block_zeros : Block zeros
block_zeros = record { size = refl; bytes = λ k. rw (get_d_replicate 16 0 k) (lit< tt) }

-- ---- xor

pub xor_at : (a b : List ℕ) (k : ℕ) → k < 16 → get_or (xor_block a b) k 0 ≡ bit_xor (get_or a k 0) (get_or b k 0)
unfolding xor_block
xor_at a b k h = get_or_tab 16 (λ k. bit_xor (get_or a k 0) (get_or b k 0)) k h

pub block_xor : (a b : List ℕ) → Bytes a → Bytes b → Block (xor_block a b)
unfolding xor_block
block_xor a b ha hb =
    block_tab (λ k. bit_xor (get_or a k 0) (get_or b k 0)) (λ k h. xor_lt 8 (get_or a k 0) (get_or b k 0) (ha k) (hb k))

pub xor_block_cancel : (a b : List ℕ) → Block a → xor_block (xor_block a b) b ≡ a
unfolding xor_block
xor_block_cancel a b h =
    tab_is 16 (λ k. bit_xor (get_or (xor_block a b) k 0) (get_or b k 0)) a h.size (λ k l.
    rw (xor_at a b k l) (xor_cancel (get_or a k 0) (get_or b k 0)))

pub xor_block_zeros : (a : List ℕ) → Block a → xor_block a zeros ≡ a
unfolding xor_block
xor_block_zeros a h =
    tab_is 16 (λ k. bit_xor (get_or a k 0) (get_or zeros k 0)) a h.size (λ k l. rw (get_d_replicate 16 0 k) (xor_zero_r (get_or a k 0)))

-- ---- a text and its blocks

-- every list of bs is a block
pub data Blocks : List (List ℕ) → Type 0 where
  none : Blocks []
  more : {b : List ℕ} {bs : List (List ℕ)} → Block b → Blocks bs → Blocks (b ∷ bs)

cut_flatten : (bs : List (List ℕ)) → Blocks bs → cut (length bs) (flatten bs) ≡ bs
unfolding cut flatten
cut_flatten [] none = refl
cut_flatten (b ∷ bs) (more h hs) = rw (take_at b (flatten bs) 16 h.size, drop_at b (flatten bs) 16 h.size, cut_flatten bs hs)

pub length_flatten : (bs : List (List ℕ)) → Blocks bs → length (flatten bs) ≡ 16 * length bs
unfolding flatten
length_flatten [] none = refl
length_flatten (b ∷ bs) (more h hs) = rw (length-append b (flatten bs), h.size, length_flatten bs hs) (omega arith)

-- blocks put one after the other, and cut again
pub blocks_flatten : (bs : List (List ℕ)) → Blocks bs → blocks (flatten bs) ≡ bs
unfolding blocks
blocks_flatten bs h = let e : length (flatten bs) / 16 ≡ length bs = omega (arith, length_flatten bs h) in rw e (cut_flatten bs h)

-- bytes and bytes after them
pub bytes_append : (a b : List ℕ) → Bytes a → Bytes b → Bytes (a ++ b)
bytes_append [] b ha hb k = hb k
bytes_append (x ∷ a) b ha hb zero = ha zero
bytes_append (x ∷ a) b ha hb (suc k) = bytes_append a b (λ i. ha (suc i)) hb k

pub bytes_drop : (n : ℕ) (l : List ℕ) → Bytes l → Bytes (drop n l)
bytes_drop n l h k = rw (get_or-drop n l k 0) (h (n + k))

pub bytes_take : (n : ℕ) (l : List ℕ) → Bytes l → Bytes (take n l)
bytes_take zero l h k = lit< tt
bytes_take (suc n) [] h k = lit< tt
bytes_take (suc n) (x ∷ l) h zero = h zero
bytes_take (suc n) (x ∷ l) h (suc k) = bytes_take n l (λ i. h (suc i)) k

flatten_cut : (n : ℕ) (l : List ℕ) → length l ≡ 16 * n → flatten (cut n l) ≡ l
unfolding cut flatten
flatten_cut zero [] e = refl
flatten_cut zero (x ∷ l) e = absurd (omega arith)
flatten_cut (suc n) l e = rw (flatten_cut n (drop 16 l) (omega (arith, length-drop 16 l))) (take-append-drop 16 l)

cut_blocks : (n : ℕ) (l : List ℕ) → length l ≡ 16 * n → Bytes l → Blocks (cut n l)
unfolding cut
cut_blocks zero l e h = none
cut_blocks (suc n) l e h =
    more (record { size = length-take-le 16 l (omega arith); bytes = bytes_take 16 l h })
    (cut_blocks n (drop 16 l) (omega (arith, length-drop 16 l)) (bytes_drop 16 l h))

length_cut : (n : ℕ) (l : List ℕ) → length (cut n l) ≡ n
unfolding cut
length_cut zero l = refl
length_cut (suc n) l = ap suc (length_cut n (drop 16 l))

-- one block more, at the end, as a loop goes
pub cut_more : (n : ℕ) (l : List ℕ) → cut (suc n) l ≡ cut n l ++ (take 16 (drop (16 * n) l) ∷ [])
unfolding cut
cut_more zero l = refl
cut_more (suc n) l =
    let e : 16 * suc n ≡ 16 + 16 * n = omega arith in
    ap {B = List (List ℕ)} (λ r. take 16 l ∷ r) (cut_more n (drop 16 l) ∙ rw (drop-drop (16 * n) 16 l, e))

pub flatten_more : (bs : List (List ℕ)) (b : List ℕ) → flatten (bs ++ (b ∷ [])) ≡ flatten bs ++ b
unfolding flatten
flatten_more [] b = append-nil b
flatten_more (c ∷ bs) b = ap {B = List ℕ} (λ r. c ++ r) (flatten_more bs b) ∙ sym (append_assoc c (flatten bs) b)

-- a text of n whole blocks
module _ (l : List ℕ) (n : ℕ) (e : length l ≡ 16 * n) where
  count : length l / 16 ≡ n
  count = omega arith

  pub flatten_blocks : flatten (blocks l) ≡ l
  unfolding blocks
  flatten_blocks = rw count (flatten_cut n l e)

  pub blocks_blocks : Bytes l → Blocks (blocks l)
  unfolding blocks
  blocks_blocks h = rw count (cut_blocks n l e h)

  pub length_blocks : length (blocks l) ≡ n
  unfolding blocks
  length_blocks = rw count (length_cut n l)

-- ---- each block with the one before it, block by block as a loop goes

-- the last of the blocks, or x where there is none
last_or : List ℕ → List (List ℕ) → List ℕ
last_or x [] = x
last_or x (b ∷ bs) = last_or b bs

last_more : (x : List ℕ) (bs : List (List ℕ)) (b : List ℕ) → last_or x (bs ++ (b ∷ [])) ≡ b
unfolding last_or
last_more x [] b = refl
last_more x (c ∷ bs) b = last_more c bs b

before_is : (x text : List ℕ) (n : ℕ) → last_or x (cut n text) ≡ block_before x text n
unfolding last_or block_before cut
before_is x text zero = refl
before_is x text (suc n) = ap (last_or x) (cut_more n text) ∙ last_more x (cut n text) (block_of text n)

module _ (g : List ℕ → List ℕ → List ℕ) where
  each_more : (x : List ℕ) (bs : List (List ℕ)) (b : List ℕ) → each_after g x (bs ++ (b ∷ [])) ≡ each_after g x bs ++ (g (last_or x bs) b ∷ [])
  unfolding each_after last_or
  each_more x [] b = refl
  each_more x (c ∷ bs) b = ap (λ (l : List (List ℕ)). g x c ∷ l) (each_more c bs b)

  pub each_cut : (x text : List ℕ) (n : ℕ) → flatten (each_after g x (cut n text)) ≡ chunks n (λ k. g (block_before x text k) (block_of text k))
  unfolding each_after cut flatten chunks
  each_cut x text zero = refl
  each_cut x text (suc n) =
      ap (λ (l : List (List ℕ)). flatten (each_after g x l)) (cut_more n text)
      ∙ ap flatten (each_more x (cut n text) (block_of text n))
      ∙ flatten_more (each_after g x (cut n text)) (g (last_or x (cut n text)) (block_of text n))
      ∙ ap₂ {C = List ℕ} (λ (a b : List ℕ). a ++ b) (each_cut x text n) (ap (λ (y : List ℕ). g y (block_of text n)) (before_is x text n))
