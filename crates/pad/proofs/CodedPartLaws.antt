-- Why the code codes a text as it does: the loops that look bytes up in a table of images, and that parts of a text coded byte by
-- byte make the text coded block by block.
use mathlib.Core.Path.{◌≡◌, refl, sym, ap, ap₂, ◌∙◌}
use mathlib.Core.List.{List, ◌++◌, map, flatten, append_assoc}
use Prim.Native.Nat.{ℕ, zero, suc, ◌+◌, ◌-◌, ◌*◌, ◌/◌, ◌%◌, ◌≤◌}
use native.Mathlib.Omega.{arith}
use lib.ListN.{length, get_or, take, drop, length-append, length-drop, take-append-drop, get_or-append}
use lib.Seq.{length-take-le, get_or-append-add, get_or-take, get_or-drop, take_at, drop_at, drop-drop}
use Rattle.lists.specs.Tabulation.{tab, chunks}
use Rattle.lists.specs.Blocks.{Bytes, cut, blocks}
use Rattle.lists.proofs.TabulationLaws.{length_tab, tab_ext}
use Rattle.lists.proofs.ChunkLaws.{tab_append, tab_rows}
use Rattle.lists.proofs.PartLaws.{part_end}
use Rattle.lists.proofs.BlockLaws.{bytes_append}
use Rattle.cipher.specs.Coding.{set_of, coded, byte_coded}
use Rattle.cipher.specs.Images.{images_of, image_at, imaged}
use Rattle.cipher.proofs.InverseLaws.{coded_each}
use Rattle.cipher.proofs.ImageLaws.{image_at_lem}
use Rattle.pad.specs.Padding.{coded_text}
use Rattle.pad.specs.CodedParts.{coded_part}

-- ---- byte by byte

module _ (f : ℕ → ℕ → ℕ) where
  pub length_part : (from : ℕ) (part : List ℕ) → length (coded_part f from part) ≡ length part
  unfolding coded_part
  length_part from part = length_tab (length part) (λ i. f ((from + i) % 16) (get_or part i 0))

  -- the part in front
  part_front : (part : List ℕ) → coded_part f 0 part ≡ tab (length part) (λ i. f (i % 16) (get_or part i 0))
  unfolding coded_part
  part_front part =
      tab_ext (length part) (λ i. f ((0 + i) % 16) (get_or part i 0)) (λ i. f (i % 16) (get_or part i 0)) (λ i h.
      let e : (0 + i) % 16 ≡ i % 16 = omega arith in
      ap (λ (k : ℕ). f k (get_or part i 0)) e)

  -- two parts, the second where the first ends
  parts_joined : (a b : List ℕ) → coded_part f 0 a ++ coded_part f (length a) b ≡ coded_part f 0 (a ++ b)
  unfolding coded_part
  parts_joined a b =
      ap₂ {C = List ℕ} (λ (x y : List ℕ). x ++ y)
      (part_front a
      ∙ tab_ext (length a) (λ i. f (i % 16) (get_or a i 0)) (λ i. f (i % 16) (get_or (a ++ b) i 0)) (λ i h.
      ap (f (i % 16)) (sym (get_or-append a b 0 i h))))
      (tab_ext (length b) (λ i. f ((length a + i) % 16) (get_or b i 0)) (λ i. f ((length a + i) % 16) (get_or (a ++ b) (length a + i) 0)) (λ i h.
      ap (f ((length a + i) % 16)) (sym (get_or-append-add a b i 0))))
      ∙ sym (tab_append (length a) (length b) (λ i. f (i % 16) (get_or (a ++ b) i 0)))
      ∙ ap (λ (n : ℕ). tab n (λ i. f (i % 16) (get_or (a ++ b) i 0))) (sym (length-append a b))
      ∙ sym (part_front (a ++ b))

-- by the table as by the set
by_table : (s t part : List ℕ) (from : ℕ) → t ≡ images_of s → Bytes part → coded_part (image_at t) from part ≡ coded_part (byte_coded s) from part
unfolding coded_part
by_table s t part from e h =
    ap (λ (x : List ℕ). tab (length part) (λ i. image_at x ((from + i) % 16) (get_or part i 0))) e
    ∙ tab_ext (length part) (λ i. image_at (images_of s) ((from + i) % 16) (get_or part i 0)) (λ i. byte_coded s ((from + i) % 16) (get_or part i 0)) (λ i l.
    image_at_lem s ((from + i) % 16) (get_or part i 0) (omega arith) (h i))

module _ (s : List ℕ) where
  cut_coded : (n : ℕ) (l : List ℕ) → tab (16 * n) (λ i. byte_coded s (i % 16) (get_or l i 0)) ≡ flatten (map (coded (set_of s)) (cut n l))
  unfolding cut flatten
  cut_coded zero l = unfold tab in refl
  cut_coded (suc n) l =
      let e : 16 * suc n ≡ 16 + 16 * n = omega arith in
      ap (λ (k : ℕ). tab k (λ i. byte_coded s (i % 16) (get_or l i 0))) e
      ∙ tab_append 16 (16 * n) (λ i. byte_coded s (i % 16) (get_or l i 0))
      ∙ ap₂ {C = List ℕ} (λ (x y : List ℕ). x ++ y)
      (tab_ext 16 (λ i. byte_coded s (i % 16) (get_or l i 0)) (λ i. byte_coded s i (get_or (take 16 l) i 0)) (λ i h.
      let r : i % 16 ≡ i = omega arith in
      ap₂ (byte_coded s) r (sym (get_or-take 16 l i 0 h)))
      ∙ sym (coded_each s (take 16 l)))
      (tab_ext (16 * n) (λ i. byte_coded s ((16 + i) % 16) (get_or l (16 + i) 0)) (λ i. byte_coded s (i % 16) (get_or (drop 16 l) i 0)) (λ i h.
      let r : (16 + i) % 16 ≡ i % 16 = omega arith in
      ap₂ (byte_coded s) r (sym (get_or-drop 16 l i 0)))
      ∙ cut_coded n (drop 16 l))

  -- whole blocks
  pub part_blocks : (n : ℕ) (l : List ℕ) → length l ≡ 16 * n → coded_part (byte_coded s) 0 l ≡ coded_text (set_of s) l
  unfolding coded_text blocks
  part_blocks n l e =
      let c : length l / 16 ≡ n = omega arith in
      part_front (byte_coded s) l
      ∙ ap (λ (k : ℕ). tab k (λ i. byte_coded s (i % 16) (get_or l i 0))) e
      ∙ cut_coded n l
      ∙ ap (λ (k : ℕ). flatten (map (coded (set_of s)) (cut k l))) (sym c)

-- ---- whole blocks of a text, coded by the table t

module _ (t text : List ℕ) where
  -- block k coded
  abbrev pub block_images : ℕ → List ℕ
  block_images k = tab 16 (λ i. image_at t i (get_or text (k * 16 + i) 0))

  -- from the block as the code lends it
  pub lent_block : (q : List ℕ) (k a : ℕ) → a ≡ k * 16 → q ≡ imaged t (take (a + 16 - a) (drop a text)) → q ≡ block_images k
  unfolding imaged
  lent_block q k a e d =
      d
      ∙ tab_ext 16 (λ i. image_at t i (get_or (take (a + 16 - a) (drop a text)) i 0)) (λ i. image_at t i (get_or text (k * 16 + i) 0)) (λ i h.
      let w : a + i ≡ k * 16 + i = omega arith in
      ap (image_at t i) (get_or-take (a + 16 - a) (drop a text) i 0 (omega arith) ∙ get_or-drop a text i 0 ∙ ap (λ (j : ℕ). get_or text j 0) w))

  pub blocks_part : (n : ℕ) → n * 16 ≤ length text → chunks n block_images ≡ coded_part (image_at t) 0 (take (n * 16) text)
  blocks_part n h =
      sym (tab_rows n 16 (λ i. image_at t (i % 16) (get_or text i 0)) (λ k i. image_at t i (get_or text (k * 16 + i) 0)) (λ k i hk hi.
      let w : (k * 16 + i) % 16 ≡ i = omega arith in
      ap (λ (j : ℕ). image_at t j (get_or text (k * 16 + i) 0)) w))
      ∙ tab_ext (n * 16) (λ i. image_at t (i % 16) (get_or text i 0)) (λ i. image_at t (i % 16) (get_or (take (n * 16) text) i 0)) (λ i l.
      ap (image_at t (i % 16)) (sym (get_or-take (n * 16) text i 0 l)))
      ∙ ap (λ (j : ℕ). tab j (λ i. image_at t (i % 16) (get_or (take (n * 16) text) i 0))) (sym (length-take-le (n * 16) text h))
      ∙ sym (part_front (image_at t) (take (n * 16) text))

-- ---- a buffer in whose front parts of a text are coded, one after the other

-- a of n bytes was coded, which left mid, and then b
next_part : (f : ℕ → ℕ → ℕ) (a b out mid end : List ℕ) (n : ℕ) → length a ≡ n → mid ≡ coded_part f 0 a ++ drop n out
    → end ≡ take n mid ++ (coded_part f n b ++ drop (n + length b) mid)
    → end ≡ coded_part f 0 (a ++ b) ++ drop (n + length b) out
next_part f a b out mid end n la e g =
    g
    ∙ ap {B = List ℕ} (λ x. take n x ++ (coded_part f n b ++ drop (n + length b) x)) e
    ∙ rw (take_at p (drop n out) n l, after) (sym (append_assoc p (coded_part f n b) (drop (n + length b) out)))
    ∙ ap {B = List ℕ} (λ x. x ++ drop (n + length b) out) (ap (λ (k : ℕ). p ++ coded_part f k b) (sym la) ∙ parts_joined f a b)
  where
    p : List ℕ
    p = coded_part f 0 a

    l : length p ≡ n
    l = length_part f 0 a ∙ la

    after : drop (n + length b) (p ++ drop n out) ≡ drop (n + length b) out
    after =
        sym (drop-drop (length b) n (p ++ drop n out)) ∙ ap (drop (length b)) (drop_at p (drop n out) n l) ∙ drop-drop (length b) n out

-- by the table of s the whole blocks of m, which left x, then its last w bytes, which left y, then b
pub all_written : (s t m b out x y end : List ℕ) (w : ℕ) → t ≡ images_of s → Bytes m → Bytes b → w ≤ length m
    → x ≡ coded_part (image_at t) 0 (take w m) ++ drop w out
    → y ≡ take w x ++ (coded_part (image_at t) w (take (length m - w) (drop w m)) ++ drop (w + length (take (length m - w) (drop w m))) x)
    → end ≡ take (length m) y ++ (coded_part (image_at t) (length m) b ++ drop (length m + length b) y)
    → end ≡ coded_part (byte_coded s) 0 (m ++ b) ++ drop (length m + length b) out
all_written s t m b out x y end w et hm hb h ex ey ee =
    next_part (image_at t) m b out y end (length m) refl both ee
    ∙ ap {B = List ℕ} (λ z. z ++ drop (length m + length b) out) (by_table s t (m ++ b) 0 et (bytes_append m b hm hb))
  where
    rest : y ≡ take w x ++ (coded_part (image_at t) w (drop w m) ++ drop (w + length (drop w m)) x)
    rest = ey ∙ ap {B = List ℕ} (λ z. take w x ++ (coded_part (image_at t) w z ++ drop (w + length z) x)) (part_end m w)

    all : w + length (drop w m) ≡ length m
    all = omega (arith, length-drop w m)

    both : y ≡ coded_part (image_at t) 0 m ++ drop (length m) out
    both =
        next_part (image_at t) (take w m) (drop w m) out x y w (length-take-le w m h) ex rest
        ∙ ap₂ {C = List ℕ} (λ (z : List ℕ) (k : ℕ). coded_part (image_at t) 0 z ++ drop k out) (take-append-drop w m) all
