-- A sealed text opened block by block is the sealed text opened.
use mathlib.Core.Path.{◌≡◌, refl, sym, ap, ap₂, ◌∙◌, fun_ext}
use mathlib.Core.List.{List, [], ◌∷◌, ◌++◌, map, flatten, append-nil}
use Prim.Native.Nat.{ℕ, zero, suc, ◌+◌, ◌-◌, ◌*◌, ◌/◌, ◌≤◌, ◌<◌}
use native.Mathlib.Numerals.{add-one}
use native.Mathlib.Omega.{arith}
use lib.ListN.{get_or, length, take, drop, drop_of_length-le}
use lib.Seq.{take_all, drop-drop, drop_at}
use Rattle.lists.specs.Tabulation.{chunks}
use Rattle.lists.specs.Blocks.{Bytes, Block, xor_block, cut, blocks, block_of, block_before, each_after}
use Rattle.lists.proofs.BlockLaws.{block_xor, bytes_take, bytes_drop, each_cut}
use Rattle.lists.proofs.ChunkLaws.{chunks_more, length_chunks}
use Rattle.lists.proofs.PartLaws.{put_more}
use Rattle.words.specs.Word.{xor_words, words4, bytes}
use Rattle.words.specs.Rows.{RowsOfWords}
use Rattle.cipher.specs.Lea.{unround, backward, undone_rounds}
use Rattle.cipher.specs.Cbc.{cbc_deciphered}
use Rattle.cipher.specs.Coding.{Set, set_of, decoded, inverted}
use Rattle.cipher.specs.Images.{images_of, imaged}
use Rattle.cipher.proofs.LeaLaws.{backward_four, backward_words, words_bytes, bytes_words, words_xor, words_four, block_undone}
use Rattle.cipher.proofs.InverseLaws.{decoded_inverted}
use Rattle.cipher.proofs.ImageLaws.{imaged_coded}
use Rattle.archive.specs.Blocks.{opened_block}
use Rattle.archive.specs.Archive.{opened_text}

-- ---- rounds undone on several blocks at once

-- four rounds undone, the last of them first
abbrev pub four_undone : List (List ℕ) → ℕ → List ℕ → List ℕ
four_undone rows q y =
    unround (get_or rows (4 * q) []) (unround (get_or rows (4 * q + 1) []) (unround (get_or rows (4 * q + 2) []) (unround (get_or rows (4 * q + 3) []) y)))

module _ (rows : List (List ℕ)) where
  undone_each : (q : ℕ) (x : List (List ℕ)) → map (backward rows (4 * q)) (map (four_undone rows q) x) ≡ map (backward rows (4 * (q + 1))) x
  undone_each q [] = refl
  undone_each q (y ∷ x) = ap₂ {C = List (List ℕ)} (λ (a : List ℕ) (l : List (List ℕ)). a ∷ l) (sym (backward_four rows q y)) (undone_each q x)

  -- after a turn over all of them
  pub undone_turn : (q p i : ℕ) (x y : List (List ℕ)) → q + 1 ≡ p → length x ≤ i → y ≡ map (four_undone rows q) (take i x) ++ drop i x
      → map (backward rows (4 * q)) y ≡ map (backward rows (4 * p)) x
  undone_turn q p i x y e l h =
      ap (map (backward rows (4 * q))) (h ∙ rw (take_all i x l, drop_of_length-le x l, append-nil) refl)
      ∙ undone_each q x
      ∙ ap (λ (n : ℕ). map (backward rows (4 * n)) x) e

  pub undone_none : (x : List (List ℕ)) → map (backward rows 0) x ≡ x
  unfolding backward
  undone_none [] = refl
  undone_none (y ∷ x) = ap (λ (l : List (List ℕ)). y ∷ l) (undone_none x)

-- ---- what the code reads in front of a block

pub before_more : (iv text : List ℕ) (k : ℕ) → block_of text k ≡ block_before iv text (k + 1)
unfolding block_before
before_more iv text k = ap (block_before iv text) (sym (add-one k))

pub before_first : (iv text : List ℕ) (k : ℕ) → k ≡ 0 → iv ≡ block_before iv text k
unfolding block_before
before_first iv text k e = ap (block_before iv text) (sym e)

pub before_next : (iv text : List ℕ) (k : ℕ) → (k ≡ 0 → ⊥) → take 16 (drop (16 * (k - 1)) text) ≡ block_before iv text k
unfolding block_before
before_next iv text zero h = absurd (h refl)
before_next iv text (suc k) h =
    let e : suc k - 1 ≡ k = omega arith in
    ap (λ (n : ℕ). take 16 (drop (16 * n) text)) e

-- ---- one block, in words

module _ (rows : List (List ℕ)) (hr : RowsOfWords rows) (r : ℕ) (f : List ℕ → List ℕ) (hf : (b : List ℕ) → Block (f b)) (iv text : List ℕ) (k : ℕ) where
  pub opened_words : (x c y z : List ℕ) → x ≡ words4 (f (block_before iv text k)) → c ≡ words4 (f (block_of text k))
      → y ≡ backward rows r c → z ≡ bytes (xor_words y x) → z ≡ opened_block rows r f iv text k
  unfolding opened_block undone_rounds
  opened_words x c y z ex ec ey ez =
      let C = f (block_of text k) in
      let B = f (block_before iv text k) in
      let h_b = hf (block_before iv text k) in
      let w = backward_words rows hr r (words_four C (hf (block_of text k)).bytes) in
      let h_u = block_undone rows r C in
      ez
      ∙ ap bytes
      (ap₂ xor_words (ey ∙ ap (backward rows r) ec ∙ sym (words_bytes w)) ex
      ∙ sym (words_xor (undone_rounds rows r C) B h_u.bytes h_b.bytes))
      ∙ bytes_words (block_xor (undone_rounds rows r C) B h_u.bytes h_b.bytes)

-- ---- four of them, in words

-- a list of four written out, by their places
four_each : (g : ℕ → List ℕ) (k : ℕ) (a b c d : List ℕ) → a ≡ g k → b ≡ g (k + 1) → c ≡ g (k + 2) → d ≡ g (k + 3) → (m : ℕ) → m < 4
    → get_or (a ∷ b ∷ c ∷ d ∷ []) m [] ≡ g (k + m)
four_each g k a b c d ea eb ec ed zero h = ea ∙ ap g (omega arith)
four_each g k a b c d ea eb ec ed (suc zero) h = eb ∙ ap g (omega arith)
four_each g k a b c d ea eb ec ed (suc (suc zero)) h = ec ∙ ap g (omega arith)
four_each g k a b c d ea eb ec ed (suc (suc (suc zero))) h = ed ∙ ap g (omega arith)
four_each g k a b c d ea eb ec ed (suc (suc (suc (suc m)))) h = absurd (omega arith)

module _ (rows : List (List ℕ)) (hr : RowsOfWords rows) (r : ℕ) (f : List ℕ → List ℕ) (hf : (b : List ℕ) → Block (f b)) (iv text : List ℕ) where
  -- by what stands in front of the first, by all of them, and by these deciphered
  pub opened_four : (k : ℕ) (p a b c d : List ℕ) (y : List (List ℕ)) → p ≡ words4 (f (block_before iv text k)) → a ≡ words4 (f (block_of text k))
      → b ≡ words4 (f (block_of text (k + 1))) → c ≡ words4 (f (block_of text (k + 2))) → d ≡ words4 (f (block_of text (k + 3)))
      → y ≡ map (backward rows r) (a ∷ b ∷ c ∷ d ∷ []) → (m : ℕ) → m < 4 → (z : List ℕ)
      → z ≡ bytes (xor_words (get_or y m []) (get_or (p ∷ a ∷ b ∷ c ∷ []) m [])) → z ≡ opened_block rows r f iv text (k + m)
  opened_four k p a b c d y ep ea eb ec ed ey m h z ez =
      let own = four_each (λ j. words4 (f (block_of text j))) k a b c d ea eb ec ed m h in
      let next : (n j : ℕ) → n + 1 ≡ j → words4 (f (block_of text n)) ≡ words4 (f (block_before iv text j)) =
      λ n j e. ap (λ (b : List ℕ). words4 (f b)) (before_more iv text n ∙ ap (block_before iv text) e) in
      let prior =
      four_each (λ j. words4 (f (block_before iv text j))) k p a b c ep (ea ∙ next k (k + 1) refl) (eb ∙ next (k + 1) (k + 2) (omega arith))
      (ec ∙ next (k + 2) (k + 3) (omega arith)) m h in
      opened_words rows hr r f hf iv text (k + m) _ _ _ z prior own (ap (λ (l : List (List ℕ)). get_or l m []) ey ∙ sym (each m h)) ez
    where
      each : (m : ℕ) → m < 4 → backward rows r (get_or (a ∷ b ∷ c ∷ d ∷ []) m []) ≡ get_or (map (backward rows r) (a ∷ b ∷ c ∷ d ∷ [])) m []
      each zero h = refl
      each (suc zero) h = refl
      each (suc (suc zero)) h = refl
      each (suc (suc (suc zero))) h = refl
      each (suc (suc (suc (suc m)))) h = absurd (omega arith)

-- ---- all of them

module _ (rows : List (List ℕ)) (r : ℕ) (f : List ℕ → List ℕ) where
  -- deciphering in CBC takes each block with the one before it
  deciphered : (x : List ℕ) (cs : List (List ℕ))
      → cbc_deciphered (undone_rounds rows r) (f x) (map f cs) ≡ each_after (λ y c. xor_block (undone_rounds rows r (f c)) (f y)) x cs
  unfolding cbc_deciphered each_after
  deciphered x [] = refl
  deciphered x (c ∷ cs) = ap (λ (l : List (List ℕ)). xor_block (undone_rounds rows r (f c)) (f x) ∷ l) (deciphered c cs)

  pub opened_blocks : (iv text : List ℕ) (n : ℕ)
      → flatten (cbc_deciphered (undone_rounds rows r) (f iv) (map f (cut n text))) ≡ chunks n (opened_block rows r f iv text)
  unfolding opened_block
  opened_blocks iv text n =
      ap flatten (deciphered iv (cut n text)) ∙ each_cut (λ y c. xor_block (undone_rounds rows r (f c)) (f y)) iv text n

pub opened_text_lem : (rows : List (List ℕ)) (r : ℕ) (S : Set) (iv text : List ℕ)
    → opened_text (undone_rounds rows r) S iv text ≡ chunks (length text / 16) (opened_block rows r (decoded S) iv text)
unfolding opened_text blocks
opened_text_lem rows r S iv text = opened_blocks rows r (decoded S) iv text (length text / 16)

-- by what decodes bytes alike
module _ (rows : List (List ℕ)) (r : ℕ) (f g : List ℕ → List ℕ) (e : (b : List ℕ) → Bytes b → f b ≡ g b) (iv text : List ℕ) (hi : Bytes iv) (ht : Bytes text) where
  block_bytes : (k : ℕ) → Bytes (block_of text k)
  block_bytes k = bytes_take 16 (drop (16 * k) text) (bytes_drop (16 * k) text ht)

  before_bytes : (k : ℕ) → Bytes (block_before iv text k)
  unfolding block_before
  before_bytes zero = hi
  before_bytes (suc k) = block_bytes k

  pub opened_alike : opened_block rows r f iv text ≡ opened_block rows r g iv text
  unfolding opened_block
  opened_alike =
      fun_ext (λ (k : ℕ).
      ap₂ (λ (c b : List ℕ). xor_block (undone_rounds rows r c) b) (e (block_of text k) (block_bytes k)) (e (block_before iv text k) (before_bytes k)))

-- by the table of the inverted set as by the set
pub decoded_imaged : (s b : List ℕ) → Bytes b → imaged (images_of (inverted 32 s)) b ≡ decoded (set_of s) b
decoded_imaged s b h = imaged_coded (inverted 32 s) b h ∙ sym (decoded_inverted s b)

-- ---- the loop

pub block_opened : (rows : List (List ℕ)) (r : ℕ) (f : List ℕ → List ℕ) → ((b : List ℕ) → Block (f b)) → (iv text : List ℕ) (k : ℕ) → Block (opened_block rows r f iv text k)
unfolding opened_block
block_opened rows r f hf iv text k =
    block_xor (undone_rounds rows r (f (block_of text k))) (f (block_before iv text k)) (block_undone rows r (f (block_of text k))).bytes (hf (block_before iv text k)).bytes

module _ (g : ℕ → List ℕ) (h : (k : ℕ) → length (g k) ≡ 16) (out₀ : List ℕ) where
  pub chunks_length : (n : ℕ) → length (chunks n g) ≡ 16 * n
  chunks_length n = length_chunks g 16 h n ∙ omega arith

  pub open_turn : (k : ℕ) (out y : List ℕ) → out ≡ chunks k g ++ drop (16 * k) out₀ → y ≡ g k
      → take (16 * k) out ++ y ++ drop (16 * k + 16) out ≡ chunks (k + 1) g ++ drop (16 * (k + 1)) out₀
  open_turn k out y eo ey =
      let q : 16 * k + 16 ≡ 16 * (k + 1) = omega arith in
      put_more (chunks k g) out₀ out y (16 * k) 16 (chunks_length k) eo
      ∙ ap₂ {C = List ℕ} (λ (a : List ℕ) (n : ℕ). a ++ drop n out₀) (ap (λ (b : List ℕ). chunks k g ++ b) ey ∙ sym (chunks_more k g)) q

  -- after the k blocks opened so far all is as it was
  pub after : (k n : ℕ) (out : List ℕ) → k ≤ n → out ≡ chunks k g ++ drop (16 * k) out₀ → drop (16 * n) out ≡ drop (16 * n) out₀
  after k n out l e =
      let q : 16 * n ≡ 16 * k + 16 * (n - k) = omega arith in
      let d = 16 * (n - k) in
      ap₂ {C = List ℕ} (λ (j : ℕ) (o : List ℕ). drop j o) q e
      ∙ sym (drop-drop d (16 * k) (chunks k g ++ drop (16 * k) out₀))
      ∙ ap (drop d) (drop_at (chunks k g) (drop (16 * k) out₀) (16 * k) (chunks_length k))
      ∙ drop-drop d (16 * k) out₀
      ∙ ap (λ (j : ℕ). drop j out₀) (sym q)

  pub own_rest : (k : ℕ) (out : List ℕ) → out ≡ chunks k g ++ drop (16 * k) out₀ → out ≡ chunks k g ++ drop (16 * k) out
  own_rest k out e = e ∙ ap (λ (r : List ℕ). chunks k g ++ r) (sym (after k k out (omega arith) e))
