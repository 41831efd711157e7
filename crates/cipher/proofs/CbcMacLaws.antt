-- Laws of CMAC's chaining: one block more, that the chaining value is a block, and a turn of the loop in words.
use Rattle.std.proofs.Common.{◌≡◌, ℕ, ◌+◌, ◌*◌, List, [], ◌∷◌, ◌++◌, take, drop, sym, refl, ap, ◌∙◌, ap₂, add-one}
use Rattle.lists.specs.Blocks.{Bytes, Block, xor_block, cut}
use Rattle.lists.proofs.BlockLaws.{block_xor, cut_more}
use Rattle.words.specs.Word.{xor_words, words4}
use Rattle.cipher.specs.Lea.{forward, first_rounds}
use Rattle.cipher.specs.Cmac.{cbc_mac}
use Rattle.cipher.proofs.LeaLaws.{forward_words, words_bytes, words_xor, words_four, block_rounds}

-- one block more
mac_last : (cipher : List ℕ → List ℕ) (x : List ℕ) (bs : List (List ℕ)) (b : List ℕ)
    → cbc_mac cipher x (bs ++ (b ∷ [])) ≡ cipher (xor_block (cbc_mac cipher x bs) b)
unfolding cbc_mac
mac_last cipher x [] b = refl
mac_last cipher x (c ∷ bs) b = mac_last cipher (cipher (xor_block x c)) bs b

pub mac_more : (cipher : List ℕ → List ℕ) (x t : List ℕ) (k : ℕ)
    → cbc_mac cipher x (cut (k + 1) t) ≡ cipher (xor_block (cbc_mac cipher x (cut k t)) (take 16 (drop (16 * k) t)))
mac_more cipher x t k =
    ap (cbc_mac cipher x) (ap (λ (n : ℕ). cut n t) (add-one k) ∙ cut_more k t) ∙ mac_last cipher x (cut k t) (take 16 (drop (16 * k) t))

module _ (rows : List (List ℕ)) (r : ℕ) where
  pub mac_block : (x : List ℕ) (bs : List (List ℕ)) → Block x → Block (cbc_mac (first_rounds rows r) x bs)
  unfolding cbc_mac
  mac_block x [] h = h
  mac_block x (b ∷ bs) h = mac_block (first_rounds rows r (xor_block x b)) bs (block_rounds rows r (xor_block x b))

  -- a turn of the loop, in words: X is the chaining value so far and b the block
  pub mac_turn : (X b x m y : List ℕ) → Block X → Bytes b → x ≡ words4 X → m ≡ words4 b → y ≡ forward rows r (xor_words x m)
      → y ≡ words4 (first_rounds rows r (xor_block X b))
  unfolding first_rounds
  mac_turn X b x m y hX hb ex em ey =
      let e : xor_words x m ≡ words4 (xor_block X b) = ap₂ xor_words ex em ∙ sym (words_xor X b hX.bytes hb) in
      ey
      ∙ ap (forward rows r) e
      ∙ sym (words_bytes (forward_words rows r (words_four (xor_block X b) (block_xor X b hX.bytes hb).bytes)))
