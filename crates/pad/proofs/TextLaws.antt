-- Laws of coded texts: the coded blocks are blocks, and decoding them by the set gives the text.
use mathlib.Core.Path.{◌≡◌, refl, sym, ap, ap₂, ◌∙◌}
use mathlib.Core.List.{List, [], ◌∷◌, map, flatten}
use Prim.Native.Nat.{ℕ, ◌*◌}
use lib.ListN.{length, length-map}
use Rattle.lists.specs.Blocks.{Bytes, blocks}
use Rattle.lists.proofs.BlockLaws.{Blocks, none, more, blocks_flatten, length_flatten, blocks_blocks, flatten_blocks, length_blocks}
use Rattle.cipher.specs.Coding.{Set, Permutations, coded, decoded}
use Rattle.cipher.proofs.CodingLaws.{block_coded, decoded_coded}
use Rattle.pad.specs.Padding.{coded_text, decoded_text}

module _ (S : Set) (p : Permutations S) where
  coded_blocks : (bs : List (List ℕ)) → Blocks (map (coded S) bs)
  coded_blocks [] = none
  coded_blocks (b ∷ bs) = more (block_coded S p b) (coded_blocks bs)

  -- its blocks are the text's blocks, each coded
  pub blocks_coded : (text : List ℕ) → blocks (coded_text S text) ≡ map (coded S) (blocks text)
  unfolding coded_text
  blocks_coded text = blocks_flatten (map (coded S) (blocks text)) (coded_blocks (blocks text))

  module _ (text : List ℕ) (n : ℕ) (e : length text ≡ 16 * n) where
    pub length_coded : length (coded_text S text) ≡ length text
    unfolding coded_text
    length_coded =
        length_flatten (map (coded S) (blocks text)) (coded_blocks (blocks text))
        ∙ ap (λ (k : ℕ). 16 * k) (length-map (blocks text) (coded S) ∙ length_blocks text n e)
        ∙ sym e

    -- decoded it is the text
    pub text_decoded : Bytes text → decoded_text S (coded_text S text) ≡ text
    unfolding decoded_text
    text_decoded h =
        ap (λ (bs : List (List ℕ)). flatten (map (decoded S) bs)) (blocks_coded text)
        ∙ ap flatten (back (blocks text) (blocks_blocks text n e h))
        ∙ flatten_blocks text n e
      where
        back : (bs : List (List ℕ)) → Blocks bs → map (decoded S) (map (coded S) bs) ≡ bs
        back [] none = refl
        back (b ∷ bs) (more h hs) = ap₂ {C = List (List ℕ)} (λ (c : List ℕ) (cs : List (List ℕ)). c ∷ cs) (decoded_coded S p b h) (back bs hs)
