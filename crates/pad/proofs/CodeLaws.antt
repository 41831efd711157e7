-- What the two codings of a message are to whoever gets them: as many bytes as the padded message, at least one block and at
-- most 65,536; block by block the padded message's blocks, coded by the set; and decoded by it the padded message.
use mathlib.Core.Path.{◌≡◌, ap, ◌∙◌}
use mathlib.Core.List.{List, map}
use Prim.Native.Nat.{ℕ, ◌+◌, ◌-◌, ◌*◌, ◌/◌}
use lib.ListN.{length}
use Rattle.lists.specs.Blocks.{Bytes, blocks}
use Rattle.cipher.specs.Coding.{Set, Permutations, coded}
use Rattle.pad.specs.Padding.{padded_for_sealing, stripped, padded_for_tag, coded_text, decoded_text}
use Rattle.pad.proofs.PadLaws.{sealing_blocks, sealing_bytes, strip_padded, tag_blocks, tag_bytes}
use Rattle.pad.proofs.TextLaws.{blocks_coded, length_coded, text_decoded}

module _ (S : Set) (p : Permutations S) (m : List ℕ) where
  pub sealing_code_length : length (coded_text S (padded_for_sealing m)) ≡ 16 * (length m / 16 + 1)
  sealing_code_length = length_coded S p (padded_for_sealing m) (length m / 16 + 1) (sealing_blocks m) ∙ sealing_blocks m

  pub tag_code_length : length (coded_text S (padded_for_tag m)) ≡ 16 * ((length m - 1) / 16 + 1)
  tag_code_length = length_coded S p (padded_for_tag m) ((length m - 1) / 16 + 1) (tag_blocks m) ∙ tag_blocks m

  pub sealing_code_blocks : blocks (coded_text S (padded_for_sealing m)) ≡ map (coded S) (blocks (padded_for_sealing m))
  sealing_code_blocks = blocks_coded S p (padded_for_sealing m)

  pub tag_code_blocks : blocks (coded_text S (padded_for_tag m)) ≡ map (coded S) (blocks (padded_for_tag m))
  tag_code_blocks = blocks_coded S p (padded_for_tag m)

  module _ (h : Bytes m) where
    pub sealing_decoded : decoded_text S (coded_text S (padded_for_sealing m)) ≡ padded_for_sealing m
    sealing_decoded = text_decoded S p (padded_for_sealing m) (length m / 16 + 1) (sealing_blocks m) (sealing_bytes m h)

    -- the way back: decoded, and the padding taken off
    pub sealing_undone : stripped (decoded_text S (coded_text S (padded_for_sealing m))) ≡ m
    sealing_undone = ap stripped sealing_decoded ∙ strip_padded m

    pub tag_decoded : decoded_text S (coded_text S (padded_for_tag m)) ≡ padded_for_tag m
    tag_decoded = text_decoded S p (padded_for_tag m) ((length m - 1) / 16 + 1) (tag_blocks m) (tag_bytes m h)
