-- The answers of the check of a reading chain (document 02, 2026-01), case by case: each number is given exactly under its condition. The
-- cases exclude each other and leave none out.
use mathlib.Core.Path.{◌≡◌, ◌∙◌}
use mathlib.Core.List.{List, [], ◌++◌}
use Prim.Native.Nat.{ℕ}
use lib.ListN.{length}
use Rattle.lists.specs.Refusals.{first}
use Rattle.cipher.specs.KeySize.{rounds, key_length, chain_length}
use Rattle.cipher.specs.Chain.{CodingRule, SameWords, MaskRule, chain_tests_by}
use Rattle.cipher.specs.declared.size.KeySize.{KeySize}
use Rattle.cipher.proofs.KeySizeLaws.{found_none, size_of_key_lem}
use Rattle.cipher.proofs.AnswerLaws.{length_refused, length_taken}
use Rattle.cipher.proofs.ChainRefusals.{chain_length_refused, chain_coding_refused, chain_word_refused, chain_mask_refused, chain_taken}
use Rattle.reading.specs.Chain.{ReadingChain, reading_chain_tests}
use Rattle.reading_book.specs.Answers.{reading_chain_checked}

module _ (ch : List ℕ) where
  pub reading_key : (n : ℕ) → (n ≡ 16 → ⊥) → (n ≡ 24 → ⊥) → (n ≡ 32 → ⊥) → reading_chain_checked n ch ≡ 1
  reading_key n a b c = length_refused n (λ z. reading_chain_tests z ch) (λ q. q) (λ z. 0) (found_none key_length n a b c)

  module _ (z : KeySize) where
    sized : reading_chain_checked (key_length z) ch ≡ first (reading_chain_tests z ch ++ []) (λ q. q) 0
    unfolding chain_tests_by
    sized = length_taken (key_length z) (λ y. reading_chain_tests y ch) (λ q. q) (λ y. 0) z (size_of_key_lem z)

    pub reading_length : (length ch ≡ chain_length z → ⊥) → reading_chain_checked (key_length z) ch ≡ 2
    reading_length h = sized ∙ chain_length_refused [] (λ q. q) 0 3 0 z ch h

    pub reading_valid : ReadingChain z ch → reading_chain_checked (key_length z) ch ≡ 0
    unfolding first
    reading_valid h = sized ∙ chain_taken [] (λ q. q) 0 3 0 z ch h

    module _ (h : length ch ≡ chain_length z) where
      pub reading_coding : (CodingRule (rounds z) ch → ⊥) → reading_chain_checked (key_length z) ch ≡ 3
      reading_coding c = sized ∙ chain_coding_refused [] (λ q. q) 0 3 0 z ch h c

      module _ (c : CodingRule (rounds z) ch) where
        pub reading_word : (SameWords 3 0 (rounds z) ch → ⊥) → reading_chain_checked (key_length z) ch ≡ 4
        reading_word w = sized ∙ chain_word_refused [] (λ q. q) 0 3 0 z ch h c w

        pub reading_mask : SameWords 3 0 (rounds z) ch → (MaskRule (rounds z) ch → ⊥) → reading_chain_checked (key_length z) ch ≡ 5
        reading_mask w m = sized ∙ chain_mask_refused [] (λ q. q) 0 3 0 z ch h c w m
