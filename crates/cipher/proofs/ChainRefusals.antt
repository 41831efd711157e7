-- The refusals of a lone set and of a chain, case by case (document 01, "Refusals from the input", numbers 2 to 5): each is
-- given where its rule is broken and those of the lower numbers hold. The cases exclude each other and leave none out. What
-- stands after these tests, `ts`, is reached exactly by a valid set, or a valid chain.
use Rattle.std.proofs.Common.{◌≡◌, ℕ, Bool, true, false, not, eqb, List, [], ◌++◌, length, refl, ap, ◌∙◌, eq-eqb, ne_eqb}
use Rattle.lists.specs.Refusals.{first}
use Rattle.cipher.specs.KeySize.{rounds, key_length, chain_length}
use Rattle.cipher.specs.Coding.{Permutations, set_of}
use Rattle.cipher.specs.Chain.{CodingRule, SameWords, MaskRule, ChainBy, Chain, LoneSet, are_permutations, coding_rule_holds, words_kept, mask_rule_holds, set_tests, chain_tests_by, chain_tests}
use Rattle.cipher.specs.Lengths.{set_length}
use Rattle.cipher.specs.Answers.{set_checked, chain_checked}
use Rattle.cipher.specs.declared.size.KeySize.{KeySize}
use Rattle.cipher.proofs.KeySizeLaws.{found_none, size_of_key_lem}
use Rattle.cipher.proofs.AnswerLaws.{length_refused, length_taken}
use Rattle.cipher.proofs.ChainTests.{set_permutations, permutations_set, codings_tested, tested_codings, words_tested, tested_words, masks_tested, tested_masks}

-- a test that is passed only by what is not so, is not passed
failed : {P : Type 0} (b : Bool) → (b ≡ true → P) → (P → ⊥) → not b ≡ true
failed true f g = absurd (g (f refl))
failed false f g = refl

passed : (b : Bool) → b ≡ true → not b ≡ false
passed b e = ap not e

size_wrong : (n m : ℕ) → (n ≡ m → ⊥) → not (eqb n m) ≡ true
size_wrong n m h = ap not (ne_eqb n m h)

size_right : (n m : ℕ) → n ≡ m → not (eqb n m) ≡ false
size_right n m h = ap not (eq-eqb n m h)

module _ {A : Type 0} (ts : List (Bool × ℕ)) (refuse : ℕ → A) (go : A) where
  -- ---- a lone set
  module _ (s : List ℕ) where
    pub set_length_refused : (length s ≡ set_length → ⊥) → first (set_tests s ++ ts) refuse go ≡ refuse 2
    unfolding set_tests first
    set_length_refused h = rw (size_wrong (length s) set_length h)

    pub set_coding_refused : length s ≡ set_length → (Permutations (set_of s) → ⊥) → first (set_tests s ++ ts) refuse go ≡ refuse 3
    unfolding set_tests first
    set_coding_refused h c = rw (size_right (length s) set_length h, failed (are_permutations 32 s) (set_permutations s) c)

    pub set_taken : LoneSet s → first (set_tests s ++ ts) refuse go ≡ first ts refuse go
    unfolding set_tests first
    set_taken h = rw (size_right (length s) set_length h.size, passed (are_permutations 32 s) (permutations_set s h.codings))

  -- ---- a chain, with any word rule
  module _ (from to : ℕ) (z : KeySize) (ch : List ℕ) where
    pub chain_length_refused : (length ch ≡ chain_length z → ⊥) → first (chain_tests_by from to z ch ++ ts) refuse go ≡ refuse 2
    unfolding chain_tests_by first
    chain_length_refused h = rw (size_wrong (length ch) (chain_length z) h)

    pub chain_coding_refused : length ch ≡ chain_length z → (CodingRule (rounds z) ch → ⊥) → first (chain_tests_by from to z ch ++ ts) refuse go ≡ refuse 3
    unfolding chain_tests_by first
    chain_coding_refused h c =
        rw (size_right (length ch) (chain_length z) h, failed (coding_rule_holds (rounds z) ch) (codings_tested (rounds z) ch) c)

    pub chain_word_refused : length ch ≡ chain_length z → CodingRule (rounds z) ch → (SameWords from to (rounds z) ch → ⊥)
        → first (chain_tests_by from to z ch ++ ts) refuse go ≡ refuse 4
    unfolding chain_tests_by first
    chain_word_refused h c w =
        rw (
          size_right (length ch) (chain_length z) h,
          passed (coding_rule_holds (rounds z) ch) (tested_codings (rounds z) ch c),
          failed (words_kept from to (rounds z) ch) (words_tested from to (rounds z) ch) w,
        )

    pub chain_mask_refused : length ch ≡ chain_length z → CodingRule (rounds z) ch → SameWords from to (rounds z) ch → (MaskRule (rounds z) ch → ⊥)
        → first (chain_tests_by from to z ch ++ ts) refuse go ≡ refuse 5
    unfolding chain_tests_by first
    chain_mask_refused h c w m =
        rw (
          size_right (length ch) (chain_length z) h,
          passed (coding_rule_holds (rounds z) ch) (tested_codings (rounds z) ch c),
          passed (words_kept from to (rounds z) ch) (tested_words from to (rounds z) ch w),
          failed (mask_rule_holds (rounds z) ch) (masks_tested (rounds z) ch) m,
        )

    pub chain_taken : ChainBy from to z ch → first (chain_tests_by from to z ch ++ ts) refuse go ≡ first ts refuse go
    unfolding chain_tests_by first
    chain_taken h =
        rw (
          size_right (length ch) (chain_length z) h.size,
          passed (coding_rule_holds (rounds z) ch) (tested_codings (rounds z) ch h.codings),
          passed (words_kept from to (rounds z) ch) (tested_words from to (rounds z) ch h.words),
          passed (mask_rule_holds (rounds z) ch) (tested_masks (rounds z) ch h.masks),
        )

-- ---- the checks: each number exactly under its condition

pub check_set_length : (s : List ℕ) → (length s ≡ set_length → ⊥) → set_checked s ≡ 2
unfolding set_tests
check_set_length s h = set_length_refused [] (λ q. q) 0 s h

pub check_set_coding : (s : List ℕ) → length s ≡ set_length → (Permutations (set_of s) → ⊥) → set_checked s ≡ 3
unfolding set_tests
check_set_coding s h c = set_coding_refused [] (λ q. q) 0 s h c

pub check_set_valid : (s : List ℕ) → LoneSet s → set_checked s ≡ 0
unfolding set_tests first
check_set_valid s h = set_taken [] (λ q. q) 0 s h

module _ (ch : List ℕ) where
  pub check_key : (n : ℕ) → (n ≡ 16 → ⊥) → (n ≡ 24 → ⊥) → (n ≡ 32 → ⊥) → chain_checked n ch ≡ 1
  check_key n a b c = length_refused n (λ z. chain_tests z ch) (λ q. q) (λ z. 0) (found_none key_length n a b c)

  module _ (z : KeySize) where
    sized : chain_checked (key_length z) ch ≡ first (chain_tests z ch ++ []) (λ q. q) 0
    unfolding chain_tests_by
    sized = length_taken (key_length z) (λ y. chain_tests y ch) (λ q. q) (λ y. 0) z (size_of_key_lem z)

    pub check_length : (length ch ≡ chain_length z → ⊥) → chain_checked (key_length z) ch ≡ 2
    check_length h = sized ∙ chain_length_refused [] (λ q. q) 0 0 3 z ch h

    pub check_valid : Chain z ch → chain_checked (key_length z) ch ≡ 0
    unfolding first
    check_valid h = sized ∙ chain_taken [] (λ q. q) 0 0 3 z ch h

    module _ (h : length ch ≡ chain_length z) where
      pub check_coding : (CodingRule (rounds z) ch → ⊥) → chain_checked (key_length z) ch ≡ 3
      check_coding c = sized ∙ chain_coding_refused [] (λ q. q) 0 0 3 z ch h c

      pub check_word : CodingRule (rounds z) ch → (SameWords 0 3 (rounds z) ch → ⊥) → chain_checked (key_length z) ch ≡ 4
      check_word c w = sized ∙ chain_word_refused [] (λ q. q) 0 0 3 z ch h c w

      pub check_mask : CodingRule (rounds z) ch → SameWords 0 3 (rounds z) ch → (MaskRule (rounds z) ch → ⊥) → chain_checked (key_length z) ch ≡ 5
      check_mask c w m = sized ∙ chain_mask_refused [] (λ q. q) 0 0 3 z ch h c w m
