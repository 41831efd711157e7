-- The tests of sets and chains say what they should, both ways: each is passed exactly where its rule holds, so the tests
-- 2 to 5 let through the valid chains and no others.
use Rattle.std.proofs.Common.{◌≡◌, ℕ, zero, suc, ◌+◌, ◌*◌, ◌/◌, ◌%◌, ◌<◌, ◌≤◌, Bool, true, false, not, ◌&&◌, eqb, ltb}
use Rattle.std.proofs.Common.{List, length, get_or, take, drop, sym, refl, ap, ◌∙◌, subst, arith, lit<, length-take-le, get_or-drop, get_or-take, ltb-true, lt-ltb, eq-eqb, ne_eqb, eqb-true}
use native.Mathlib.Decide.{dec_lt}
use borrow.Author.Tests.{eqb-false, not-true, not-false}
use Rattle.lists.specs.Every.{every}
use Rattle.lists.proofs.EveryLaws.{and_true, true_and, every_all, all_every}
use Rattle.lists.proofs.RefusalLaws.{Clear}
use Rattle.cipher.specs.KeySize.{rounds, chain_length}
use Rattle.cipher.specs.Coding.{OneToOne, Permutation, Permutations, SameWord, coding_at, set_of}
use Rattle.cipher.specs.Tables.{ValidCodings, ValidRound}
use Rattle.cipher.specs.Chain.{round_bytes, mask_at, mask_in, round_codings, CodingRule, SameWords, MaskRule, ChainBy, LoneSet}
use Rattle.cipher.specs.Chain.{is_one_to_one, are_permutations, coding_rule_holds, word_kept, words_kept, mask_rule_holds, set_tests, chain_tests_by}
use Rattle.cipher.specs.Lengths.{set_length}
use Rattle.cipher.specs.declared.size.KeySize.{KeySize}
use Rattle.cipher.proofs.Permutation.{once_ext}
use Rattle.cipher.proofs.CodingLaws.{Agree}

hold : (b : Bool) → b ≡ true → not b ≡ false
hold b e = rw e

-- ---- one coding

pub one_tested : (n m : ℕ) (f : ℕ → ℕ) → is_one_to_one n m f ≡ true → OneToOne n m f
unfolding is_one_to_one
one_tested n m f t = record { low = λ i h. ltb-true (f i) m (both i h).0; once = λ i k h l e. once i k h l e (dec_lt i k) (dec_lt k i) }
  where
    both : (i : ℕ) → i < n → (ltb (f i) m ≡ true) × (every i (λ k. not (eqb (f k) (f i))) ≡ true)
    both i h =
        and_true (ltb (f i) m) (every i (λ k. not (eqb (f k) (f i))))
        (every_all n (λ i. ltb (f i) m && every i (λ k. not (eqb (f k) (f i)))) t i h)

    apart : (k i : ℕ) → k < i → i < n → f k ≡ f i → ⊥
    apart k i l h e =
        eqb-false (f k) (f i) (not-true (eqb (f k) (f i)) (every_all i (λ k. not (eqb (f k) (f i))) (both i h).1 k l)) e

    once : (i k : ℕ) → i < n → k < n → f i ≡ f k → Dec (i < k) → Dec (k < i) → i ≡ k
    once i k h l e (yes a) d = absurd (apart i k a l e)
    once i k h l e (no a) (yes d) = absurd (apart k i d h (sym e))
    once i k h l e (no a) (no d) = omega arith

pub tested_one : (n m : ℕ) (f : ℕ → ℕ) → OneToOne n m f → is_one_to_one n m f ≡ true
unfolding is_one_to_one
tested_one n m f h =
    all_every n (λ i. ltb (f i) m && every i (λ k. not (eqb (f k) (f i)))) (λ i l.
    true_and (ltb (f i) m) (every i (λ k. not (eqb (f k) (f i)))) (lt-ltb (f i) m (h.low i l))
    (all_every i (λ k. not (eqb (f k) (f i))) (λ k g.
    ap not (ne_eqb (f k) (f i) (λ e.
    let z = h.once k i (omega arith) l e in
    omega arith)))))

-- ---- the first n codings

module _ (n : ℕ) (s : List ℕ) where
  pub permutations_tested : are_permutations n s ≡ true → (k : ℕ) → k < n → Permutation (coding_at s k)
  unfolding are_permutations
  permutations_tested t k h = one_tested 16 16 (coding_at s k) (every_all n (λ k. is_one_to_one 16 16 (coding_at s k)) t k h)

  pub tested_permutations : ((k : ℕ) → k < n → Permutation (coding_at s k)) → are_permutations n s ≡ true
  unfolding are_permutations
  tested_permutations h = all_every n (λ k. is_one_to_one 16 16 (coding_at s k)) (λ k l. tested_one 16 16 (coding_at s k) (h k l))

-- coding k by word and half byte
place : (k : ℕ) → 8 * (k / 8) + k % 8 ≡ k
place k = omega arith

-- ---- a lone set

pub set_permutations : (s : List ℕ) → are_permutations 32 s ≡ true → Permutations (set_of s)
set_permutations s t w j hw hj = permutations_tested 32 s t (8 * w + j) (omega arith)

pub permutations_set : (s : List ℕ) → Permutations (set_of s) → are_permutations 32 s ≡ true
permutations_set s h =
    tested_permutations 32 s (λ k l.
    subst (λ (n : ℕ). Permutation (coding_at s n)) (place k) (h (k / 8) (k % 8) (omega arith) (omega arith)))

pub set_tested : (s : List ℕ) → Clear (set_tests s) → LoneSet s
unfolding set_tests
set_tested s c = record {
  size = eqb-true (length s) set_length (not-false (eqb (length s) set_length) c.0);
  codings = set_permutations s (not-false (are_permutations 32 s) c.1.0);
}

pub tested_set : (s : List ℕ) → LoneSet s → Clear (set_tests s)
unfolding set_tests
tested_set s h = (
  hold (eqb (length s) set_length) (eq-eqb (length s) set_length h.size),
  (hold (are_permutations 32 s) (permutations_set s h.codings), tt),
)

-- ---- a chain

-- coding k of set l is a coding of the chain
coding_in : (ch : List ℕ) (l k : ℕ) → coding_at (drop (set_length * suc l) ch) k ≡ coding_at ch (32 * suc l + k)
coding_in ch l k = λ i v. at v i
  where
    at : (v : ℕ) → coding_at (drop (set_length * suc l) ch) k v ≡ coding_at ch (32 * suc l + k) v
    at v =
        let e : set_length * suc l + (16 * k + v) ≡ 16 * (32 * suc l + k) + v = omega arith in
        get_or-drop (set_length * suc l) ch (16 * k + v) 0 ∙ ap (λ (n : ℕ). get_or ch n 0) e

-- word `to` of the set in t is coded as word `from` of the one in s exactly where `word_kept` says so
module _ (from to : ℕ) (s t : List ℕ) where
  pub kept_tested : word_kept from to s t ≡ true → SameWord from to (set_of s) (set_of t)
  kept_tested e j v hj hv =
      let a : 16 * (8 * to + j) + v ≡ 128 * to + (16 * j + v) = omega arith in
      let b : 16 * (8 * from + j) + v ≡ 128 * from + (16 * j + v) = omega arith in
      ap (λ (n : ℕ). get_or t n 0) a
      ∙ eqb-true (get_or t (128 * to + (16 * j + v)) 0) (get_or s (128 * from + (16 * j + v)) 0)
      (every_all 128 (λ k. eqb (get_or t (128 * to + k) 0) (get_or s (128 * from + k) 0)) e (16 * j + v) (omega arith))
      ∙ ap (λ (n : ℕ). get_or s n 0) (sym b)

  pub tested_kept : SameWord from to (set_of s) (set_of t) → word_kept from to s t ≡ true
  tested_kept h =
      all_every 128 (λ k. eqb (get_or t (128 * to + k) 0) (get_or s (128 * from + k) 0)) (λ k hk.
      let a : 16 * (8 * to + k / 16) + k % 16 ≡ 128 * to + k = omega arith in
      let b : 16 * (8 * from + k / 16) + k % 16 ≡ 128 * from + k = omega arith in
      eq-eqb (get_or t (128 * to + k) 0) (get_or s (128 * from + k) 0)
      (ap (λ (n : ℕ). get_or t n 0) (sym a) ∙ h (k / 16) (k % 16) (omega arith) (omega arith) ∙ ap (λ (n : ℕ). get_or s n 0) b))

-- the same for all sets of a chain
module _ (from to r : ℕ) (ch : List ℕ) where
  pub words_tested : words_kept from to r ch ≡ true → SameWords from to r ch
  unfolding words_kept
  words_tested t l hl =
      kept_tested from to (drop (set_length * suc l) ch) (drop (set_length * suc (suc l)) ch)
      (every_all r (λ l. word_kept from to (drop (set_length * suc l) ch) (drop (set_length * suc (suc l)) ch)) t l hl)

  pub tested_words : SameWords from to r ch → words_kept from to r ch ≡ true
  unfolding words_kept
  tested_words h =
      all_every r (λ l. word_kept from to (drop (set_length * suc l) ch) (drop (set_length * suc (suc l)) ch)) (λ l hl.
      tested_kept from to (drop (set_length * suc l) ch) (drop (set_length * suc (suc l)) ch) (h l hl))

module _ (r : ℕ) (ch : List ℕ) where
  pub codings_tested : coding_rule_holds r ch ≡ true → CodingRule r ch
  unfolding coding_rule_holds
  codings_tested t =
      let d = and_true (are_permutations (32 * (r + 2)) ch) (every r (λ l. are_permutations 24 (round_bytes r ch l))) t in
      let all = permutations_tested (32 * (r + 2)) ch d.0 in
      record {
        message = λ w j hw hj. all (8 * w + j) (omega arith);
        sets = λ l h w j hw hj. subst (λ (f : ℕ → ℕ). Permutation f) (sym (coding_in ch l (8 * w + j))) (all (32 * suc l + (8 * w + j)) (omega arith));
        middles = λ l i j hl hi hj. permutations_tested 24 (round_bytes r ch l)
            (every_all r (λ l. are_permutations 24 (round_bytes r ch l)) d.1 l hl) (8 * i + j) (omega arith);
      }

  pub tested_codings : CodingRule r ch → coding_rule_holds r ch ≡ true
  unfolding coding_rule_holds
  tested_codings h =
      true_and (are_permutations (32 * (r + 2)) ch) (every r (λ l. are_permutations 24 (round_bytes r ch l)))
      (tested_permutations (32 * (r + 2)) ch (λ k l. one k l (k / 32) refl))
      (all_every r (λ l. are_permutations 24 (round_bytes r ch l)) (λ l hl.
      tested_permutations 24 (round_bytes r ch l) (λ k hk.
      subst (λ (n : ℕ). Permutation (coding_at (round_bytes r ch l) n)) (place k) (h.middles l (k / 8) (k % 8) hl (omega arith) (omega arith)))))
    where
      one : (k : ℕ) → k < 32 * (r + 2) → (m : ℕ) → k / 32 ≡ m → Permutation (coding_at ch k)
      one k l zero e = subst (λ (n : ℕ). Permutation (coding_at ch n)) (place k) (h.message (k / 8) (k % 8) (omega arith) (omega arith))
      one k l (suc m) e =
          let a : 32 * suc m + (8 * (k / 8 % 4) + k % 8) ≡ k = omega arith in
          subst (λ (f : ℕ → ℕ). Permutation f) (coding_in ch m (8 * (k / 8 % 4) + k % 8) ∙ ap (λ (n : ℕ). coding_at ch n) a)
          (h.sets m (omega arith) (k / 8 % 4) (k % 8) (omega arith) (omega arith))

  pub masks_tested : mask_rule_holds r ch ≡ true → MaskRule r ch
  unfolding mask_rule_holds
  masks_tested t l k hl hk =
      ltb-true (mask_at r ch l k) 2
      (every_all 24 (λ k. ltb (mask_at r ch l k) 2) (every_all r (λ l. every 24 (λ k. ltb (mask_at r ch l k) 2)) t l hl) k hk)

  pub tested_masks : MaskRule r ch → mask_rule_holds r ch ≡ true
  unfolding mask_rule_holds
  tested_masks h =
      all_every r (λ l. every 24 (λ k. ltb (mask_at r ch l k) 2)) (λ l hl.
      all_every 24 (λ k. ltb (mask_at r ch l k) 2) (λ k hk. lt-ltb (mask_at r ch l k) 2 (h l k hl hk)))

  -- what a round of the tables asks of the chain
  pub valid_codings : CodingRule r ch → MaskRule r ch → (l : ℕ) → l < r → ValidCodings (round_codings r ch l)
  unfolding round_codings
  valid_codings c m l h = record {
    before_permute = c.sets l (omega arith);
    after_permute = c.sets (suc l) h;
    middle_permute = λ i j. c.middles l i j h;
    mask_bit = λ i j hi hj. bit i j hi hj;
    mask_first = λ i hi. refl;
    mask_next = λ i j hi hj. ap (λ (k : ℕ). mask_at r ch l (8 * i + k)) (omega arith);
  }
    where
      bit : (i j : ℕ) → i < 3 → j < 8 → mask_in r ch l i j < 2
      bit i zero hi hj = lit< tt
      bit i (suc j) hi hj = m l (8 * i + suc j) h (omega arith)

  pub valid_round : CodingRule r ch → SameWords 0 3 r ch → MaskRule r ch → (l : ℕ) → l < r → ValidRound (round_codings r ch l)
  valid_round c w m l h = record { codings = valid_codings c m l h; word3 = unfold round_codings in w l h }

-- the tests 2 to 5 let through the valid chains and no others
pub chain_tested : {from to : ℕ} (z : KeySize) (ch : List ℕ) → Clear (chain_tests_by from to z ch) → ChainBy from to z ch
unfolding chain_tests_by
chain_tested {from} {to} z ch c = record {
  size = eqb-true (length ch) (chain_length z) (not-false (eqb (length ch) (chain_length z)) c.0);
  codings = codings_tested (rounds z) ch (not-false (coding_rule_holds (rounds z) ch) c.1.0);
  words = words_tested from to (rounds z) ch (not-false (words_kept from to (rounds z) ch) c.1.1.0);
  masks = masks_tested (rounds z) ch (not-false (mask_rule_holds (rounds z) ch) c.1.1.1.0);
}

pub tested_chain : {from to : ℕ} (z : KeySize) (ch : List ℕ) → ChainBy from to z ch → Clear (chain_tests_by from to z ch)
unfolding chain_tests_by
tested_chain {from} {to} z ch h = (
  hold (eqb (length ch) (chain_length z)) (eq-eqb (length ch) (chain_length z) h.size),
  (
    hold (coding_rule_holds (rounds z) ch) (tested_codings (rounds z) ch h.codings),
    (
      hold (words_kept from to (rounds z) ch) (tested_words from to (rounds z) ch h.words),
      (hold (mask_rule_holds (rounds z) ch) (tested_masks (rounds z) ch h.masks), tt),
    ),
  ),
)

-- a set cut out of a chain is a lone set, and the same as in its place
pub lone_agree : (s : List ℕ) → Agree (set_of (take set_length s)) (set_of s)
lone_agree s w j v hw hj hv = get_or-take set_length s (16 * (8 * w + j) + v) 0 (omega arith)

pub lone_set : (s : List ℕ) → set_length ≤ length s → Permutations (set_of s) → LoneSet (take set_length s)
lone_set s h p = record {
  size = length-take-le set_length s h;
  codings = λ w j hw hj. once_ext 16 16 (set_of s w j) (set_of (take set_length s) w j) (λ v hv. sym (lone_agree s w j v hw hj hv)) (p w j hw hj);
}
