-- Laws for the checks of sets and chains: what a turn of a loop, or a rule that was found broken or kept, says of the tests;
-- and what the number that a check gives says of the set or the chain.
use Rattle.std.proofs.Common.{◌≡◌, ℕ, suc, ◌+◌, ◌-◌, ◌*◌, ◌<◌, Bool, true, false, cond, List, [], ◌∷◌, ◌++◌, length, take, drop, sym, refl, ap, ◌∙◌, arith, lit<, eq-eqb, ne_eqb, ◌≤◌, ◌&&◌, eqb, get_or}
use Rattle.lists.specs.Every.{every}
use Rattle.lists.specs.Refusals.{first}
use Rattle.lists.proofs.RefusalLaws.{Clear}
use Rattle.lists.proofs.EveryLaws.{every_ext}
use Rattle.lists.proofs.AllLaws.{every_front}
use Rattle.lists.proofs.PartLaws.{part_end, length_part, get_or_part}
use Rattle.std.specs.List.{fold, zip}
use Rattle.std.proofs.Math.Bool.{and_assoc, and-true}
use Rattle.cipher.specs.KeySize.{rounds, chain_length}
use Rattle.cipher.specs.Chain.{ChainBy, LoneSet, are_permutations, coding_rule_holds, word_kept, words_kept, mask_rule_holds, set_tests, chain_tests_by}
use Rattle.cipher.specs.Lengths.{set_length}
use Rattle.cipher.specs.declared.size.KeySize.{KeySize}
use Rattle.cipher.proofs.ChainTests.{set_tested, chain_tested}

-- ---- a word rule, between parts of a chain as the code lends them

-- all pairs so far are the same, and one more
abbrev pub keep : Bool → ℕ × ℕ → Bool
keep b p = b && eqb p.0 p.1

kept_all : (xs ys : List ℕ) (b : Bool) → length xs ≡ length ys
    → fold keep b (zip xs ys) ≡ b && every (length xs) (λ k. eqb (get_or xs k 0) (get_or ys k 0))
unfolding every
kept_all [] [] b l = sym (and-true b)
kept_all [] (y ∷ ys) b l = absurd (omega arith)
kept_all (x ∷ xs) [] b l = absurd (omega arith)
kept_all (x ∷ xs) (y ∷ ys) b l =
    kept_all xs ys (b && eqb x y) (omega arith)
    ∙ and_assoc b (eqb x y) (every (length xs) (λ k. eqb (get_or xs k 0) (get_or ys k 0)))
    ∙ ap (λ (q : Bool). b && q) (sym (every_front (length xs) (λ k. eqb (get_or (x ∷ xs) k 0) (get_or (y ∷ ys) k 0))))

pub word_folded : (from to : ℕ) (before after : List ℕ) (r : Bool) → 128 * from + 128 ≤ length before → 128 * to + 128 ≤ length after
    → r ≡ fold keep true (zip (take (128 * to + 128 - 128 * to) (drop (128 * to) after)) (take (128 * from + 128 - 128 * from) (drop (128 * from) before)))
    → r ≡ word_kept from to before after
word_folded from to before after r h k e =
    let m = length_part after (128 * to) 128 k in
    let n = length_part before (128 * from) 128 h in
    e
    ∙ kept_all _ _ true (m ∙ sym n)
    ∙ ap (λ (l : ℕ). every l (λ i. eqb (get_or (take (128 * to + 128 - 128 * to) (drop (128 * to) after)) i 0) (get_or (take (128 * from + 128 - 128 * from) (drop (128 * from) before)) i 0))) m
    ∙ every_ext 128 _ _ (λ i b j. eqb (get_or_part after (128 * to) 128 i b j) (get_or_part before (128 * from) 128 i b j))

pub word_turn : (from to : ℕ) (ch : List ℕ) (l : ℕ) (b : Bool)
    → word_kept from to (take (length ch - set_length * (l + 1)) (drop (set_length * (l + 1)) ch)) (take (length ch - set_length * (l + 2)) (drop (set_length * (l + 2)) ch)) ≡ b
    → word_kept from to (drop (set_length * suc l) ch) (drop (set_length * suc (suc l)) ch) ≡ b
word_turn from to ch l b h =
    let p : l + 1 ≡ suc l = omega arith in
    let q : l + 2 ≡ suc (suc l) = omega arith in
    (λ i. word_kept from to (drop (set_length * sym p i) ch) (drop (set_length * sym q i) ch))
    ∙ (λ i. word_kept from to (sym (part_end ch (set_length * (l + 1))) i) (sym (part_end ch (set_length * (l + 2))) i))
    ∙ h

-- ---- the answers for a lone set

module _ (s : List ℕ) where
  pub set_length_wrong : (length s ≡ set_length → ⊥) → first (set_tests s) (λ q. q) 0 ≡ 2
  unfolding set_tests first
  set_length_wrong h = rw (ne_eqb (length s) set_length h)

  pub set_coding_wrong : length s ≡ set_length → are_permutations 32 s ≡ false → first (set_tests s) (λ q. q) 0 ≡ 3
  unfolding set_tests first
  set_coding_wrong h p = rw (eq-eqb (length s) set_length h, p)

  pub set_right : length s ≡ set_length → are_permutations 32 s ≡ true → first (set_tests s) (λ q. q) 0 ≡ 0
  unfolding set_tests first
  set_right h p = rw (eq-eqb (length s) set_length h, p)

-- ---- the answers for a chain of a key of size z, with any word rule

module _ (from to : ℕ) (z : KeySize) (ch : List ℕ) where
  pub chain_length_wrong : (length ch ≡ chain_length z → ⊥) → first (chain_tests_by from to z ch) (λ q. q) 0 ≡ 2
  unfolding chain_tests_by first
  chain_length_wrong h = rw (ne_eqb (length ch) (chain_length z) h)

  module _ (h : length ch ≡ chain_length z) where
    pub chain_codings_wrong : coding_rule_holds (rounds z) ch ≡ false → first (chain_tests_by from to z ch) (λ q. q) 0 ≡ 3
    unfolding chain_tests_by first
    chain_codings_wrong p = rw (eq-eqb (length ch) (chain_length z) h, p)

    module _ (c : coding_rule_holds (rounds z) ch ≡ true) where
      pub chain_words_wrong : words_kept from to (rounds z) ch ≡ false → first (chain_tests_by from to z ch) (λ q. q) 0 ≡ 4
      unfolding chain_tests_by first
      chain_words_wrong p = rw (eq-eqb (length ch) (chain_length z) h, c, p)

      module _ (w : words_kept from to (rounds z) ch ≡ true) where
        pub chain_masks_wrong : mask_rule_holds (rounds z) ch ≡ false → first (chain_tests_by from to z ch) (λ q. q) 0 ≡ 5
        unfolding chain_tests_by first
        chain_masks_wrong p = rw (eq-eqb (length ch) (chain_length z) h, c, w, p)

        pub chain_right : mask_rule_holds (rounds z) ch ≡ true → first (chain_tests_by from to z ch) (λ q. q) 0 ≡ 0
        unfolding chain_tests_by first
        chain_right p = rw (eq-eqb (length ch) (chain_length z) h, c, w, p)

-- ---- what the number that a check gives tells its caller

-- no test has the number 0, which is the answer where none applies
abbrev pub Numbered : List (Bool × ℕ) → Type 0
Numbered [] = Unit {0}
Numbered (t ∷ ts) = (0 < t.1) × Numbered ts

pub told_clear : (ts : List (Bool × ℕ)) → Numbered ts → first ts (λ q. q) 0 ≡ 0 → Clear ts
unfolding first
told_clear [] n e = tt
told_clear (t ∷ ts) n e = go t.0 refl (told_clear ts n.1) e
  where
    go : (b : Bool) → t.0 ≡ b → (first ts (λ q. q) 0 ≡ 0 → Clear ts) → cond b t.1 (first ts (λ q. q) 0) ≡ 0 → (t.0 ≡ false) × Clear ts
    go true d k h = let l = n.0 in absurd (omega arith)
    go false d k h = (d, k h)

module _ {A : Type 0} (us : List (Bool × ℕ)) (refuse : ℕ → A) (go : A) where
  -- a refusal is the same where other tests come after
  pub told_refused : (ts : List (Bool × ℕ)) (q : ℕ) → 0 < q → first ts (λ n. n) 0 ≡ q → first (ts ++ us) refuse go ≡ refuse q
  unfolding first
  told_refused [] q h e = absurd (omega arith)
  told_refused (t ∷ ts) q h e = each t.0 (told_refused ts q h) e
    where
      each : (b : Bool) → (first ts (λ n. n) 0 ≡ q → first (ts ++ us) refuse go ≡ refuse q)
          → cond b t.1 (first ts (λ n. n) 0) ≡ q → cond b (refuse t.1) (first (ts ++ us) refuse go) ≡ refuse q
      each true k d = ap refuse d
      each false k d = k d

  -- and where there is none, those decide
  pub clear_taken : (ts : List (Bool × ℕ)) → Clear ts → first (ts ++ us) refuse go ≡ first us refuse go
  unfolding first
  clear_taken [] c = refl
  clear_taken (t ∷ ts) c = rw c.0 (clear_taken ts c.1)

set_numbered : (s : List ℕ) → Numbered (set_tests s)
unfolding set_tests
set_numbered s = (lit< tt, (lit< tt, tt))

chain_numbered : (from to : ℕ) (z : KeySize) (ch : List ℕ) → Numbered (chain_tests_by from to z ch)
unfolding chain_tests_by
chain_numbered from to z ch = (lit< tt, (lit< tt, (lit< tt, (lit< tt, tt))))

-- a set, or a chain, that a check did not refuse
pub set_checked_lem : (s : List ℕ) → first (set_tests s) (λ q. q) 0 ≡ 0 → LoneSet s
set_checked_lem s e = set_tested s (told_clear (set_tests s) (set_numbered s) e)

pub chain_checked_lem : {from to : ℕ} (z : KeySize) (ch : List ℕ) → first (chain_tests_by from to z ch) (λ q. q) 0 ≡ 0 → ChainBy from to z ch
chain_checked_lem {from} {to} z ch e = chain_tested z ch (told_clear (chain_tests_by from to z ch) (chain_numbered from to z ch) e)
