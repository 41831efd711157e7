-- The answers of the pad's two codings, case by case (document 01, "Refusals from the input", numbers 2, 3, 8 and 9). The cases
-- exclude each other and leave none out, so each refusal is given exactly under its condition.
use mathlib.Core.Path.{◌≡◌, sym, ap, ap₂, ◌∙◌}
use mathlib.Core.List.{List, [], ◌∷◌, ◌++◌}
use Prim.Native.Nat.{ℕ, ◌*◌, ◌≤◌, ◌<◌}
use native.Mathlib.Omega.{arith}
use borrow.Author.Tests.{lt-ltb, le-ltb, ltb-false}
use lib.Dec.{ltb, lit<}
use lib.ListN.{length, drop}
use Rattle.lists.specs.Refusals.{first}
use Rattle.lists.proofs.RefusalLaws.{Clear, first_hit, first_pass}
use Rattle.cipher.specs.Refusal.{number_of}
use Rattle.cipher.specs.Coding.{Permutations, LowSet, set_of, byte_coded}
use Rattle.cipher.specs.Chain.{LoneSet, set_tests}
use Rattle.cipher.specs.Lengths.{longest_message, set_length}
use Rattle.cipher.proofs.InverseLaws.{low_set}
use Rattle.cipher.proofs.ChainTests.{set_tested}
use Rattle.cipher.proofs.ChainRefusals.{set_length_refused, set_coding_refused, set_taken}
use Rattle.cipher.proofs.CheckLaws.{Numbered, told_clear, told_refused}
use Rattle.cipher.specs.declared.refusal.Refusal.{Refusal}
use Rattle.cipher.proofs.AnswerLaws.{number_more}
use Rattle.pad.specs.CodedParts.{coded_part}
use Rattle.pad.specs.Padding.{coded_text, padded_for_sealing, padded_for_tag, kind_of}
use Rattle.pad.specs.Answers.{coding_tests, coded_into, sealing_answer, tag_answer}
use Rattle.pad.proofs.CodedPartLaws.{part_blocks}

-- ---- the tests: for a set u, a message of n bytes, and total bytes to be written where there is room for some

module _ {A : Type 0} (u : List ℕ) (n total room : ℕ) (refuse : ℕ → A) (go : A) where
  pub tests_set_length : (length u ≡ set_length → ⊥) → first (coding_tests u n total room) refuse go ≡ refuse 2
  unfolding coding_tests
  tests_set_length h = set_length_refused ((ltb longest_message n, 8) ∷ (ltb room total, 9) ∷ []) refuse go u h

  pub tests_set_coding : length u ≡ set_length → (Permutations (set_of u) → ⊥) → first (coding_tests u n total room) refuse go ≡ refuse 3
  unfolding coding_tests
  tests_set_coding h p = set_coding_refused ((ltb longest_message n, 8) ∷ (ltb room total, 9) ∷ []) refuse go u h p

  module _ (v : LoneSet u) where
    set_fine : first (coding_tests u n total room) refuse go ≡ first ((ltb longest_message n, 8) ∷ (ltb room total, 9) ∷ []) refuse go
    unfolding coding_tests
    set_fine = set_taken ((ltb longest_message n, 8) ∷ (ltb room total, 9) ∷ []) refuse go u v

    pub tests_long : longest_message < n → first (coding_tests u n total room) refuse go ≡ refuse 8
    tests_long h = set_fine ∙ first_hit (ltb longest_message n) 8 ((ltb room total, 9) ∷ []) refuse go (lt-ltb longest_message n h)

    module _ (l : n ≤ longest_message) where
      length_fine : first (coding_tests u n total room) refuse go ≡ first ((ltb room total, 9) ∷ []) refuse go
      length_fine = set_fine ∙ first_pass (ltb longest_message n) 8 ((ltb room total, 9) ∷ []) refuse go (le-ltb longest_message n l)

      pub tests_short : room < total → first (coding_tests u n total room) refuse go ≡ refuse 9
      tests_short h = length_fine ∙ first_hit (ltb room total) 9 [] refuse go (lt-ltb room total h)

      pub tests_clear : total ≤ room → first (coding_tests u n total room) refuse go ≡ go
      unfolding first
      tests_clear h = length_fine ∙ first_pass (ltb room total) 9 [] refuse go (le-ltb room total h)

-- ---- both codings, of the message m, padded to text, into the front of out

module _ {A : Type 0} (nothing told : A) (u m text out : List ℕ) where
  pub coded_set_length : (length u ≡ set_length → ⊥) → coded_into nothing told u m text out ≡ ((2, nothing), out)
  unfolding coded_into
  coded_set_length h = tests_set_length u (length m) (length text) (length out) (λ q. ((q, nothing), out)) ((0, told), coded_text (set_of u) text ++ drop (length text) out) h

  pub coded_set_coding : length u ≡ set_length → (Permutations (set_of u) → ⊥) → coded_into nothing told u m text out ≡ ((3, nothing), out)
  unfolding coded_into
  coded_set_coding h p = tests_set_coding u (length m) (length text) (length out) (λ q. ((q, nothing), out)) ((0, told), coded_text (set_of u) text ++ drop (length text) out) h p

  module _ (v : LoneSet u) where
    pub coded_long : longest_message < length m → coded_into nothing told u m text out ≡ ((8, nothing), out)
    unfolding coded_into
    coded_long h = tests_long u (length m) (length text) (length out) (λ q. ((q, nothing), out)) ((0, told), coded_text (set_of u) text ++ drop (length text) out) v h

    module _ (l : length m ≤ longest_message) where
      pub coded_short : length out < length text → coded_into nothing told u m text out ≡ ((9, nothing), out)
      unfolding coded_into
      coded_short h = tests_short u (length m) (length text) (length out) (λ q. ((q, nothing), out)) ((0, told), coded_text (set_of u) text ++ drop (length text) out) v l h

      pub coded_done : length text ≤ length out → coded_into nothing told u m text out ≡ ((0, told), coded_text (set_of u) text ++ drop (length text) out)
      unfolding coded_into
      coded_done h = tests_clear u (length m) (length text) (length out) (λ q. ((q, nothing), out)) ((0, told), coded_text (set_of u) text ++ drop (length text) out) v l h

-- ---- coding for sealing, coding for a tag: each number exactly under its condition

module _ (u m out : List ℕ) where
  pub sealing_set_length : (length u ≡ set_length → ⊥) → sealing_answer u m out ≡ ((2, 0), out)
  sealing_set_length h = coded_set_length 0 (length (padded_for_sealing m)) u m (padded_for_sealing m) out h

  pub tag_set_length : (length u ≡ set_length → ⊥) → tag_answer u m out ≡ ((2, (0, 0)), out)
  tag_set_length h = coded_set_length (0, 0) (length (padded_for_tag m), kind_of (length m)) u m (padded_for_tag m) out h

  pub sealing_set_coding : length u ≡ set_length → (Permutations (set_of u) → ⊥) → sealing_answer u m out ≡ ((3, 0), out)
  sealing_set_coding h p = coded_set_coding 0 (length (padded_for_sealing m)) u m (padded_for_sealing m) out h p

  pub tag_set_coding : length u ≡ set_length → (Permutations (set_of u) → ⊥) → tag_answer u m out ≡ ((3, (0, 0)), out)
  tag_set_coding h p = coded_set_coding (0, 0) (length (padded_for_tag m), kind_of (length m)) u m (padded_for_tag m) out h p

  module _ (v : LoneSet u) where
    pub sealing_long : longest_message < length m → sealing_answer u m out ≡ ((8, 0), out)
    sealing_long h = coded_long 0 (length (padded_for_sealing m)) u m (padded_for_sealing m) out v h

    pub tag_long : longest_message < length m → tag_answer u m out ≡ ((8, (0, 0)), out)
    tag_long h = coded_long (0, 0) (length (padded_for_tag m), kind_of (length m)) u m (padded_for_tag m) out v h

    module _ (l : length m ≤ longest_message) where
      pub sealing_short : length out < length (padded_for_sealing m) → sealing_answer u m out ≡ ((9, 0), out)
      sealing_short h = coded_short 0 (length (padded_for_sealing m)) u m (padded_for_sealing m) out v l h

      pub tag_short : length out < length (padded_for_tag m) → tag_answer u m out ≡ ((9, (0, 0)), out)
      tag_short h = coded_short (0, 0) (length (padded_for_tag m), kind_of (length m)) u m (padded_for_tag m) out v l h

      pub sealing_coded : length (padded_for_sealing m) ≤ length out
          → sealing_answer u m out ≡ ((0, length (padded_for_sealing m)), coded_text (set_of u) (padded_for_sealing m) ++ drop (length (padded_for_sealing m)) out)
      sealing_coded h = coded_done 0 (length (padded_for_sealing m)) u m (padded_for_sealing m) out v l h

      pub tag_coded : length (padded_for_tag m) ≤ length out
          → tag_answer u m out ≡ ((0, (length (padded_for_tag m), kind_of (length m))), coded_text (set_of u) (padded_for_tag m) ++ drop (length (padded_for_tag m)) out)
      tag_coded h = coded_done (0, 0) (length (padded_for_tag m), kind_of (length m)) u m (padded_for_tag m) out v l h

-- ---- for the code: what both codings get from `admit`

module _ (u : List ℕ) (n total room : ℕ) where
  -- what the check of the set refused
  pub admit_set : (q : Refusal) → number_of q ≡ first (set_tests u) (λ k. k) 0 → number_of q ≡ first (coding_tests u n total room) (λ k. k) 0
  unfolding coding_tests
  admit_set q e =
      sym (told_refused ((ltb longest_message n, 8) ∷ (ltb room total, 9) ∷ []) (λ k. k) 0 (set_tests u) (number_of q) (number_more q) (sym e))

  numbered : Numbered (coding_tests u n total room)
  unfolding coding_tests set_tests
  numbered = (lit< tt, (lit< tt, (lit< tt, (lit< tt, tt))))

  pub refused_by : {A : Type 0} (refuse : ℕ → A) (go : A) (q : Refusal) → number_of q ≡ first (coding_tests u n total room) (λ k. k) 0
      → first (coding_tests u n total room) refuse go ≡ refuse (number_of q)
  unfolding coding_tests set_tests
  refused_by refuse go q e = told_refused [] refuse go (coding_tests u n total room) (number_of q) (number_more q) (sym e)

  module _ (e : 0 ≡ first (coding_tests u n total room) (λ q. q) 0) where
    -- the set is one, the message not too long, and there is room
    pub admitted : LoneSet u × (n ≤ longest_message) × (total ≤ room)
    unfolding coding_tests set_tests
    admitted = parts (told_clear (coding_tests u n total room) numbered (sym e))
      where
        parts : Clear (coding_tests u n total room) → LoneSet u × (n ≤ longest_message) × (total ≤ room)
        parts c = (set_tested u (c.0, (c.1.0, tt)), ltb-false longest_message n c.1.1.0, ltb-false room total c.1.1.1.0)

    pub admitted_low : (512 ≤ length u) × LowSet u × (total ≤ room)
    admitted_low =
        let h = admitted in
        (omega (arith, h.0.size), low_set u h.0.codings, h.2)

-- the two ways in which a coding ends, for a message padded to total bytes
module _ {A : Type 0} (nothing told : A) (u m text out : List ℕ) (total : ℕ) (size : length text ≡ total) where
  pub answer_refused : (q : Refusal) → number_of q ≡ first (coding_tests u (length m) total (length out)) (λ k. k) 0
      → ((number_of q, nothing), out) ≡ coded_into nothing told u m text out
  unfolding coded_into
  answer_refused q e =
      sym (refused_by u (length m) total (length out) (λ q. ((q, nothing), out)) ((0, told), coded_text (set_of u) text ++ drop (length text) out) q e)
      ∙ ap (λ (k : ℕ). first (coding_tests u (length m) k (length out)) (λ q. ((q, nothing), out)) ((0, told), coded_text (set_of u) text ++ drop (length text) out)) (sym size)

  pub answer_coded : 0 ≡ first (coding_tests u (length m) total (length out)) (λ q. q) 0
      → (tail end : List ℕ) (n k : ℕ) (said : A) → text ≡ m ++ tail → length text ≡ 16 * n
      → end ≡ coded_part (byte_coded u) 0 (m ++ tail) ++ drop k out → k ≡ total → said ≡ told
      → ((0, said), end) ≡ coded_into nothing told u m text out
  answer_coded e tail end n k said t b w i s =
      let h = admitted u (length m) total (length out) e in
      ap₂ (λ (a : A) (x : List ℕ). ((0, a), x)) s
      (w
      ∙ ap₂ {C = List ℕ} (λ (a : List ℕ) (j : ℕ). a ++ drop j out) (ap (coded_part (byte_coded u) 0) (sym t) ∙ part_blocks u n text b) (i ∙ sym size))
      ∙ sym (coded_done nothing told u m text out h.0 h.1 (omega (arith, h.2)))
