-- The answers of the chain maker, case by case. The cases exclude each other and leave none out.
use mathlib.Core.Path.{◌≡◌, sym, ◌∙◌}
use Rattle.std.proofs.Common.{Some, None}
use mathlib.Core.Bool.{Bool}
use mathlib.Core.List.{List, [], ◌∷◌, ◌++◌}
use Prim.Native.Nat.{ℕ, ◌-◌, ◌≤◌, ◌<◌}
use native.Mathlib.Omega.{arith}
use borrow.Author.Tests.{lt-ltb, le-ltb}
use lib.Dec.{ltb}
use lib.ListN.{length, drop}
use Rattle.lists.specs.Refusals.{first}
use Rattle.lists.proofs.RefusalLaws.{first_hit, first_pass}
use Rattle.cipher.specs.KeySize.{rounds, chain_length, size_of_key}
use Rattle.cipher.specs.Lengths.{set_length}
use Rattle.cipher.specs.Coding.{Permutations, set_of}
use Rattle.cipher.specs.Chain.{LoneSet, set_tests}
use Rattle.cipher.specs.Answers.{set_checked}
use Rattle.cipher.specs.Refusal.{number_of}
use Rattle.cipher.specs.declared.size.KeySize.{KeySize}
use Rattle.cipher.specs.declared.refusal.Refusal.{Refusal}
use Rattle.cipher.proofs.AnswerLaws.{length_refused, length_taken, number_more}
use Rattle.cipher.proofs.ChainRefusals.{set_length_refused, set_coding_refused, set_taken}
use Rattle.cipher.proofs.CheckLaws.{told_refused}
use Rattle.maker.specs.Plan.{Plan, sealing, reading}
use Rattle.maker.specs.MadeChain.{chain_draws, chain_made}
use Rattle.maker.specs.Answers.{draw_tests, made_into, make_tests, make_answer, make_reading_tests, make_reading_answer}

abbrev Answer : Type 0
Answer = (ℕ × ℕ) × List ℕ

abbrev refuse : List ℕ → ℕ → Answer
refuse out q = ((q, 0), out)

-- ---- a chain by a plan, for a key of size z

module _ (p : Plan) (z : KeySize) (random out : List ℕ) where
  abbrev drawn : List (Bool × ℕ)
  drawn = draw_tests p z random out

  abbrev done : Answer
  done = ((0, chain_draws p (rounds z) random), chain_made p (rounds z) random ++ drop (chain_length z) out)

  abbrev ran_out : List (Bool × ℕ)
  ran_out = (ltb (length random) (chain_draws p (rounds z) random), 32) ∷ []

  pub made_room : length out < chain_length z → made_into drawn p z random out ≡ ((9, 0), out)
  unfolding made_into
  made_room h = first_hit (ltb (length out) (chain_length z)) 9 ran_out (refuse out) done (lt-ltb (length out) (chain_length z) h)

  module _ (h : chain_length z ≤ length out) where
    roomy : made_into drawn p z random out ≡ first ran_out (refuse out) done
    unfolding made_into
    roomy = first_pass (ltb (length out) (chain_length z)) 9 ran_out (refuse out) done (le-ltb (length out) (chain_length z) h)

    pub made_ran_out : length random < chain_draws p (rounds z) random → made_into drawn p z random out ≡ ((32, 0), out)
    made_ran_out l =
        roomy
        ∙ first_hit (ltb (length random) (chain_draws p (rounds z) random)) 32 [] (refuse out) done (lt-ltb (length random) (chain_draws p (rounds z) random) l)

    pub made_done : chain_draws p (rounds z) random ≤ length random
        → made_into drawn p z random out ≡ ((0, chain_draws p (rounds z) random), chain_made p (rounds z) random ++ drop (chain_length z) out)
    unfolding first
    made_done l =
        roomy
        ∙ first_pass (ltb (length random) (chain_draws p (rounds z) random)) 32 [] (refuse out) done (le-ltb (length random) (chain_draws p (rounds z) random) l)

    -- the same where m is written for the length, k for the count and x for the chain
    pub made_front : chain_draws p (rounds z) random ≤ length random → (m k : ℕ) (x : List ℕ) → m ≡ chain_length z → k ≡ chain_draws p (rounds z) random
        → x ≡ chain_made p (rounds z) random → ((0, k), x ++ drop (m - 0) out) ≡ made_into drawn p z random out
    made_front l m k x em ek ex =
        let d : m - 0 ≡ chain_length z = omega arith in
        (λ i. ((0, ek i), ex i ++ drop (d i) out)) ∙ sym (made_done l)

-- ---- a chain

module _ (n : ℕ) (random out : List ℕ) where
  pub make_key : size_of_key n ≡ None → make_answer n random out ≡ ((1, 0), out)
  unfolding made_into make_tests
  make_key e = length_refused n (λ z. drawn sealing z random out) (refuse out) (λ z. done sealing z random out) e

  -- otherwise what making says for the key's size
  pub make_sized : (z : KeySize) → size_of_key n ≡ Some z → make_answer n random out ≡ made_into (draw_tests sealing z random out) sealing z random out
  unfolding made_into make_tests
  make_sized z e = length_taken n (λ z. drawn sealing z random out) (refuse out) (λ z. done sealing z random out) z e

-- ---- a reading chain

module _ (n : ℕ) (set random out : List ℕ) where
  abbrev rest : KeySize → List (Bool × ℕ)
  rest z = drawn (reading set) z random out

  abbrev made : KeySize → Answer
  made z = done (reading set) z random out

  pub reading_key : size_of_key n ≡ None → make_reading_answer n set random out ≡ ((1, 0), out)
  unfolding made_into make_reading_tests
  reading_key e = length_refused n (λ z. set_tests set ++ rest z) (refuse out) made e

  module _ (z : KeySize) (e : size_of_key n ≡ Some z) where
    keyed : make_reading_answer n set random out ≡ first (set_tests set ++ rest z) (refuse out) (made z)
    unfolding made_into make_reading_tests
    keyed = length_taken n (λ z. set_tests set ++ rest z) (refuse out) made z e

    pub reading_set_length : (length set ≡ set_length → ⊥) → make_reading_answer n set random out ≡ ((2, 0), out)
    reading_set_length h = keyed ∙ set_length_refused (rest z) (refuse out) (made z) set h

    pub reading_set_coding : length set ≡ set_length → (Permutations (set_of set) → ⊥) → make_reading_answer n set random out ≡ ((3, 0), out)
    reading_set_coding h b = keyed ∙ set_coding_refused (rest z) (refuse out) (made z) set h b

    -- both, as the check of the set tells them
    pub reading_set : (q : Refusal) → number_of q ≡ set_checked set → make_reading_answer n set random out ≡ ((number_of q, 0), out)
    reading_set q e = keyed ∙ told_refused (rest z) (refuse out) (made z) (set_tests set) (number_of q) (number_more q) (sym e)

    -- otherwise what making says for the key's size
    pub reading_sized : LoneSet set → make_reading_answer n set random out ≡ made_into (draw_tests (reading set) z random out) (reading set) z random out
    unfolding made_into
    reading_sized v = keyed ∙ set_taken (rest z) (refuse out) (made z) set v
