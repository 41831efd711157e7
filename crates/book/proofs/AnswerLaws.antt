-- The answers of the builder, case by case. The cases exclude each other and leave none out.
use mathlib.Core.Path.{◌≡◌, sym, ap, ◌∙◌}
use mathlib.Core.Bool.{Bool}
use mathlib.Core.List.{List, ◌++◌}
use Prim.Native.Nat.{ℕ, ◌-◌, ◌%◌, ◌≤◌, ◌<◌}
use native.Mathlib.Nat.{mod-lt}
use native.Mathlib.Omega.{arith}
use lib.ListN.{length, drop}
use Rattle.std.proofs.Common.{Some, None, Err, refl}
use Rattle.lists.specs.Refusals.{first}
use Rattle.cipher.specs.Refusal.{number_of}
use Rattle.cipher.specs.KeySize.{rounds, size_of_key}
use Rattle.cipher.specs.Schedules.{schedule_found, Named, key_read, key_rows}
use Rattle.cipher.specs.Book.{book_round}
use Rattle.cipher.proofs.KeySizeLaws.{rounds_more}
use Rattle.cipher.specs.Chain.{ChainBy, chain_tests_by}
use Rattle.cipher.proofs.CheckLaws.{told_refused}
use Rattle.cipher.proofs.ChainRefusals.{chain_taken}
use Rattle.cipher.specs.Answers.{room_tests}
use Rattle.cipher.proofs.AnswerLaws.{schedule_refused, key_refused, kind_refused, number_more, key_taken, room_refused, room_taken}
use Rattle.cipher.specs.declared.size.KeySize.{KeySize}
use Rattle.cipher.specs.declared.schedules.Schedule.{Schedule}
use Rattle.cipher.specs.declared.refusal.Refusal.{Refusal}
use Rattle.book.specs.Answers.{built_into}

module _ (from to s : ℕ) (key ch out : List ℕ) (len : KeySize → ℕ) (part : Schedule → KeySize → List ℕ) where
  tests : Schedule → KeySize → List (Bool × ℕ)
  tests k z = chain_tests_by from to z ch ++ room_tests (len z) out

  done : Schedule → KeySize → ℕ × List ℕ
  done k z = (0, part k z ++ drop (len z) out)

  pub built_schedule : schedule_found s ≡ None → built_into from to s key ch out len part ≡ (34, out)
  unfolding built_into tests done
  built_schedule e = schedule_refused s key tests (λ n. (n, out)) done e

  pub built_key : (k : Schedule) → schedule_found s ≡ Some k → size_of_key (length key) ≡ None → built_into from to s key ch out len part ≡ (1, out)
  unfolding built_into tests done
  built_key k n e = key_refused s key tests (λ n. (n, out)) done k n e

  -- the same by what is told of number and key together
  pub built_refused : (q : Refusal) → Err q ≡ key_read s key → built_into from to s key ch out len part ≡ (number_of q, out)
  unfolding built_into tests done
  built_refused q e = kind_refused s key tests (λ n. (n, out)) done q e

  module _ (k : Schedule) (z : KeySize) (e : Named s key k z) where
    sized : built_into from to s key ch out len part ≡ first (chain_tests_by from to z ch ++ room_tests (len z) out) (λ n. (n, out)) (0, part k z ++ drop (len z) out)
    unfolding built_into tests done
    sized = key_taken s key tests (λ n. (n, out)) done k z e

    pub built_chain : (n m : ℕ) → n ≡ first (chain_tests_by from to z ch) (λ k. k) 0 → m ≡ n → (m ≡ 0 → ⊥) → built_into from to s key ch out len part ≡ (n, out)
    built_chain n m q p h =
        sized ∙ told_refused (room_tests (len z) out) (λ k. (k, out)) (0, part k z ++ drop (len z) out) (chain_tests_by from to z ch) n (omega arith) (sym q)

    -- the same by the refusal that the check of the chain gives
    pub built_unchained : (q : Refusal) → number_of q ≡ first (chain_tests_by from to z ch) (λ k. k) 0 → built_into from to s key ch out len part ≡ (number_of q, out)
    built_unchained q p = built_chain (number_of q) (number_of q) p refl (λ e. omega (arith, number_more q))

    module _ (v : ChainBy from to z ch) where
      taken : built_into from to s key ch out len part ≡ first (room_tests (len z) out) (λ n. (n, out)) (0, part k z ++ drop (len z) out)
      taken = sized ∙ chain_taken (room_tests (len z) out) (λ n. (n, out)) (0, part k z ++ drop (len z) out) from to z ch v

      pub built_room : length out < len z → built_into from to s key ch out len part ≡ (9, out)
      built_room h = taken ∙ room_refused (len z) out (λ n. (n, out)) (0, part k z ++ drop (len z) out) h

      pub built_done : len z ≤ length out → (x : List ℕ) → x ≡ part k z → (0, x ++ drop (len z) out) ≡ built_into from to s key ch out len part
      built_done h x p =
          ap (λ (y : List ℕ). (0, y ++ drop (len z) out)) p ∙ sym (taken ∙ room_taken (len z) out (λ n. (n, out)) (0, part k z ++ drop (len z) out) h)

      -- the same where n is written for the length
      pub built_front : len z ≤ length out → (n : ℕ) → n ≡ len z → (x : List ℕ) → x ≡ part k z → (0, x ++ drop (n - 0) out) ≡ built_into from to s key ch out len part
      built_front h n e x p =
          let d : n - 0 ≡ len z = omega arith in
          ap (λ (k : ℕ). (0, x ++ drop k out)) d ∙ built_done h x p

-- a round number mod r
pub round_below : (z : KeySize) (l r : ℕ) → r ≡ rounds z → l % r < rounds z
round_below z l r e =
    let p = rounds_more z in
    rw e (mod-lt l (omega arith))

-- its tables under the rows of a key's size
pub round_is : (k : Schedule) (z : KeySize) (key ch x : List ℕ) (rows : List (List ℕ)) (y : KeySize) (l r : ℕ) → r ≡ rounds z → rows ≡ key_rows k z key → y ≡ z
    → x ≡ book_round (rounds y) rows ch (l % r) → x ≡ book_round (rounds z) (key_rows k z key) ch (l % rounds z)
round_is k z key ch x rows y l r er es ey e = e ∙ (λ i. book_round (rounds (ey i)) (es i) ch (l % er i))
