-- Laws of the round program's rounds: what building the tables of a round and running them gives, rounds one after
-- another, and decoding by a set of the chain.
use mathlib.Core.Path.{◌≡◌, refl, sym, ap, ◌∙◌}
use mathlib.Core.List.{List, []}
use Prim.Native.Nat.{ℕ, zero, suc, ◌+◌, ◌-◌, ◌*◌, ◌%◌, ◌≤◌, ◌<◌}
use native.Mathlib.Nat.{le_of_eq, mod-eq_of_lt}
use native.Mathlib.Omega.{arith}
use lib.ListN.{length, get_or, take, drop, length-drop}
use Rattle.std.proofs.Common.{Result, Ok, Err}
use Rattle.std.specs.Result.{IsOk}
use Rattle.lists.proofs.PartLaws.{part_end, grown_whole}
use Rattle.cipher.specs.KeySize.{rounds, size_of_key}
use Rattle.cipher.specs.Schedules.{key_rows}
use Rattle.cipher.specs.Coding.{FirstPermutations, LowSet, set_of, inverted, coded, decoded}
use Rattle.cipher.specs.Tables.{table_round, table_rounds}
use Rattle.cipher.specs.Chain.{Chain, chain_set, round_codings}
use Rattle.cipher.specs.Book.{book_round}
use Rattle.cipher.specs.declared.size.KeySize.{KeySize}
use Rattle.cipher.specs.declared.schedules.Schedule.TheVariants.{Lea}
use Rattle.cipher.specs.Refusal.{number_of, outcome_of}
use Rattle.cipher.specs.Answers.{block_told}
use Rattle.cipher.specs.declared.refusal.Refusal.{Refusal}
use Rattle.cipher.proofs.AnswerLaws.{number_more}
use Rattle.cipher.proofs.KeySizeLaws.{size_of_key_lem, rounds_le, rounds_more}
use Rattle.cipher.proofs.InverseLaws.{length_inverted, decoded_inverted, low_inverted}
use Rattle.cipher.proofs.SchedulesLaws.{numbered_0}
use Rattle.cipher.proofs.BookLaw.{round_size}
use Rattle.book.specs.Answers as book
use Rattle.book.proofs.AnswerLaws.{built_done}
use Rattle.table_maker.proofs.ChainLaws.{sets_permute}
use Rattle.driver.specs.Driver as driver
use Rattle.driver.proofs.AnswerLaws.{tables_done}
use Rattle.round.specs.Round.{Ready, tables_of, later_rounds}

-- a refusal's number is not 0
pub not_zero : (q : Refusal) → number_of q ≡ 0 → ⊥
not_zero q e = omega (arith, number_more q)

-- ---- the tables of a round, built and run

module _ (z : KeySize) (key ch : List ℕ) (h : Ready z key ch) (l : ℕ) (b : l < rounds z) where
  tables_size : length (tables_of z key ch l) ≡ 18432
  unfolding book_round
  tables_size = round_size (round_codings (rounds z) ch l) (get_or (key_rows Lea z key) l [])

  made : (t : List ℕ) → length t ≡ 18432 → (0, tables_of z key ch l) ≡ book.build_round_answer 0 key ch l t
  made t e =
      let x = book_round (rounds z) (key_rows Lea z key) ch (l % rounds z) in
      ap (λ (u : List ℕ). (0, u)) (sym (grown_whole x t 18432 (le_of_eq e) ∙ ap (tables_of z key ch) (mod-eq_of_lt b)))
      ∙ built_done 0 3 0 key ch t (λ z. 18432) (λ k z. book_round (rounds z) (key_rows k z key) ch (l % rounds z)) Lea z
      (numbered_0 0 refl, ap size_of_key h.0 ∙ size_of_key_lem z) h.1 (le_of_eq (sym e)) x refl

  -- nothing is refused
  pub built : (r : Result (Unit {0}) Refusal) (t u : List ℕ) → length t ≡ 18432 → (outcome_of r, u) ≡ book.build_round_answer 0 key ch l t → IsOk r × (u ≡ tables_of z key ch l)
  built (Ok v) t u e q = (refl, ap (λ (p : ℕ × List ℕ). p.1) (q ∙ sym (made t e)))
  built (Err w) t u e q =
      absurd (not_zero w (ap (λ (p : ℕ × List ℕ). p.0) (q ∙ sym (made t e))))

  pub ran : (a : Result (Unit {0}) Refusal) (r : Result (List ℕ) Refusal) (t u x : List ℕ) → length t ≡ 18432 → length x ≡ 16
      → (outcome_of a, u) ≡ book.build_round_answer 0 key ch l t → block_told r ≡ driver.run_round_answer u x → r ≡ Ok (table_round (tables_of z key ch l) x)
  ran a r t u x e f p q = each r (q ∙ tables_done u x (ap length d ∙ tables_size) f ∙ ap (λ (t : List ℕ). (0, table_round t x)) d)
    where
      d : u ≡ tables_of z key ch l
      d = (built a t u e p).1

      each : (r : Result (List ℕ) Refusal) → block_told r ≡ (0, table_round (tables_of z key ch l) x) → r ≡ Ok (table_round (tables_of z key ch l) x)
      each (Ok y) q = ap Ok (ap (λ (p : ℕ × List ℕ). p.1) q)
      each (Err w) q = absurd (not_zero w (ap (λ (p : ℕ × List ℕ). p.0) q))

-- ---- rounds one after another

-- one more, and, after round 0, all
pub later_turn : (z : KeySize) (key ch x b y : List ℕ) (l : ℕ) → 1 ≤ l → b ≡ later_rounds z key ch l x
    → y ≡ table_round (tables_of z key ch l) b → y ≡ later_rounds z key ch (l + 1) x
unfolding table_rounds
later_turn z key ch x b y l h e d =
    let p : l + 1 - 1 ≡ suc (l - 1) = omega arith in
    let q : l ≡ suc (l - 1) = omega arith in
    d
    ∙ ap (λ (c : List ℕ). table_round (tables_of z key ch l) c) e
    ∙ ap (λ (k : ℕ). table_round (tables_of z key ch k) (later_rounds z key ch l x)) q
    ∙ ap (λ (k : ℕ). table_rounds (λ l. tables_of z key ch (suc l)) k x) (sym p)

after : (t : ℕ → List ℕ) (n : ℕ) (b : List ℕ) → table_rounds (λ l. t (suc l)) n (table_round (t 0) b) ≡ table_rounds t (suc n) b
unfolding table_rounds
after t zero b = refl
after t (suc n) b = ap (table_round (t (suc n))) (after t n b)

pub all_rounds : (z : KeySize) (key ch b : List ℕ) → later_rounds z key ch (rounds z) (table_round (tables_of z key ch 0) b) ≡ table_rounds (tables_of z key ch) (rounds z) b
all_rounds z key ch b =
    let m = rounds_more z in
    let p : suc (rounds z - 1) ≡ rounds z = omega arith in
    after (tables_of z key ch) (rounds z - 1) b ∙ ap (λ (k : ℕ). table_rounds (tables_of z key ch) k b) p

-- ---- decoding by set n: its codings inverted, as the code lends them

module _ (z : KeySize) (ch : List ℕ) (n : ℕ) (v : Chain z ch) (h : n ≤ rounds z) where
  abbrev from_set : List ℕ
  from_set = take (length ch - 512 * (n + 1)) (drop (512 * (n + 1)) ch)

  from_set_lem : from_set ≡ drop (512 * suc n) ch
  from_set_lem =
      let e : 512 * (n + 1) ≡ 512 * suc n = omega arith in
      part_end ch (512 * (n + 1)) ∙ ap (λ (k : ℕ). drop k ch) e

  pub set_there : 512 ≤ length from_set
  set_there =
      let l : length from_set ≡ length ch - 512 * suc n = ap length from_set_lem ∙ length-drop (512 * suc n) ch in
      omega (arith, v.size, rounds_le z)

  pub set_permutes : FirstPermutations 32 from_set
  set_permutes = rw from_set_lem (sets_permute z ch v n h)

  module _ (s : List ℕ) (e : s ≡ inverted 32 from_set) where
    pub inverse_there : 512 ≤ length s
    inverse_there =
        let l : length s ≡ 512 = ap length e ∙ length_inverted 32 from_set in
        omega arith

    pub inverse_low : LowSet s
    inverse_low = rw (e, from_set_lem) (low_inverted (drop (512 * suc n) ch) (v.codings.sets n h))

    pub opened_is : (r x : List ℕ) → r ≡ coded (set_of s) x → r ≡ decoded (chain_set ch n) x
    opened_is r x d =
        d
        ∙ ap (λ (k : List ℕ). coded (set_of k) x) (e ∙ ap (inverted 32) from_set_lem)
        ∙ sym (decoded_inverted (drop (512 * suc n) ch) x)
