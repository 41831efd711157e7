-- What the round program prints, case by case. The cases exclude each other and leave none out, so each refusal is given
-- exactly under its condition.
use mathlib.Core.Path.{◌≡◌, refl, sym, ap, ap₂, ◌∙◌}
use mathlib.Core.Bool.{Bool, not}
use mathlib.Core.List.{List, [], ◌∷◌, ◌++◌}
use Prim.Native.Nat.{ℕ, ◌+◌, ◌-◌, ◌≤◌, ◌<◌}
use native.Mathlib.Omega.{arith}
use borrow.Author.Tests.{eq-eqb, ne_eqb}
use lib.Dec.{eqb}
use lib.ListN.{length, take, drop, length-drop}
use lib.Seq.{take_all, length-take-le}
use Rattle.lists.specs.Refusals.{first}
use Rattle.lists.proofs.PartLaws.{part_end}
use Rattle.lists.proofs.RefusalLaws.{first_hit, first_pass}
use Rattle.cipher.specs.KeySize.{rounds, key_length, chain_length, size_by, size_of_key}
use Rattle.cipher.specs.Coding.{decoded}
use Rattle.cipher.specs.Tables.{table_round, table_rounds}
use Rattle.cipher.specs.Chain.{Chain, chain_set, chain_tests}
use Rattle.cipher.specs.Answers.{block_tests}
use Rattle.cipher.specs.declared.size.KeySize.{KeySize}
use Rattle.std.proofs.Common.{Some, None}
use Rattle.cipher.proofs.KeySizeLaws.{found_length}
use Rattle.cipher.proofs.AnswerLaws.{length_refused, length_taken, block_refused, block_taken_lem}
use Rattle.cipher.proofs.ChainRefusals.{chain_length_refused, chain_taken}
use Rattle.cipher.proofs.CheckLaws.{told_refused}
use Rattle.round.specs.Text.{line, refused_text}
use Rattle.round.specs.Round.{tables_of, later_rounds, opened_after, two_lines, length_byte, key_part, after_key, chain_part, block_part, key_whole, rest_tests, printed, printed_on, printed_after}
use Rattle.round.proofs.RoundLaws.{all_rounds}

-- ---- length byte and key

-- a missing length byte is no length of a key
pub no_length : (i : List ℕ) → length i ≡ 0 → size_of_key (length_byte i) ≡ None
unfolding size_by
no_length [] h = refl
no_length (x ∷ i) h = absurd (omega arith)

module _ (i : List ℕ) where
  abbrev pub key : List ℕ
  key = key_part (length_byte i) i

  abbrev pub tests : KeySize → List (Bool × ℕ)
  tests z = key_whole (length_byte i) key ++ rest_tests z (chain_part z (after_key (length_byte i) i)) (block_part z (after_key (length_byte i) i))

  abbrev pub lines : KeySize → List ℕ
  lines z = two_lines z key (chain_part z (after_key (length_byte i) i)) (block_part z (after_key (length_byte i) i))

  pub printed_length : size_of_key (length_byte i) ≡ None → printed i ≡ refused_text 1
  unfolding printed
  printed_length e = length_refused (length_byte i) tests refused_text lines e

  module _ (z : KeySize) (e : size_of_key (length_byte i) ≡ Some z) where
    -- the other tests decide
    pub length_known : printed i ≡ first (tests z) refused_text (lines z)
    unfolding printed
    length_known = length_taken (length_byte i) tests refused_text lines z e

    pub printed_key : (length key ≡ length_byte i → ⊥) → printed i ≡ refused_text 1
    printed_key h =
        length_known ∙ first_hit (not (eqb (length key) (length_byte i))) 1 (rest_tests z (chain_part z (after_key (length_byte i) i)) (block_part z (after_key (length_byte i) i)))
        refused_text (lines z) (ap not (ne_eqb (length key) (length_byte i) h))

    pub printed_after_lem : length key ≡ length_byte i → printed i ≡ printed_after z key (after_key (length_byte i) i)
    unfolding printed_after printed_on
    printed_after_lem h =
        length_known ∙ first_pass (not (eqb (length key) (length_byte i))) 1 (rest_tests z (chain_part z (after_key (length_byte i) i)) (block_part z (after_key (length_byte i) i)))
        refused_text (lines z) (ap not (eq-eqb (length key) (length_byte i) h))

-- ---- what is after the key

pub after_short : (z : KeySize) (key s : List ℕ) → length s < chain_length z → printed_after z key s ≡ refused_text 2
unfolding printed_after printed_on
after_short z key s h =
    let e : length (chain_part z s) ≡ length s = ap length (take_all (chain_length z) s (omega arith)) in
    chain_length_refused (block_tests (block_part z s)) refused_text (two_lines z key (chain_part z s) (block_part z s)) 0 3 z (chain_part z s) (λ d. omega arith)

module _ (z : KeySize) (key ch s : List ℕ) where
  pub on_chain_refused : (q : ℕ) → q ≡ first (chain_tests z ch) (λ n. n) 0 → (q ≡ 0 → ⊥) → printed_on z key ch s ≡ refused_text q
  unfolding printed_on
  on_chain_refused q e h = told_refused (block_tests (take 16 s)) refused_text (two_lines z key ch (take 16 s)) (chain_tests z ch) q (omega arith) (sym e)

  module _ (v : Chain z ch) where
    chained : printed_on z key ch s ≡ first (block_tests (take 16 s)) refused_text (two_lines z key ch (take 16 s))
    unfolding printed_on
    chained = chain_taken (block_tests (take 16 s)) refused_text (two_lines z key ch (take 16 s)) 0 3 z ch v

    pub on_block_short : length s < 16 → printed_on z key ch s ≡ refused_text 7
    on_block_short h =
        let e : length (take 16 s) ≡ length s = ap length (take_all 16 s (omega arith)) in
        chained ∙ block_refused (take 16 s) [] refused_text (two_lines z key ch (take 16 s)) (λ d. omega arith)

    pub on_run : 16 ≤ length s → printed_on z key ch s ≡ two_lines z key ch (take 16 s)
    unfolding first
    on_run h = chained ∙ block_taken_lem (take 16 s) [] refused_text (two_lines z key ch (take 16 s)) (length-take-le 16 s h)

-- ---- the parts as the code lends them

pub after_is : (z : KeySize) (key s : List ℕ) (n : ℕ) → n ≡ chain_length z
    → printed_on z key (take (n - 0) s) (take (length s - n) (drop n s)) ≡ printed_after z key s
unfolding printed_after
after_is z key s n e =
    let d : n - 0 ≡ chain_length z = omega arith in
    ap₂ (printed_on z key) (ap (λ (k : ℕ). take k s) d) (part_end s n ∙ ap (λ (k : ℕ). drop k s) e)

module _ (i : List ℕ) (n : ℕ) (e : n ≡ length_byte i) where
  key_is : take (1 + n - 1) (drop 1 i) ≡ key_part (length_byte i) i
  key_is =
      let d : 1 + n - 1 ≡ length_byte i = omega arith in
      ap (λ (k : ℕ). take k (drop 1 i)) d

  pub input_is : (z : KeySize) → printed_after z (take (1 + n - 1) (drop 1 i)) (take (length i - (1 + n)) (drop (1 + n) i)) ≡ printed_after z (key_part (length_byte i) i) (after_key (length_byte i) i)
  input_is z = ap₂ (printed_after z) key_is (part_end i (1 + n) ∙ ap (λ (k : ℕ). drop (1 + k) i) e)

  -- all bytes of the key are there, or some are missing
  pub key_whole_lem : 1 + n ≤ length i → length (key_part (length_byte i) i) ≡ length_byte i
  key_whole_lem h = length-take-le (length_byte i) (drop 1 i) (rw (length-drop 1 i) (omega arith))

  pub key_short : length i < 1 + n → 0 < length i → length (key_part (length_byte i) i) ≡ length_byte i → ⊥
  key_short h p q =
      let l = length-drop 1 i in
      let d : length (key_part (length_byte i) i) ≡ length (drop 1 i) = ap length (take_all (length_byte i) (drop 1 i) (omega arith)) in
      omega arith

  pub key_length_lem : (z : KeySize) → size_of_key n ≡ Some z → 1 + n ≤ length i → length (take (1 + n - 1) (drop 1 i)) ≡ key_length z
  key_length_lem z f h = ap length key_is ∙ key_whole_lem h ∙ sym e ∙ found_length key_length n z f

-- ---- the two lines, from the blocks that the code has

pub run_is : (z : KeySize) (key ch b : List ℕ) (r : ℕ) (one one' all all' : List ℕ) → r ≡ rounds z → one ≡ table_round (tables_of z key ch 0) b
    → one' ≡ decoded (chain_set ch 1) one → all ≡ later_rounds z key ch (rounds z) one → all' ≡ decoded (chain_set ch r) all
    → line 1 1 one' ++ line 2 r all' ≡ two_lines z key ch b
unfolding two_lines table_rounds
run_is z key ch b r one one' all all' er e e' d d' =
    let f : one' ≡ opened_after z key ch 1 b = e' ∙ ap (decoded (chain_set ch 1)) e in
    let g : all ≡ table_rounds (tables_of z key ch) (rounds z) b = d ∙ ap (later_rounds z key ch (rounds z)) e ∙ all_rounds z key ch b in
    let l : all' ≡ opened_after z key ch (rounds z) b = d' ∙ ap₂ (λ (k : ℕ) (x : List ℕ). decoded (chain_set ch k) x) er g in
    λ i. line 1 1 (f i) ++ line 2 (er i) (l i)
