-- One round of tables, decoded, is one round of LEA; the tables are those of any permutations, any masks that are bits and
-- any row of round keys.
use Rattle.std.proofs.Common.{◌≡◌, ℕ, zero, suc, ◌+◌, ◌*◌, ◌/◌, ◌%◌, ◌^◌, ◌<◌, List, get_or, sym, refl, ap, ◌∙◌, mod-eq_of_lt, arith, lit<}
use lib.Bits.{bit_xor}
use Rattle.lists.specs.HalfBytes.{half_byte}
use Rattle.lists.proofs.HalfByteLaws.{half_lt, half_xor}
use Rattle.words.specs.Word.{xor, turn_left, turn_right, words4}
use Rattle.cipher.specs.Lea.{keyed, round}
use Rattle.cipher.specs.Coding.{decode, block_half, decoded}
use Rattle.cipher.specs.Tables.{turned, turn_entry, RoundCodings, ValidCodings, ValidRound, add_table, upper, lower, turn_table, add_at, RoundTables, carry_at, sum_at, new_at, half_after, table_round}
use Rattle.words.proofs.WordLaws.{add_word, left_word, right_word}
use Rattle.cipher.proofs.Permutation.{decode_code, decode_ext}
use Rattle.cipher.proofs.TableLaws.{turned_lt}
use Rattle.cipher.proofs.CodingLaws.{Halves, block_half_lt}
use Rattle.cipher.proofs.TurnDigits.{half_left9, half_right5, half_right3}
use Rattle.cipher.proofs.DecodedWords.{opened_word, half_opened, opened_word_lem, words_opened, words_made}
use Rattle.cipher.proofs.TableRipple.{Run, RunTables, ripple}

-- the half bytes after a round
pub after_lt : (t b : List ℕ) → Halves (half_after t b)
unfolding half_after new_at
after_lt t b zero j hw hj = omega arith
after_lt t b (suc zero) j hw hj = omega arith
after_lt t b (suc (suc zero)) j hw hj = omega arith
after_lt t b (suc (suc (suc w))) j hw hj = block_half_lt b 0 j

module _ (c : RoundCodings) (v : ValidRound c) (k t : List ℕ) (h : RoundTables c k t) (b : List ℕ) where
  g : ValidCodings c
  g = v.codings

  -- word w of the block, decoded
  abbrev opened : ℕ → ℕ
  opened w = opened_word c.before b w

  -- one of the three sums
  module _ (i : ℕ) (hi : i < 3) where
    sum : ℕ
    sum = keyed (opened i) (get_or k (2 * i) 0) (opened (suc i)) (get_or k (2 * i + 1) 0)

    run : Run
    run = record {
      left = c.before i;
      right = c.before (suc i);
      sum = c.middle i;
      key_left = half_byte (get_or k (2 * i) 0);
      key_right = half_byte (get_or k (2 * i + 1) 0);
      mask_in = c.mask_in i;
      mask_out = c.mask_out i;
    }

    run_tables : RunTables run (add_at t i)
    unfolding run add_table
    run_tables = record {
      entries = λ j n hj hn. h.adds i j n hi hj hn;
      low = λ j x hj hx. (g.middle_permute i j hi hj).low x hx;
      bit = λ j hj. g.mask_bit i j hi hj;
      none = g.mask_first i hi;
      next = λ j hj. g.mask_next i j hi hj;
    }

    -- a half byte of word w under its key, from the block
    keyed_half : (w x j : ℕ) → w < 4 → j < 8 → bit_xor (decode (c.before w j) (block_half b w j)) (half_byte x j) ≡ half_byte (xor (opened w) x) j
    unfolding xor
    keyed_half w x j hw hj =
        ap (λ (y : ℕ). bit_xor y (half_byte x j)) (sym (half_opened c.before g.before_permute b w hw j hj)) ∙ sym (half_xor (opened w) x j)

    sum_is : (j : ℕ) → j < 8 → sum_at t b i j ≡ c.middle i j (half_byte sum j)
    unfolding sum_at sum keyed run
    sum_is =
        ripple run (add_at t i) run_tables (block_half b i) (block_half b (suc i)) (λ j hj. block_half_lt b i j) (λ j hj. block_half_lt b (suc i) j)
        (xor (opened i) (get_or k (2 * i) 0)) (xor (opened (suc i)) (get_or k (2 * i + 1) 0))
        (λ j hj. keyed_half i (get_or k (2 * i) 0) j (omega arith) hj) (λ j hj. keyed_half (suc i) (get_or k (2 * i + 1) 0) j (omega arith) hj)
        (carry_at t b i) (unfold carry_at in refl) (λ j. unfold carry_at in refl)

    sum_lt : (j : ℕ) → j < 8 → sum_at t b i j < 16
    sum_lt j hj = rw (sum_is j hj) ((g.middle_permute i j hi hj).low (half_byte sum j) (half_lt sum j))

    -- a sum half byte, decoded
    sum_decoded : (j : ℕ) → j < 8 → decode (c.middle i j) (sum_at t b i j) ≡ half_byte sum j
    sum_decoded j hj = rw (sum_is j hj) (decode_code (c.middle i j) (g.middle_permute i j hi hj) (half_byte sum j) (half_lt sum j))

    -- a half byte of the new word, decoded
    new_decoded : (j : ℕ) → j < 8 → upper i j < 8 → lower i j < 8
        → decode (c.after i j) (new_at t b i j) ≡ turned i (half_byte sum (upper i j)) (half_byte sum (lower i j))
    unfolding new_at turn_table turn_entry
    new_decoded j hj h1 h2 =
        let l1 = sum_lt (upper i j) h1 in
        let l2 = sum_lt (lower i j) h2 in
        let p : (16 * sum_at t b i (upper i j) + sum_at t b i (lower i j)) / 16 ≡ sum_at t b i (upper i j) = omega arith in
        let q : (16 * sum_at t b i (upper i j) + sum_at t b i (lower i j)) % 16 ≡ sum_at t b i (lower i j) = omega arith in
        let a = g.after_permute i j (omega arith) hj in
        let x = turned i (half_byte sum (upper i j)) (half_byte sum (lower i j)) in
        let hx = turned_lt i (half_byte sum (upper i j)) (half_byte sum (lower i j)) in
        rw (
          h.turns i j (16 * sum_at t b i (upper i j) + sum_at t b i (lower i j)) hi hj (omega arith),
          p,
          q,
          sum_decoded (upper i j) h1,
          sum_decoded (lower i j) h2,
          mod-eq_of_lt (a.low x hx),
        )
        (decode_code (c.after i j) a x hx)

    sum_word : sum < 2 ^ 32
    unfolding sum keyed
    sum_word = add_word (xor (opened i) (get_or k (2 * i) 0)) (xor (opened (suc i)) (get_or k (2 * i + 1) 0))

  -- the words after the round, decoded
  new : ℕ → ℕ
  new zero = turn_left 9 (sum 0 (lit< tt))
  new (suc zero) = turn_right 5 (sum 1 (lit< tt))
  new (suc (suc zero)) = turn_right 3 (sum 2 (lit< tt))
  new (suc (suc (suc w))) = opened 0

  new_word : (w : ℕ) → w < 4 → new w < 2 ^ 32
  unfolding new
  new_word zero hw = left_word 9 (sum 0 (lit< tt)) (omega arith) (sum_word 0 (lit< tt))
  new_word (suc zero) hw = right_word 5 (sum 1 (lit< tt)) (omega arith) (sum_word 1 (lit< tt))
  new_word (suc (suc zero)) hw = right_word 3 (sum 2 (lit< tt)) (omega arith) (sum_word 2 (lit< tt))
  new_word (suc (suc (suc w))) hw = opened_word_lem c.before g.before_permute b 0 (lit< tt)

  after_decoded : (w j : ℕ) → w < 4 → j < 8 → decode (c.after w j) (half_after t b w j) ≡ half_byte (new w) j
  unfolding new half_after
  after_decoded zero j hw hj = new_decoded 0 (lit< tt) j hj (omega arith) (omega arith) ∙ sym (half_left9 (sum 0 (lit< tt)) j (sum_word 0 (lit< tt)) hj)
  after_decoded (suc zero) j hw hj = new_decoded 1 (lit< tt) j hj (omega arith) (omega arith) ∙ sym (half_right5 (sum 1 (lit< tt)) j (sum_word 1 (lit< tt)) hj)
  after_decoded (suc (suc zero)) j hw hj = new_decoded 2 (lit< tt) j hj (omega arith) hj ∙ sym (half_right3 (sum 2 (lit< tt)) j (sum_word 2 (lit< tt)) hj)
  after_decoded (suc (suc (suc zero))) j hw hj =
      decode_ext (c.after 3 j) (c.before 0 j) (block_half b 0 j) (λ x m. v.word3 j x hj m) ∙ sym (half_opened c.before g.before_permute b 0 (lit< tt) j hj)
  after_decoded (suc (suc (suc (suc w)))) j hw hj = absurd (omega arith)

  pub round_law : words4 (decoded c.after (table_round t b)) ≡ round k (words4 (decoded c.before b))
  unfolding table_round round new sum
  round_law =
      words_made c.after (half_after t b) (after_lt t b) new new_word after_decoded
      ∙ ap (round k) (sym (words_opened c.before b))
