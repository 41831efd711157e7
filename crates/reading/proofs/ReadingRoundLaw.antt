-- One reading round of tables, decoded, is one round of LEA undone; the tables are those of any permutations, any masks that are bits
-- and any row of words.
use mathlib.Core.Path.{◌≡◌, refl, sym, ap, ◌∙◌}
use mathlib.Core.List.{List}
use Prim.Native.Nat.{ℕ, zero, suc, ◌+◌, ◌*◌, ◌/◌, ◌%◌, ◌^◌, ◌<◌}
use native.Mathlib.Nat.{mod-eq_of_lt}
use native.Mathlib.Omega.{arith}
use lib.Dec.{lit<}
use lib.Bits.{bit_xor, xor_lt}
use lib.ListN.{get_or}
use Rattle.lists.specs.Blocks.{Below}
use Rattle.lists.specs.HalfBytes.{half_byte}
use Rattle.lists.proofs.HalfByteLaws.{half_lt, half_xor}
use Rattle.lists.proofs.XorLaws.{xor_assoc}
use Rattle.words.specs.Word.{add, sub, xor, words4}
use Rattle.cipher.specs.Lea.{unkeyed, unround}
use Rattle.cipher.specs.Coding.{decode, block_half, decoded}
use Rattle.cipher.specs.Tables.{RoundCodings, ValidCodings}
use Rattle.words.proofs.WordLaws.{add_word, sub_word, xor_word}
use Rattle.cipher.proofs.Permutation.{decode_code, decode_ext}
use Rattle.cipher.proofs.CodingLaws.{block_half_lt}
use Rattle.reading.specs.LikeSealing.{sum_coding}
use Rattle.reading.specs.Tables.{turn_back_entry, upper_back, lower_back, turn_back_table, subtract_table, ValidReadingRound}
use Rattle.reading.specs.Tables.{subtract_at, ReadingTables, turned_at, borrow_at, difference_at, half_read, read_round}
use Rattle.reading.proofs.TurnsBack.{back_turn, back_word, half_back, upper_lt, lower_lt}
use Rattle.reading.proofs.Complements.{rest, half_rest, sub_rest}
use Rattle.reading.proofs.ReadingTableLaws.{flip, subtract_is_add}
use Rattle.cipher.proofs.DecodedWords.{opened_word, half_opened, opened_word_lem, words_opened, words_made}
use Rattle.cipher.proofs.TableRipple.{Run, RunTables, ripple}

-- the half bytes after a reading round
pub read_lt : (t b : List ℕ) (w j : ℕ) → half_read t b w j < 16
unfolding half_read difference_at
read_lt t b zero j = block_half_lt b 3 j
read_lt t b (suc i) j = omega arith

module _ (c : RoundCodings) (v : ValidReadingRound c) (k t : List ℕ) (hk : Below (2 ^ 32) k) (h : ReadingTables c k t) (b : List ℕ) where
  g : ValidCodings c
  g = v.codings

  -- word w of the block, decoded
  abbrev opened : ℕ → ℕ
  opened w = opened_word c.before b w

  -- one of the three words that are turned back
  module _ (i : ℕ) (hi : i < 3) where
    whole : ℕ
    whole = back_turn i (opened i)

    whole_word : whole < 2 ^ 32
    unfolding whole
    whole_word = back_word i (opened i) (opened_word_lem c.before g.before_permute b i (omega arith))

    turn_is : (j : ℕ) → j < 8 → turned_at t b i j ≡ c.middle i j (half_byte whole j)
    unfolding turned_at turn_back_table turn_back_entry whole
    turn_is j hj =
        let hp = block_half_lt b i (upper_back i j) in
        let hq = block_half_lt b i (lower_back i j) in
        let p : (16 * block_half b i (upper_back i j) + block_half b i (lower_back i j)) / 16 ≡ block_half b i (upper_back i j) = omega arith in
        let q : (16 * block_half b i (upper_back i j) + block_half b i (lower_back i j)) % 16 ≡ block_half b i (lower_back i j) = omega arith in
        let l : i < 4 = omega arith in
        rw (
          h.turns i j (16 * block_half b i (upper_back i j) + block_half b i (lower_back i j)) hi hj (omega arith),
          p,
          q,
          ← half_opened c.before g.before_permute b i l (upper_back i j) (upper_lt i j hj),
          ← half_opened c.before g.before_permute b i l (lower_back i j) (lower_lt i j hj),
          ← half_back i (opened i) j (opened_word_lem c.before g.before_permute b i l) hj,
        )
        (mod-eq_of_lt ((g.middle_permute i j hi hj).low (half_byte (back_turn i (opened i)) j) (half_lt (back_turn i (opened i)) j)))

    -- the subtract tables are add tables
    run : Run
    run = record {
      left = c.middle i;
      right = c.after i;
      sum = λ j. sum_coding (c.after (suc i) j) (half_byte (get_or k (2 * i + 1) 0) j);
      key_left = λ j. 15;
      key_right = half_byte (get_or k (2 * i) 0);
      mask_in = c.mask_in i;
      mask_out = c.mask_out i;
    }

    run_tables : RunTables run (subtract_at t i)
    unfolding run subtract_table
    run_tables = record {
      entries = λ j n hj hn. h.subtracts i j n hi hj hn
          ∙ subtract_is_add (c.middle i j) (c.after i j) (g.middle_permute i j hi hj) (g.after_permute i j (omega arith) hj) (half_byte (get_or k (2 * i) 0) j) (c.mask_in i j) n
          (half_lt (get_or k (2 * i) 0) j) (g.mask_bit i j hi hj) hn (c.after (suc i) j) (half_byte (get_or k (2 * i + 1) 0) j) (c.mask_out i j);
      low = λ j x hj hx. (g.after_permute (suc i) j (omega arith) hj).low (bit_xor x (bit_xor 15 (half_byte (get_or k (2 * i + 1) 0) j)))
          (xor_lt 4 x (bit_xor 15 (half_byte (get_or k (2 * i + 1) 0) j)) hx (xor_lt 4 15 (half_byte (get_or k (2 * i + 1) 0) j) (lit< tt) (half_lt (get_or k (2 * i + 1) 0) j)));
      bit = λ j hj. g.mask_bit i j hi hj;
      none = g.mask_first i hi;
      next = λ j hj. g.mask_next i j hi hj;
    }

    -- new word i has the half bytes x, which are decoded to those of n
    module _ (x : ℕ → ℕ) (n : ℕ) (hx : (j : ℕ) → x j < 16) (hn : n < 2 ^ 32) (d : (j : ℕ) → j < 8 → decode (c.after i j) (x j) ≡ half_byte n j) where
      taken : ℕ
      taken = xor n (get_or k (2 * i) 0)

      taken_word : taken < 2 ^ 32
      unfolding taken
      taken_word = xor_word n (get_or k (2 * i) 0) hn (hk (2 * i))

      difference_is : (j : ℕ) → j < 8 → difference_at t b i x j ≡ sum_coding (c.after (suc i) j) (half_byte (get_or k (2 * i + 1) 0) j) (half_byte (add (rest whole) taken) j)
      unfolding difference_at run
      difference_is =
          ripple run (subtract_at t i) run_tables (turned_at t b i) x
          (λ j hj. rw (turn_is j hj) ((g.middle_permute i j hi hj).low (half_byte whole j) (half_lt whole j)))
          (λ j hj. hx j) (rest whole) taken
          (λ j hj.
          ap (λ (y : ℕ). bit_xor (decode (c.middle i j) y) 15) (turn_is j hj)
          ∙ ap (λ (y : ℕ). bit_xor y 15) (decode_code (c.middle i j) (g.middle_permute i j hi hj) (half_byte whole j) (half_lt whole j))
          ∙ flip (half_byte whole j) (half_lt whole j)
          ∙ sym (half_rest whole j whole_word hj))
          (λ j hj. ap (λ (y : ℕ). bit_xor y (half_byte (get_or k (2 * i) 0) j)) (d j hj) ∙ (unfold taken xor in sym (half_xor n (get_or k (2 * i) 0) j)))
          (borrow_at t b i x) (unfold borrow_at in refl) (λ j. unfold borrow_at in refl)

      -- a half byte of new word i + 1, decoded
      pub difference_decoded : (j : ℕ) → j < 8
          → decode (c.after (suc i) j) (difference_at t b i x j) ≡ half_byte (unkeyed (back_turn i (opened i)) n (get_or k (2 * i) 0) (get_or k (2 * i + 1) 0)) j
      unfolding unkeyed taken whole xor
      difference_decoded j hj =
          let s = add (rest whole) taken in
          let y = sub whole taken in
          let l = get_or k (2 * i + 1) 0 in
          let e : bit_xor (half_byte s j) 15 ≡ half_byte y j =
          flip (half_byte s j) (half_lt s j) ∙ sym (half_rest s j (add_word (rest whole) taken) hj) ∙ ap (λ (z : ℕ). half_byte z j) (sym (sub_rest whole taken whole_word taken_word)) in
          ap (decode (c.after (suc i) j)) (difference_is j hj ∙ ap (c.after (suc i) j) (sym (xor_assoc (half_byte s j) 15 (half_byte l j)) ∙ ap (λ (z : ℕ). bit_xor z (half_byte l j)) e))
          ∙ decode_code (c.after (suc i) j) (g.after_permute (suc i) j (omega arith) hj) (bit_xor (half_byte y j) (half_byte l j)) (xor_lt 4 (half_byte y j) (half_byte l j) (half_lt y j) (half_lt l j))
          ∙ sym (half_xor y l j)

  -- the words after the round, decoded
  back : ℕ → ℕ
  back zero = opened 3
  back (suc i) = unkeyed (back_turn i (opened i)) (back i) (get_or k (2 * i) 0) (get_or k (2 * i + 1) 0)

  back_lt : (w : ℕ) → back w < 2 ^ 32
  unfolding back unkeyed
  back_lt zero = opened_word_lem c.before g.before_permute b 3 (lit< tt)
  back_lt (suc i) =
      let s = sub (back_turn i (opened i)) (xor (back i) (get_or k (2 * i) 0)) in
      xor_word s (get_or k (2 * i + 1) 0) (sub_word (back_turn i (opened i)) (xor (back i) (get_or k (2 * i) 0))) (hk (2 * i + 1))

  read_decoded : (w j : ℕ) → w < 4 → j < 8 → decode (c.after w j) (half_read t b w j) ≡ half_byte (back w) j
  unfolding half_read back
  read_decoded zero j hw hj =
      decode_ext (c.after 0 j) (c.before 3 j) (block_half b 3 j) (λ x m. v.word0 j x hj m) ∙ sym (half_opened c.before g.before_permute b 3 (lit< tt) j hj)
  read_decoded (suc i) j hw hj =
      difference_decoded i (omega arith) (half_read t b i) (back i) (read_lt t b i) (back_lt i) (λ j l. read_decoded i j (omega arith) l) j hj

  pub reading_round_law : words4 (decoded c.after (read_round t b)) ≡ unround k (words4 (decoded c.before b))
  unfolding read_round unround back back_turn
  reading_round_law =
      words_made c.after (half_read t b) (λ w j hw hj. read_lt t b w j) back (λ w hw. back_lt w) read_decoded
      ∙ ap (unround k) (sym (words_opened c.before b))
