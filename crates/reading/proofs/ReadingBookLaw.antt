-- The reading book of rows and a chain holds at each offset the byte that it should; and what is said of these bytes leaves none
-- of them open: it is said of one list alone.
use mathlib.Core.Path.{◌≡◌, refl, sym, ap, ◌∙◌, subst}
use mathlib.Core.List.{List}
use Prim.Native.Nat.{ℕ, ◌+◌, ◌-◌, ◌*◌, ◌/◌, ◌%◌, ◌<◌}
use native.Mathlib.Decide.{dec_lt}
use native.Mathlib.Omega.{arith}
use lib.ListN.{length, get_or, length-append, get_or-append}
use lib.Seq.{ext_get_or, get_or-drop}
use Rattle.lists.specs.Tabulation.{chunks}
use Rattle.lists.specs.Blocks.{zeros}
use Rattle.lists.proofs.ChunkLaws.{length_chunks, get_or_chunks, get_or_second}
use Rattle.cipher.specs.Tables.{RoundCodings, fold_table}
use Rattle.cipher.specs.Chain.{message_set, chain_set, round_codings}
use Rattle.cipher.specs.Lengths.{turn_length, group_length, round_length}
use Rattle.cipher.proofs.BookLaw.{kinds_length, first_kind, second_kind, group_size, group_made, group_same}
use Rattle.reading.specs.Lengths.{subtract_length}
use Rattle.reading.specs.Tables.{turn_back_table, subtract_table, ReadingTables}
use Rattle.reading.specs.Book.{reading_part, row_back, reading_book_round, reading_book_group, reading_book_of, reading_round_at, reading_group_at, ReadingBook}

-- ---- a round

module _ (c : RoundCodings) (k : List ℕ) where
  pub reading_size : length (reading_part c k) ≡ round_length
  unfolding reading_part
  reading_size = kinds_length turn_length (turn_back_table c) subtract_length (subtract_table c k)

  pub reading_made : ReadingTables c k (reading_part c k)
  unfolding reading_part
  reading_made = record {
    turns = first_kind turn_length (turn_back_table c) subtract_length (subtract_table c k);
    subtracts = second_kind turn_length (turn_back_table c) subtract_length (subtract_table c k);
  }

-- a reader of a round reads no further
pub reading_same : (c : RoundCodings) (k t s : List ℕ) → ((i : ℕ) → i < round_length → get_or t i 0 ≡ get_or s i 0)
    → ReadingTables c k s → ReadingTables c k t
reading_same c k t s e h = record {
  turns = λ i j n hi hj hn. e (256 * (8 * i + j) + n) (omega arith) ∙ h.turns i j n hi hj hn;
  subtracts = λ i j n hi hj hn. e (6144 + 512 * (8 * i + j) + n) (omega arith) ∙ h.subtracts i j n hi hj hn;
}

-- ---- the book

module _ (r : ℕ) (rows : List (List ℕ)) (ch : List ℕ) where
  all : List ℕ
  all = chunks r (reading_book_round r rows ch)

  each_round : (l : ℕ) → length (reading_book_round r rows ch l) ≡ round_length
  unfolding reading_book_round
  each_round l = reading_size (round_codings r ch l) (row_back r rows l)

  all_size : length all ≡ round_length * r
  unfolding all
  all_size = length_chunks (reading_book_round r rows ch) round_length each_round r ∙ omega arith

  last_size : length (reading_book_group r ch) ≡ group_length
  unfolding reading_book_group
  last_size = group_size _ _ _ _

  pub reading_book_size : length (reading_book_of r rows ch) ≡ group_length + round_length * r
  unfolding reading_book_of all
  reading_book_size = length-append all (reading_book_group r ch) ∙ rw (all_size, last_size) (omega arith)

  -- byte i of round l, and of the group
  round_byte : (l i : ℕ) → l < r → i < round_length → get_or (reading_round_at (reading_book_of r rows ch) l) i 0 ≡ get_or (reading_book_round r rows ch l) i 0
  unfolding reading_book_of all
  round_byte l i hl hi =
      let e : round_length * l + i ≡ l * round_length + i = omega arith in
      get_or-drop (round_length * l) (reading_book_of r rows ch) i 0
      ∙ get_or-append all (reading_book_group r ch) 0 (round_length * l + i) (rw all_size (omega arith))
      ∙ ap (λ (m : ℕ). get_or all m 0) e
      ∙ get_or_chunks (reading_book_round r rows ch) round_length each_round r l i hl hi

  group_byte : (i : ℕ) → i < group_length → get_or (reading_group_at r (reading_book_of r rows ch)) i 0 ≡ get_or (reading_book_group r ch) i 0
  unfolding reading_book_of all
  group_byte i hi =
      get_or-drop (round_length * r) (reading_book_of r rows ch) i 0
      ∙ get_or_second all (reading_book_group r ch) (round_length * r) i (round_length * r + i) all_size refl

  pub reading_book_made : ReadingBook r rows ch (reading_book_of r rows ch)
  reading_book_made = record {
    size = reading_book_size;
    tables = λ l hl. reading_same (round_codings r ch l) (row_back r rows l) (reading_round_at (reading_book_of r rows ch) l) (reading_book_round r rows ch l) (λ i. round_byte l i hl)
        (unfold reading_book_round in reading_made (round_codings r ch l) (row_back r rows l));
    folds = group_same (chain_set ch r) (chain_set ch 0) (message_set ch) zeros (reading_group_at r (reading_book_of r rows ch)) (reading_book_group r ch) group_byte
        (unfold reading_book_group in group_made (chain_set ch r) (chain_set ch 0) (message_set ch) zeros);
  }

-- ---- the byte at each offset

module _ (r : ℕ) (rows : List (List ℕ)) (ch bk : List ℕ) (h : ReadingBook r rows ch bk) where
  pub byte_of_turn : (l i j n : ℕ) → l < r → i < 3 → j < 8 → n < 256
      → get_or bk (round_length * l + (256 * (8 * i + j) + n)) 0 ≡ turn_back_table (round_codings r ch l) i j n
  byte_of_turn l i j n hl hi hj hn =
      sym (get_or-drop (round_length * l) bk (256 * (8 * i + j) + n) 0) ∙ (h.tables l hl).turns i j n hi hj hn

  pub byte_of_subtract : (l i j n : ℕ) → l < r → i < 3 → j < 8 → n < 512
      → get_or bk (round_length * l + (6144 + 512 * (8 * i + j) + n)) 0 ≡ subtract_table (round_codings r ch l) (row_back r rows l) i j n
  byte_of_subtract l i j n hl hi hj hn =
      sym (get_or-drop (round_length * l) bk (6144 + 512 * (8 * i + j) + n) 0) ∙ (h.tables l hl).subtracts i j n hi hj hn

  pub byte_of_fold : (w j n : ℕ) → w < 4 → j < 8 → n < 256
      → get_or bk (round_length * r + (256 * (8 * w + j) + n)) 0 ≡ fold_table (chain_set ch r) (chain_set ch 0) (message_set ch) zeros w j n
  byte_of_fold w j n hw hj hn =
      sym (get_or-drop (round_length * r) bk (256 * (8 * w + j) + n) 0) ∙ h.folds w j n hw hj hn

-- ---- and no byte is left open: what is so at each of these offsets is so at all

module _ (r : ℕ) (P : ℕ → Type 0)
    (turns : (l i j n : ℕ) → l < r → i < 3 → j < 8 → n < 256 → P (round_length * l + (256 * (8 * i + j) + n)))
    (subtracts : (l i j n : ℕ) → l < r → i < 3 → j < 8 → n < 512 → P (round_length * l + (6144 + 512 * (8 * i + j) + n)))
    (folds : (w j n : ℕ) → w < 4 → j < 8 → n < 256 → P (round_length * r + (256 * (8 * w + j) + n))) where
  -- at k, which is the offset o
  moved : (k o : ℕ) → o ≡ k → P o → P k
  moved k o e d = subst P e d

  at_fold : (o : ℕ) → o < group_length → P (round_length * r + o)
  at_fold o b =
      let w = o / 256 / 8 in
      let j = o / 256 % 8 in
      let n = o % 256 in
      moved (round_length * r + o) (round_length * r + (256 * (8 * w + j) + n)) (omega arith) (folds w j n (omega arith) (omega arith) (omega arith))

  at_round : (l o : ℕ) → l < r → o < round_length → Dec (o < 6144) → P (round_length * l + o)
  at_round l o hl ho (yes d) =
      let i = o / 256 / 8 in
      let j = o / 256 % 8 in
      let n = o % 256 in
      moved (round_length * l + o) (round_length * l + (256 * (8 * i + j) + n)) (omega arith) (turns l i j n hl (omega arith) (omega arith) (omega arith))
  at_round l o hl ho (no d) =
      let p = o - 6144 in
      let i = p / 512 / 8 in
      let j = p / 512 % 8 in
      let n = p % 512 in
      moved (round_length * l + o) (round_length * l + (6144 + 512 * (8 * i + j) + n)) (omega arith) (subtracts l i j n hl (omega arith) (omega arith) (omega arith))

  at : (k : ℕ) → k < group_length + round_length * r → Dec (k < round_length * r) → P k
  at k b (yes d) =
      let l = k / round_length in
      let o = k % round_length in
      moved k (round_length * l + o) (omega arith) (at_round l o (omega arith) (omega arith) (dec_lt o 6144))
  at k b (no d) = moved k (round_length * r + (k - round_length * r)) (omega arith) (at_fold (k - round_length * r) (omega arith))

  pub every_offset : (k : ℕ) → k < group_length + round_length * r → P k
  every_offset k b = at k b (dec_lt k (round_length * r))

module _ (r : ℕ) (rows : List (List ℕ)) (ch bk bk' : List ℕ) (h : ReadingBook r rows ch bk) (h' : ReadingBook r rows ch bk') where
  pub reading_book_only : bk ≡ bk'
  reading_book_only =
      ext_get_or 0 bk bk' (h.size ∙ sym h'.size) (λ k b.
      let m : k < group_length + round_length * r = rw h.size at b in
      every_offset r (λ k. get_or bk k 0 ≡ get_or bk' k 0)
      (λ l i j n hl hi hj hn. byte_of_turn r rows ch bk h l i j n hl hi hj hn ∙ sym (byte_of_turn r rows ch bk' h' l i j n hl hi hj hn))
      (λ l i j n hl hi hj hn. byte_of_subtract r rows ch bk h l i j n hl hi hj hn ∙ sym (byte_of_subtract r rows ch bk' h' l i j n hl hi hj hn))
      (λ w j n hw hj hn. byte_of_fold r rows ch bk h w j n hw hj hn ∙ sym (byte_of_fold r rows ch bk' h' w j n hw hj hn)) k m)
