-- The body of the book of rows and a chain holds at each offset the byte that it should; and what is said of these bytes leaves none
-- of them open: it is said of one list alone.
use Rattle.std.proofs.Common.{◌≡◌, ℕ, suc, ◌+◌, ◌-◌, ◌*◌, ◌/◌, ◌%◌, ◌<◌, ◌≤◌, List, [], ◌++◌, length, get_or, sym, refl, ap, ◌∙◌, subst, mul-le-mul_right, suc-mul, mul_comm, arith, length-append, get_or-drop, get_or-take, take_at, ext_get_or}
use native.Mathlib.Decide.{dec_lt}
use lib.ListN.{get_or-append}
use Rattle.lists.specs.Tabulation.{chunks, tables}
use Rattle.lists.proofs.TabulationLaws.{length_tab}
use Rattle.lists.proofs.ChunkLaws.{length_chunks, get_or_chunks, get_or_second, length_tables, get_or_tables}
use Rattle.cipher.specs.Lea.{first_rounds}
use Rattle.cipher.specs.Coding.{Set, of_halves, coded}
use Rattle.cipher.specs.Tables.{RoundCodings, RoundTables, FoldTables, add_table, turn_table, fold_table}
use Rattle.cipher.specs.Chain.{message_set, chain_set, round_codings}
use Rattle.cipher.specs.Book.{start_part, two_kinds, round_part, group_part, group_key, book_group, book_round, book_of, group_at, round_at, Book}
use Rattle.cipher.specs.Lengths.{add_length, turn_length, fold_length, start_length, group_length, round_length, rounds_start}

-- ---- the entries of a round and of a group

-- 24 tables of one kind, then 24 of another: where the entries of each stand
module _ (s : ℕ) (f : ℕ → ℕ → ℕ → ℕ) (u : ℕ) (g : ℕ → ℕ → ℕ → ℕ) where
  pub kinds_length : length (two_kinds s f u g) ≡ 24 * s + 24 * u
  unfolding two_kinds
  kinds_length = length-append (tables 24 s f) (tables 24 u g) ∙ rw (length_tables 24 s f, length_tables 24 u g)

  module _ (i j n : ℕ) (hi : i < 3) (hj : j < 8) where
    inside : n < s → s * (8 * i + j) + n < 24 * s
    inside hn =
        let a : suc (8 * i + j) * s ≤ 24 * s = mul-le-mul_right s (omega arith) in
        omega (arith, a, suc-mul (8 * i + j) s, mul_comm s (8 * i + j))

    pub first_kind : n < s → get_or (two_kinds s f u g) (s * (8 * i + j) + n) 0 ≡ f i j n
    unfolding two_kinds
    first_kind hn =
        get_or-append (tables 24 s f) (tables 24 u g) 0 (s * (8 * i + j) + n) (rw (length_tables 24 s f) (inside hn))
        ∙ get_or_tables 24 s f i j n hj (omega arith) hn

    pub second_kind : n < u → get_or (two_kinds s f u g) (24 * s + u * (8 * i + j) + n) 0 ≡ g i j n
    unfolding two_kinds
    second_kind hn =
        get_or_second (tables 24 s f) (tables 24 u g) (24 * s) (u * (8 * i + j) + n) (24 * s + u * (8 * i + j) + n) (length_tables 24 s f) (omega arith)
        ∙ get_or_tables 24 u g i j n hj (omega arith) hn

module _ (c : RoundCodings) (k : List ℕ) where
  pub round_size : length (round_part c k) ≡ round_length
  unfolding round_part
  round_size = kinds_length add_length (add_table c k) turn_length (turn_table c)

  pub round_made : RoundTables c k (round_part c k)
  unfolding round_part
  round_made = record {
    adds = first_kind add_length (add_table c k) turn_length (turn_table c);
    turns = second_kind add_length (add_table c k) turn_length (turn_table c);
  }

module _ (S U S' : Set) (k : List ℕ) where
  pub group_size : length (group_part S U S' k) ≡ group_length
  unfolding group_part
  group_size = length_tables 32 fold_length (fold_table S U S' k)

  pub group_made : FoldTables S U S' k (group_part S U S' k)
  unfolding group_part
  group_made w j n hw hj hn = get_or_tables 32 fold_length (fold_table S U S' k) w j n hj (omega arith) hn

-- ---- a reader of a round, or of a group, reads no further

pub round_same : (c : RoundCodings) (k t s : List ℕ) → ((i : ℕ) → i < round_length → get_or t i 0 ≡ get_or s i 0)
    → RoundTables c k s → RoundTables c k t
round_same c k t s e h = record {
  adds = λ i j n hi hj hn. e (512 * (8 * i + j) + n) (omega arith) ∙ h.adds i j n hi hj hn;
  turns = λ i j n hi hj hn. e (12288 + 256 * (8 * i + j) + n) (omega arith) ∙ h.turns i j n hi hj hn;
}

pub group_same : (S U S' : Set) (k t s : List ℕ) → ((i : ℕ) → i < group_length → get_or t i 0 ≡ get_or s i 0)
    → FoldTables S U S' k s → FoldTables S U S' k t
group_same S U S' k t s e h w j n hw hj hn = e (256 * (8 * w + j) + n) (omega arith) ∙ h w j n hw hj hn

-- ---- the book

module _ (r : ℕ) (rows : List (List ℕ)) (ch : List ℕ) where
  groups : List ℕ
  groups = chunks 3 (book_group r rows ch)

  last : List ℕ
  last = chunks r (book_round r rows ch)

  start_size : length (start_part r ch) ≡ start_length
  unfolding start_part coded of_halves
  start_size = length_tab 16 _

  each_group : (g : ℕ) → length (book_group r rows ch g) ≡ group_length
  unfolding book_group
  each_group g = group_size (chain_set ch r) (message_set ch) (chain_set ch 0) (group_key (first_rounds rows r) g)

  each_round : (l : ℕ) → length (book_round r rows ch l) ≡ round_length
  unfolding book_round
  each_round l = round_size (round_codings r ch l) (get_or rows l [])

  groups_size : length groups ≡ 24576
  unfolding groups
  groups_size = length_chunks (book_group r rows ch) group_length each_group 3

  last_size : length last ≡ r * round_length
  unfolding last
  last_size = length_chunks (book_round r rows ch) round_length each_round r

  pub book_size : length (book_of r rows ch) ≡ rounds_start + round_length * r
  unfolding book_of groups last
  book_size =
      length-append (start_part r ch) (groups ++ last)
      ∙ rw (start_size, length-append groups last, groups_size, last_size) (omega arith)

  -- byte i of group g, and of round l
  group_byte : (g i : ℕ) → g < 3 → i < group_length → get_or (group_at (book_of r rows ch) g) i 0 ≡ get_or (book_group r rows ch g) i 0
  unfolding book_of groups last
  group_byte g i hg hi =
      get_or-drop (start_length + group_length * g) (book_of r rows ch) i 0
      ∙ get_or_second (start_part r ch) (groups ++ last) start_length (g * group_length + i) (start_length + group_length * g + i) start_size (omega arith)
      ∙ get_or-append groups last 0 (g * group_length + i) (rw groups_size (omega arith))
      ∙ get_or_chunks (book_group r rows ch) group_length each_group 3 g i hg hi

  round_byte : (l i : ℕ) → l < r → i < round_length → get_or (round_at (book_of r rows ch) l) i 0 ≡ get_or (book_round r rows ch l) i 0
  unfolding book_of groups last
  round_byte l i hl hi =
      get_or-drop (rounds_start + round_length * l) (book_of r rows ch) i 0
      ∙ get_or_second (start_part r ch) (groups ++ last) start_length (24576 + (l * round_length + i)) (rounds_start + round_length * l + i) start_size (omega arith)
      ∙ get_or_second groups last 24576 (l * round_length + i) (24576 + (l * round_length + i)) groups_size refl
      ∙ get_or_chunks (book_round r rows ch) round_length each_round r l i hl hi

  pub book_made : Book r rows ch (book_of r rows ch)
  book_made = record {
    size = book_size;
    start = unfold book_of in take_at (start_part r ch) (chunks 3 (book_group r rows ch) ++ chunks r (book_round r rows ch)) start_length start_size;
    folds = λ g hg. group_same (chain_set ch r) (message_set ch) (chain_set ch 0) (group_key (first_rounds rows r) g)
        (group_at (book_of r rows ch) g) (book_group r rows ch g) (λ i. group_byte g i hg)
        (unfold book_group in group_made (chain_set ch r) (message_set ch) (chain_set ch 0) (group_key (first_rounds rows r) g));
    tables = λ l hl. round_same (round_codings r ch l) (get_or rows l []) (round_at (book_of r rows ch) l) (book_round r rows ch l) (λ i. round_byte l i hl)
        (unfold book_round in round_made (round_codings r ch l) (get_or rows l []));
  }

-- ---- the byte at each offset

module _ (r : ℕ) (rows : List (List ℕ)) (ch bk : List ℕ) (h : Book r rows ch bk) where
  pub byte_of_start : (k : ℕ) → k < start_length → get_or bk k 0 ≡ get_or (start_part r ch) k 0
  byte_of_start k l = sym (get_or-take start_length bk k 0 l) ∙ ap (λ (s : List ℕ). get_or s k 0) h.start

  pub byte_of_fold : (g w j n : ℕ) → g < 3 → w < 4 → j < 8 → n < 256
      → get_or bk (start_length + group_length * g + (256 * (8 * w + j) + n)) 0
      ≡ fold_table (chain_set ch r) (message_set ch) (chain_set ch 0) (group_key (first_rounds rows r) g) w j n
  byte_of_fold g w j n hg hw hj hn =
      sym (get_or-drop (start_length + group_length * g) bk (256 * (8 * w + j) + n) 0) ∙ h.folds g hg w j n hw hj hn

  pub byte_of_add : (l i j n : ℕ) → l < r → i < 3 → j < 8 → n < 512
      → get_or bk (rounds_start + round_length * l + (512 * (8 * i + j) + n)) 0 ≡ add_table (round_codings r ch l) (get_or rows l []) i j n
  byte_of_add l i j n hl hi hj hn =
      sym (get_or-drop (rounds_start + round_length * l) bk (512 * (8 * i + j) + n) 0) ∙ (h.tables l hl).adds i j n hi hj hn

  pub byte_of_turn : (l i j n : ℕ) → l < r → i < 3 → j < 8 → n < 256
      → get_or bk (rounds_start + round_length * l + (12288 + 256 * (8 * i + j) + n)) 0 ≡ turn_table (round_codings r ch l) i j n
  byte_of_turn l i j n hl hi hj hn =
      sym (get_or-drop (rounds_start + round_length * l) bk (12288 + 256 * (8 * i + j) + n) 0) ∙ (h.tables l hl).turns i j n hi hj hn

-- ---- and no byte is left open: what is so at each of these offsets is so at all

module _ (r : ℕ) (P : ℕ → Type 0) (start : (k : ℕ) → k < start_length → P k)
    (folds : (g w j n : ℕ) → g < 3 → w < 4 → j < 8 → n < 256 → P (start_length + group_length * g + (256 * (8 * w + j) + n)))
    (adds : (l i j n : ℕ) → l < r → i < 3 → j < 8 → n < 512 → P (rounds_start + round_length * l + (512 * (8 * i + j) + n)))
    (turns : (l i j n : ℕ) → l < r → i < 3 → j < 8 → n < 256 → P (rounds_start + round_length * l + (12288 + 256 * (8 * i + j) + n))) where
  -- at k, which is the offset o
  moved : (k o : ℕ) → o ≡ k → P o → P k
  moved k o e d = subst P e d

  at_fold : (k : ℕ) → start_length ≤ k → k < rounds_start → P k
  at_fold k a b =
      let e = k - 16 in
      let g = e / 256 / 8 / 4 in
      let w = e / 256 / 8 % 4 in
      let j = e / 256 % 8 in
      let n = e % 256 in
      moved k (start_length + group_length * g + (256 * (8 * w + j) + n)) (omega arith) (folds g w j n (omega arith) (omega arith) (omega arith) (omega arith))

  at_round : (l o : ℕ) → l < r → o < round_length → Dec (o < 12288) → P (rounds_start + round_length * l + o)
  at_round l o hl ho (yes d) =
      let i = o / 512 / 8 in
      let j = o / 512 % 8 in
      let n = o % 512 in
      moved (rounds_start + round_length * l + o) (rounds_start + round_length * l + (512 * (8 * i + j) + n)) (omega arith) (adds l i j n hl (omega arith) (omega arith) (omega arith))
  at_round l o hl ho (no d) =
      let p = o - 12288 in
      let i = p / 256 / 8 in
      let j = p / 256 % 8 in
      let n = p % 256 in
      moved (rounds_start + round_length * l + o) (rounds_start + round_length * l + (12288 + 256 * (8 * i + j) + n)) (omega arith)
      (turns l i j n hl (omega arith) (omega arith) (omega arith))

  at : (k : ℕ) → k < rounds_start + round_length * r → Dec (k < start_length) → Dec (k < rounds_start) → P k
  at k b (yes d) e = start k d
  at k b (no d) (yes e) = at_fold k (omega arith) e
  at k b (no d) (no e) =
      let l = (k - rounds_start) / round_length in
      let o = (k - rounds_start) % round_length in
      moved k (rounds_start + round_length * l + o) (omega arith) (at_round l o (omega arith) (omega arith) (dec_lt o 12288))

  pub every_offset : (k : ℕ) → k < rounds_start + round_length * r → P k
  every_offset k b = at k b (dec_lt k start_length) (dec_lt k rounds_start)

module _ (r : ℕ) (rows : List (List ℕ)) (ch bk bk' : List ℕ) (h : Book r rows ch bk) (h' : Book r rows ch bk') where
  pub book_only : bk ≡ bk'
  book_only =
      ext_get_or 0 bk bk' (h.size ∙ sym h'.size) (λ k b.
      let m : k < rounds_start + round_length * r = rw h.size at b in
      every_offset r (λ k. get_or bk k 0 ≡ get_or bk' k 0)
      (λ k l. byte_of_start r rows ch bk h k l ∙ sym (byte_of_start r rows ch bk' h' k l))
      (λ g w j n hg hw hj hn. byte_of_fold r rows ch bk h g w j n hg hw hj hn ∙ sym (byte_of_fold r rows ch bk' h' g w j n hg hw hj hn))
      (λ l i j n hl hi hj hn. byte_of_add r rows ch bk h l i j n hl hi hj hn ∙ sym (byte_of_add r rows ch bk' h' l i j n hl hi hj hn))
      (λ l i j n hl hi hj hn. byte_of_turn r rows ch bk h l i j n hl hi hj hn ∙ sym (byte_of_turn r rows ch bk' h' l i j n hl hi hj hn)) k m)
