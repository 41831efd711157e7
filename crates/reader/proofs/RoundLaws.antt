-- The differences of a reading round made byte by byte, the words side by side: what the loop has after m bytes of each, and that at the end
-- it is the round.
use mathlib.Core.Path.{◌≡◌, refl, ap, ◌∙◌}
use mathlib.Core.List.{List}
use Prim.Native.Nat.{ℕ, zero, suc, ◌+◌, ◌*◌, ◌/◌, ◌%◌, ◌<◌}
use native.Mathlib.Omega.{arith}
use lib.Dec.{lit<}
use lib.ListN.{get_or, length}
use Rattle.lists.specs.Blocks.{Block}
use Rattle.lists.proofs.TabulationLaws.{get_or_tab}
use Rattle.cipher.specs.Lengths.{add_length}
use Rattle.cipher.specs.Coding.{block_half}
use Rattle.cipher.proofs.CodingLaws.{block_halves}
use Rattle.reading.specs.Tables.{subtract_at, turned_at, borrow_at, difference_at, half_read, read_round}
use Rattle.reading.proofs.ReadingRoundLaw.{read_lt}
use Rattle.table_reader.specs.Reading.{TwoIs, byte_of, three_words}
use Rattle.table_reader.proofs.ReadingLaws.{half_lo, half_hi, four}
use Rattle.table_reader.proofs.Columns.{Columns, columns_first, four_columns, four_full}
use Rattle.table_reader.proofs.SumLaws.{two_sum, two_carry}
use Rattle.reader.specs.Round.{Bits, EachIs, turned_bytes}
use Rattle.reader.specs.declared.round.ByteOfEach.{ByteOfEach}

module _ (t b : List ℕ) where
  -- half bytes, and byte m of a turned word as it stands in s
  pub turned_lt : (i j : ℕ) → turned_at t b i j < 16
  unfolding turned_at
  turned_lt i j = omega arith

  turned_byte_lem : (i m k : ℕ) → i < 3 → m < 4 → k ≡ 4 * i + m → get_or (turned_bytes t b) k 0 ≡ byte_of (turned_at t b) i m
  unfolding three_words
  turned_byte_lem i m k hi hm e =
      let p : k / 4 ≡ i = omega arith in
      let q : k % 4 ≡ m = omega arith in
      get_or_tab 12 (λ k. byte_of (turned_at t b) (k / 4) (k % 4)) k (omega arith) ∙ rw (p, q)

  pub borrow_lt : (i j : ℕ) (x : ℕ → ℕ) → borrow_at t b i x j < 2
  unfolding borrow_at
  borrow_lt i zero x = omega arith
  borrow_lt i (suc j) x = omega arith

  -- two entries of subtract tables, of which 12 of their length would stand in front: a byte of new word i + 1, and the borrow after it
  module _ (i m k c x y s d : ℕ) (ek : k ≡ 12 + 8 * i + 2 * m) (ec : c ≡ borrow_at t b i (half_read t b i) (2 * m))
      (ex : x ≡ byte_of (turned_at t b) i m) (ey : y ≡ byte_of (half_read t b) i m) (is : TwoIs t k c x y s d) where
    entries : (j n : ℕ) → get_or t (add_length * (12 + 8 * i + j) + n) 0 ≡ subtract_at t i j n
    entries j n = ap (λ (o : ℕ). get_or t o 0) (omega arith)

    p0 : x % 16 ≡ turned_at t b i (2 * m)
    p0 = let a = turned_lt i (2 * m) in omega (arith, ex)

    p1 : x / 16 % 16 ≡ turned_at t b i (2 * m + 1)
    p1 = let a = turned_lt i (2 * m) in let b' = turned_lt i (2 * m + 1) in omega (arith, ex)

    q0 : y % 16 ≡ half_read t b i (2 * m)
    q0 = let a = read_lt t b i (2 * m) in omega (arith, ey)

    q1 : y / 16 % 16 ≡ half_read t b i (2 * m + 1)
    q1 = let a = read_lt t b i (2 * m) in let b' = read_lt t b i (2 * m + 1) in omega (arith, ey)

    next_byte : s ≡ byte_of (half_read t b) (suc i) m
    unfolding half_read difference_at
    next_byte =
        two_sum t (12 + 8 * i) (subtract_at t i) (turned_at t b i) (half_read t b i) (borrow_at t b i (half_read t b i)) entries (λ j. unfold borrow_at in refl)
        m k c x y s d ek ec p0 p1 q0 q1 is

    next_borrow : d ≡ borrow_at t b i (half_read t b i) (2 * (m + 1))
    next_borrow =
        two_carry t (12 + 8 * i) (subtract_at t i) (turned_at t b i) (half_read t b i) (borrow_at t b i (half_read t b i)) entries (λ j. unfold borrow_at in refl)
        m k c x y s d ek ec p0 p1 q0 q1 is

-- the first m bytes of each new word are made in y, in place of those of the block b; and the borrows that come in next are those of w
pub record Differences (t b : List ℕ) (m : ℕ) (y : List ℕ) (w : ByteOfEach) : Type 0 where
  pub bits : Bits w
  pub are : Columns 4 (byte_of (half_read t b)) b m y
  pub borrow1 : w.word1.carry ≡ borrow_at t b 0 (half_read t b 0) (2 * m)
  pub borrow2 : w.word2.carry ≡ borrow_at t b 1 (half_read t b 1) (2 * m)
  pub borrow3 : w.word3.carry ≡ borrow_at t b 2 (half_read t b 2) (2 * m)

pub differences_first : (t b : List ℕ) (w : ByteOfEach) → length b ≡ 16 → w.word1.carry ≡ 0 → w.word2.carry ≡ 0 → w.word3.carry ≡ 0
    → Differences t b 0 b w
unfolding borrow_at
differences_first t b w h e1 e2 e3 = record {
  bits = (omega arith, omega arith, omega arith);
  are = columns_first 4 (byte_of (half_read t b)) b h;
  borrow1 = e1;
  borrow2 = e2;
  borrow3 = e3;
}

pub differences_next : (t b s y : List ℕ) (m x : ℕ) (o r : ByteOfEach) → m < 4 → s ≡ turned_bytes t b → Differences t b m y o
    → x ≡ get_or y (m + 12) 0 % 16 + 16 * (get_or y (m + 12) 0 / 16 % 16) → EachIs t s m x o r
    → Differences t b (m + 1) (four y m x r.word1.sum r.word2.sum r.word3.sum) r
unfolding half_read
differences_next t b s y m x o r hm es z ex is =
    let l1 = byte 0 m (lit< tt) (omega arith) in
    let l2 = byte 1 (m + 4) (lit< tt) (omega arith) in
    let l3 = byte 2 (m + 8) (lit< tt) (omega arith) in
    let g1 = next_byte t b 0 m (12 + 2 * m) o.word1.carry (get_or s m 0) x r.word1.sum r.word1.carry (omega arith) z.borrow1 l1 old is.first in
    let g2 = next_byte t b 1 m (12 + 2 * m + 8) o.word2.carry (get_or s (m + 4) 0) r.word1.sum r.word2.sum r.word2.carry (omega arith) z.borrow2 l2 g1 is.second in
    let g3 = next_byte t b 2 m (12 + 2 * m + 16) o.word3.carry (get_or s (m + 8) 0) r.word2.sum r.word3.sum r.word3.carry (omega arith) z.borrow3 l3 g2 is.third in
    let e1 = next_borrow t b 0 m (12 + 2 * m) o.word1.carry (get_or s m 0) x r.word1.sum r.word1.carry (omega arith) z.borrow1 l1 old is.first in
    let e2 = next_borrow t b 1 m (12 + 2 * m + 8) o.word2.carry (get_or s (m + 4) 0) r.word1.sum r.word2.sum r.word2.carry (omega arith) z.borrow2 l2 g1 is.second in
    let e3 = next_borrow t b 2 m (12 + 2 * m + 16) o.word3.carry (get_or s (m + 8) 0) r.word2.sum r.word3.sum r.word3.carry (omega arith) z.borrow3 l3 g2 is.third in
    record {
      bits = (
        rw e1 (borrow_lt t b 0 (2 * (m + 1)) (half_read t b 0)),
        rw e2 (borrow_lt t b 1 (2 * (m + 1)) (half_read t b 1)),
        rw e3 (borrow_lt t b 2 (2 * (m + 1)) (half_read t b 2)),
      );
      are = four_columns (byte_of (half_read t b)) b y m x r.word1.sum r.word2.sum r.word3.sum hm z.are old g1 g2 g3;
      borrow1 = e1;
      borrow2 = e2;
      borrow3 = e3;
    }
  where
    byte : (i k : ℕ) → i < 3 → k ≡ 4 * i + m → get_or s k 0 ≡ byte_of (turned_at t b) i m
    byte i k hi e = ap (λ (l : List ℕ). get_or l k 0) es ∙ turned_byte_lem t b i m k hi hm e

    old : x ≡ byte_of (block_half b) 3 m
    old =
        let e : m + 12 ≡ 4 * 3 + m = omega arith in
        let q = ap (λ (k : ℕ). get_or y k 0) e ∙ z.are.old 3 m (lit< tt) (omega arith) hm in
        ex ∙ ap (λ (w : ℕ). w % 16 + 16 * (w / 16 % 16)) q ∙ rw (half_lo b 3 m, half_hi b 3 m)

pub differences_full : (t b y : List ℕ) (m : ℕ) (w : ByteOfEach) → m ≡ 4 → Differences t b m y w → y ≡ read_round t b
unfolding read_round
differences_full t b y m w e z = four_full (half_read t b) b y m e z.are

-- what a round gives is a block
pub block_round : (t b : List ℕ) → Block (read_round t b)
unfolding read_round
block_round t b = block_halves (half_read t b) (λ w j hw hj. read_lt t b w j)
