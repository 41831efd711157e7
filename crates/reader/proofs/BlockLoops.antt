-- The blocks of a buffer through rounds, and folded with the blocks before them: one turn of each loop, and the whole.
use mathlib.Core.Path.{◌≡◌, refl, sym, ap, ap₂, ◌∙◌}
use mathlib.Core.List.{List, []}
use Prim.Native.Nat.{ℕ, zero, suc, ◌+◌, ◌-◌, ◌*◌, ◌/◌, ◌%◌, ◌<◌}
use native.Mathlib.Numerals.{add-one}
use native.Mathlib.Omega.{arith}
use lib.ListN.{length, get_or, take, drop, length-drop}
use Rattle.std.specs.Simd.{first_chunks}
use Rattle.lists.specs.Tabulation.{chunks}
use Rattle.lists.specs.Blocks.{block_of, block_before}
use Rattle.lists.proofs.ChunkLaws.{length_chunks, chunks_ext}
use Rattle.lists.proofs.PartLaws.{part_end, grown_whole}
use Rattle.lists.proofs.BlockBuffers.{Made, made_none, made_block}
use Rattle.cipher.specs.Lengths.{group_length, round_length}
use Rattle.cipher.specs.Tables.{fold_half, table_fold}
use Rattle.cipher.proofs.CodingLaws.{block_halves}
use Rattle.cipher.proofs.FoldLaw.{fold_lt}
use Rattle.reading.specs.Tables.{read_round, read_rounds}
use Rattle.reading.specs.Book.{reading_round_at, reading_group_at}
use Rattle.reading.specs.Shown.{read_block, read_text, read_at}
use Rattle.reading.proofs.ReadLoop.{read_text_lem}
use Rattle.lists.proofs.FirstChunks.{chunk_first, chunk_lent}
use Rattle.table_reader.proofs.FrontLaws.{fold_front}
use Rattle.reader.proofs.RoundLaws.{block_round}
use Rattle.reader.proofs.FrontLaws.{read_front}

-- ---- a buffer of whole blocks: when all of them are made, nothing stands behind them

module _ (f : ℕ → List ℕ) (d o : List ℕ) (whole : length d % 16 ≡ 0) where
  pub made_of : o ≡ chunks (length d / 16) f → Made f d (length d / 16) o
  made_of e = e ∙ sym (grown_whole (chunks (length d / 16) f) d (16 * (length d / 16)) (omega arith))

  pub all_made : (n : ℕ) → n ≡ length d / 16 → Made f d n o → o ≡ chunks (length d / 16) f
  all_made n e m = m ∙ rw e (grown_whole (chunks (length d / 16) f) d (16 * (length d / 16)) (omega arith))

-- ---- one round: block k of d through it

abbrev pub round_of : List ℕ → List ℕ → ℕ → List ℕ
round_of t d k = read_round t (block_of d k)

pub length_round : (t d : List ℕ) (k : ℕ) → length (round_of t d k) ≡ 16
length_round t d k = (block_round t (block_of d k)).size

-- ---- the rounds of a book: block k of d through the first l

abbrev pub rounds_of : List ℕ → ℕ → List ℕ → ℕ → List ℕ
rounds_of bk l d k = read_rounds (reading_round_at bk) l (block_of d k)

length_rounds : (bk d : List ℕ) (r : ℕ) → 0 < r → (k : ℕ) → length (rounds_of bk r d k) ≡ 16
unfolding read_rounds
length_rounds bk d zero h k = absurd (omega arith)
length_rounds bk d (suc l) h k = (block_round (reading_round_at bk l) (read_rounds (reading_round_at bk) l (block_of d k))).size

-- the blocks of d went through l rounds
pub record Rounded (bk d : List ℕ) (l : ℕ) (out : List ℕ) : Type 0 where
  pub len : length out ≡ length d
  pub each : (k : ℕ) → k < length d / 16 → block_of out k ≡ rounds_of bk l d k

module _ (bk d : List ℕ) (whole : length d % 16 ≡ 0) where
  pub rounded_none : Rounded bk d 0 d
  unfolding read_rounds
  rounded_none = record { len = refl; each = λ k h. refl }

  -- one round more, by the tables as they are lent: those at l of the parts that the book is made of
  pub rounded_more : (l r k : ℕ) (cs : List (List ℕ)) (out o : List ℕ) → cs ≡ first_chunks round_length k bk → l < length (take r cs)
      → length o ≡ length out → Rounded bk d l out → o ≡ chunks (length out / 16) (round_of (get_or (take r cs) l []) out) → Rounded bk d (l + 1) o
  unfolding read_rounds
  rounded_more l r k cs out o ec h same e q =
      let t = get_or (take r cs) l [] in
      record {
        len = same ∙ e.len;
        each = λ i h'.
            made_block (round_of t out) (length_round t out) out (length out / 16) o (made_of (round_of t out) out o (rw e.len whole) q) (omega arith) i (rw e.len h')
            ∙ ap₂ read_round (chunk_lent round_length r _ l bk cs ec h) (e.each i h')
            ∙ read_front (reading_round_at bk l) (rounds_of bk l d i)
            ∙ ap (λ (m : ℕ). rounds_of bk m d i) (sym (add-one l));
      }

  pub rounded_all : (l r : ℕ) (out : List ℕ) → l ≡ r → Rounded bk d l out → out ≡ chunks (length d / 16) (rounds_of bk r d)
  rounded_all l r out q e =
      all_made (block_of out) out out (rw e.len whole) (length out / 16) refl (made_none (length out / 16) out (omega arith))
      ∙ ap (λ (m : ℕ). chunks (m / 16) (block_of out)) e.len
      ∙ chunks_ext (length d / 16) (block_of out) (rounds_of bk r d) (λ k h. e.each k h ∙ ap (λ (m : ℕ). rounds_of bk m d k) q)

-- ---- the folds: block k of d with the one before its place in the text

abbrev pub fold_of : List ℕ → List ℕ → List ℕ → List ℕ → ℕ → List ℕ
fold_of f iv text d k = table_fold f (block_of d k) (block_before iv text k)

pub length_fold : (f iv text d : List ℕ) (k : ℕ) → length (fold_of f iv text d k) ≡ 16
unfolding table_fold
length_fold f iv text d k = (block_halves (fold_half f (block_of d k) (block_before iv text k)) (fold_lt f (block_of d k) (block_before iv text k))).size

pub before_more : (iv text b : List ℕ) (k : ℕ) → b ≡ take 16 (drop (16 * k) text) → b ≡ block_before iv text (k + 1)
unfolding block_before
before_more iv text b k e = rw add-one e

-- the group after r rounds, as it is lent: the first of the parts that the rest of the book is made of
pub group_is : (bk : List ℕ) (r : ℕ) (cs : List (List ℕ)) (d x : List ℕ) → length bk ≡ group_length + round_length * r
    → (let p = take (length bk - round_length * r) (drop (round_length * r) bk) in cs ≡ first_chunks group_length (length p / group_length) p)
    → table_fold (get_or cs 0 []) d x ≡ table_fold (reading_group_at r bk) d x
group_is bk r cs d x e ec =
    ap (λ (g : List ℕ). table_fold g d x)
    (chunk_first group_length _ _ cs ec (rw (part_end bk (round_length * r), length-drop (round_length * r) bk) (omega arith))
    ∙ ap (take group_length) (part_end bk (round_length * r)))
    ∙ fold_front (reading_group_at r bk) d x

-- ---- copied, through the rounds, folded

module _ (bk iv text : List ℕ) (r : ℕ) (some : 0 < r) (whole : length text % 16 ≡ 0) (a b c g : List ℕ) (ea : a ≡ text)
    (eb : b ≡ chunks (length a / 16) (rounds_of bk r a)) (eg : (x y : List ℕ) → table_fold g x y ≡ table_fold (reading_group_at r bk) x y)
    (ec : c ≡ chunks (length b / 16) (fold_of g iv text b)) where
  through : b ≡ chunks (length text / 16) (rounds_of bk r text)
  through = eb ∙ ap (λ (x : List ℕ). chunks (length x / 16) (rounds_of bk r x)) ea

  block_is : (k : ℕ) → k < length text / 16 → fold_of g iv text b k ≡ read_at bk r iv text k
  unfolding read_at read_block
  block_is k h =
      eg _ _
      ∙ ap (λ (x : List ℕ). table_fold (reading_group_at r bk) x (block_before iv text k))
      (made_block (rounds_of bk r text) (length_rounds bk text r some) text (length text / 16) b (made_of (rounds_of bk r text) text b whole through) (omega arith) k h)

  same_length : length b ≡ length text
  same_length = ap length through ∙ length_chunks (rounds_of bk r text) 16 (length_rounds bk text r some) (length text / 16) ∙ omega (arith, whole)

  pub read_is : c ≡ read_text bk r iv text
  read_is =
      ec
      ∙ ap (λ (m : ℕ). chunks (m / 16) (fold_of g iv text b)) same_length
      ∙ chunks_ext (length text / 16) (fold_of g iv text b) (read_at bk r iv text) block_is
      ∙ sym (read_text_lem bk r iv text)
