-- What the review screen shows (document 02, 2026-01): with the key of the archive, and its set r as the reading chain's set 0, what is
-- read and opened by U is what the archive has before it looks at padding; and of a sealed message it is the padded message.
use mathlib.Core.Path.{◌≡◌, sym, ap, ◌∙◌}
use mathlib.Core.Bool.{false}
use mathlib.Core.List.{List, [], ◌∷◌, ◌++◌, map}
use Prim.Native.Nat.{ℕ, ◌+◌, ◌/◌}
use native.Mathlib.Omega.{arith}
use lib.ListN.{length, drop}
use Rattle.lists.specs.Blocks.{Bytes, blocks}
use Rattle.lists.proofs.BlockLaws.{Blocks, none, more, blocks_flatten}
use Rattle.lists.proofs.ChunkLaws.{length_chunks}
use Rattle.cipher.specs.KeySize.{rounds}
use Rattle.cipher.specs.Lengths.{set_length}
use Rattle.cipher.specs.Schedules.{key_rows}
use Rattle.cipher.specs.Lea.{decipher}
use Rattle.cipher.specs.Coding.{Set, Permutations, set_of, decoded}
use Rattle.cipher.specs.Chain.{message_set, chain_set}
use Rattle.cipher.specs.Answers.{schedule_of, key_size, bad_text}
use Rattle.cipher.proofs.SchedulesLaws.{key_words}
use Rattle.cipher.proofs.CodingLaws.{Agree, block_decoded}
use Rattle.cipher.proofs.ChainTests.{lone_agree}
use Rattle.cipher.proofs.AnswerLaws.{text_known}
use Rattle.archive.specs.Archive.{opened_text}
use Rattle.reading.specs.Chain.{ReadingChain}
use Rattle.reading.specs.Book.{reading_book_of, reading_book_length, ReadingBook}
use Rattle.reading.specs.Shown.{read_text, read_at, text_opened}
use Rattle.reading.proofs.ReadLoop.{read_text_lem}
use Rattle.reading.proofs.ShownTheorem.{block_read, shown_under}
use Rattle.reader.specs.Answers.{read_answer}
use Rattle.reader.proofs.AnswerLaws.{read_9, read_done}
use Rattle.claims.specs.Built.{book_in, key_rounds, pad_set}
use Rattle.claims.specs.Sealing.{file_of, Writes}
use Rattle.claims.specs.Review.{ReadingBuilt, reading_book_in, first_set, shown_of, LikeOpened, Shows, ShowsForAll, Reviews}
use Rattle.claims.proofs.BuiltLaws.{any_reading_built, reading_built_chain, reading_built_book}
use Rattle.claims.proofs.SealTheorem.{file_good, opened_is}

-- blocks decoded are blocks
decoded_blocks : (U : Set) → Permutations U → (bs : List (List ℕ)) → Blocks (map (decoded U) bs)
decoded_blocks U p [] = none
decoded_blocks U p (b ∷ bs) = more (block_decoded U p b) (decoded_blocks U p bs)

-- as many bytes are read as are sealed
length_read : (bk : List ℕ) (r : ℕ) (iv sealed : List ℕ) → bad_text (length sealed) ≡ false → length (read_text bk r iv sealed) ≡ length sealed
unfolding read_at
length_read bk r iv sealed good =
    ap length (read_text_lem bk r iv sealed)
    ∙ length_chunks (read_at bk r iv sealed) 16 (λ k. (block_read bk r _ _).size) (length sealed / 16)
    ∙ omega (arith, (text_known (length sealed) good).2)

-- ---- a reading book of a key's rows and a reading chain

module _ (schedule : ℕ) (key : List ℕ) (hk : Bytes key) (ch bk : List ℕ) (v : ReadingChain (key_size key) ch)
    (h : ReadingBook (key_rounds key) (key_rows (schedule_of schedule) (key_size key) key) ch bk) (iv sealed : List ℕ) (li : length iv ≡ 16) (good : bad_text (length sealed) ≡ false) where
  abbrev shown : List ℕ
  shown = shown_of key bk iv sealed

  reading_writes : Writes (read_answer bk iv sealed) (length sealed) (shown_of key bk iv sealed)
  reading_writes = record {
    short = λ out l. read_9 bk iv sealed out (key_size key) h.size li good l;
    written = λ out l. read_done bk iv sealed out (key_size key) h.size li good l
        ∙ ap (λ (n : ℕ). ((0, n), shown ++ drop n out)) (sym (length_read bk (key_rounds key) iv sealed good));
  }

  agree : Agree (chain_set ch 0) (set_of (first_set ch))
  agree w j x hw hj hx = sym (lone_agree (drop set_length ch) w j x hw hj hx)

  text_is : text_opened (message_set ch) (shown_of key bk iv sealed) ≡ opened_text (decipher (schedule_of schedule) (key_size key) key) (set_of (first_set ch)) iv sealed
  unfolding opened_text
  text_is = shown_under (key_size key) (key_rows (schedule_of schedule) (key_size key) key) (key_words (schedule_of schedule) (key_size key) key hk) ch bk v h (set_of (first_set ch)) agree iv sealed

  each_is : map (decoded (message_set ch)) (blocks (shown_of key bk iv sealed)) ≡ blocks (opened_text (decipher (schedule_of schedule) (key_size key) key) (set_of (first_set ch)) iv sealed)
  unfolding text_opened
  each_is =
      sym (blocks_flatten (map (decoded (message_set ch)) (blocks shown)) (decoded_blocks (message_set ch) v.codings.message (blocks shown))) ∙ ap blocks text_is

  pub like_opened : LikeOpened schedule key ch (first_set ch) bk iv sealed
  like_opened = record { reading = reading_writes; size = length_read bk (key_rounds key) iv sealed good; text = text_is; each = each_is }

-- ---- what is built

pub shows : (schedule : ℕ) (key ch out held : List ℕ) → ReadingBuilt schedule key ch out held → Bytes key → Shows schedule key ch (reading_book_in key held)
shows schedule key ch out held built hk iv sealed li good =
    like_opened schedule key hk ch (reading_book_in key held) (reading_built_chain schedule key ch out held built) (reading_built_book schedule key ch out held built) iv sealed li good

pub shows_for_all : ShowsForAll
shows_for_all schedule k z key ch out e hk v room =
    let held = reading_book_of (rounds z) (key_rows k z key) ch ++ drop (reading_book_length z) out in
    let built = any_reading_built schedule k z key ch out e v room in
    record { held = held; built = built; holds = shows schedule key ch out held built hk }

-- ---- beside a sealing book

pub reviews : Reviews
reviews schedule key ch out held rch rout rheld built rbuilt same hk m iv hm most li =
    let file = file_of (pad_set ch) (book_in key held) iv m in
    let like = shows schedule key rch rout rheld rbuilt hk iv file li (file_good schedule key ch out held built hk m iv hm most li) in
    record {
      reading = like.reading;
      shown = like.text
          ∙ ap (λ (s : List ℕ). opened_text (decipher (schedule_of schedule) (key_size key) key) (set_of s) iv file) same
          ∙ opened_is schedule key ch out held built hk m iv hm most li;
    }
