-- What reading tables are for (document 02, 2026-01, its last sentence): the screen agrees with the archive. A reading book that is built
-- with the archive's schedule and key, from a reading chain whose set 0 is the archive's set, gives, decoded by the chain's U, the text
-- that opening has before it tests the padding.
use Rattle.std.specs.Prelude.{false, ◌≡◌, List, map, ℕ, ◌≤◌, length, take, drop}
use Rattle.lists.specs.Blocks.{Bytes, blocks, block_length}
use Rattle.cipher.specs.Lengths.{set_length, longest_message}
use Rattle.cipher.specs.Schedules.{Named}
use Rattle.cipher.specs.Lea.{decipher}
use Rattle.cipher.specs.Coding.{set_of, decoded}
use Rattle.cipher.specs.Chain.{message_set}
use Rattle.cipher.specs.Answers.{schedule_of, key_size, bad_text}
use Rattle.cipher.specs.declared.size.KeySize.{KeySize}
use Rattle.cipher.specs.declared.schedules.Schedule.{Schedule}
use Rattle.pad.specs.Padding.{padded_for_sealing}
use Rattle.archive.specs.Archive.{opened_text}
use Rattle.reading.specs.Chain.{ReadingChain}
use Rattle.reading.specs.Book.{reading_book_length}
use Rattle.reading.specs.Shown.{read_text, text_opened}
use Rattle.reading_book.specs.Answers.{build_reading_answer}
use Rattle.reader.specs.Answers.{read_answer}
use Rattle.claims.specs.Built.{Built, book_in, key_rounds, pad_set, archive_set}
use Rattle.claims.specs.Sealing.{Writes, file_of}

-- building a reading book into `out` answers 0 and leaves the buffer `held`; and the reading book in a buffer, for a key
abbrev pub ReadingBuilt : ℕ → List ℕ → List ℕ → List ℕ → List ℕ → Type 0
ReadingBuilt schedule key ch out held = build_reading_answer schedule key ch out ≡ (0, held)

abbrev pub reading_book_in : List ℕ → List ℕ → List ℕ
reading_book_in key held = take (reading_book_length (key_size key)) held

-- set 0 of a reading chain: what the archive has as set r
abbrev pub first_set : List ℕ → List ℕ
first_set ch = take set_length (drop set_length ch)

-- what the reading book bk of a key makes of a sealed text
abbrev pub shown_of : List ℕ → List ℕ → List ℕ → List ℕ → List ℕ
shown_of key bk iv sealed = read_text bk (key_rounds key) iv sealed

-- reading gives no other refusal than 9 and writes as many bytes as are sealed. Decoded by the chain's U they are what the archive, which
-- gets the set s, has before it tests the padding: as a text, and block by block
pub record LikeOpened (schedule : ℕ) (key ch s bk iv sealed : List ℕ) : Type 0 where
  pub reading : Writes (read_answer bk iv sealed) (length sealed) (shown_of key bk iv sealed)
  pub size : length (shown_of key bk iv sealed) ≡ length sealed
  pub text : text_opened (message_set ch) (shown_of key bk iv sealed) ≡ opened_text (decipher (schedule_of schedule) (key_size key) key) (set_of s) iv sealed
  pub each : map (decoded (message_set ch)) (blocks (shown_of key bk iv sealed)) ≡ blocks (opened_text (decipher (schedule_of schedule) (key_size key) key) (set_of s) iv sealed)

-- for every IV of 16 bytes and every sealed text that is not refused
abbrev pub Shows : ℕ → List ℕ → List ℕ → List ℕ → Type 0
Shows schedule key ch bk = (iv sealed : List ℕ) → length iv ≡ block_length → bad_text (length sealed) ≡ false → LikeOpened schedule key ch (first_set ch) bk iv sealed

-- the way of a sealed file to the screen: what the driver seals of the pad's coding of a message m, by the book bk of the chain ch, read by
-- the reading book rbk of the same schedule and key and the reading chain rch, and opened by the U of rch, is the padded message
pub record Reviewed (key ch rch bk rbk iv m : List ℕ) : Type 0 where
  pub reading : Writes (read_answer rbk iv (file_of (pad_set ch) bk iv m)) (length (file_of (pad_set ch) bk iv m)) (shown_of key rbk iv (file_of (pad_set ch) bk iv m))
  pub shown : text_opened (message_set rch) (shown_of key rbk iv (file_of (pad_set ch) bk iv m)) ≡ padded_for_sealing m

-- what is built for a key and a reading chain into a buffer: building answers 0, the buffer then holds a reading book, and it shows what it
-- should
pub record BuiltShows (schedule : ℕ) (key ch out : List ℕ) : Type 0 where
  pub held : List ℕ
  pub built : ReadingBuilt schedule key ch out held
  pub holds : Shows schedule key ch (reading_book_in key held)

-- for either schedule, any key and any reading chain: every key of bytes of a known size, every valid reading chain for it, every buffer
-- with room
abbrev pub ShowsForAll : Type 0
ShowsForAll =
    (schedule : ℕ) (k : Schedule) (z : KeySize) (key ch out : List ℕ) → Named schedule key k z → Bytes key → ReadingChain z ch
    → reading_book_length z ≤ length out
    → BuiltShows schedule key ch out

-- and for every sealing book beside it whose chain's set r is the reading chain's set 0, every IV and every message
abbrev pub Reviews : Type 0
Reviews =
    (schedule : ℕ) (key ch out held rch rout rheld : List ℕ) → Built schedule key ch out held → ReadingBuilt schedule key rch rout rheld → first_set rch ≡ archive_set key ch → Bytes key
    → (m iv : List ℕ) → Bytes m → length m ≤ longest_message → length iv ≡ block_length → Reviewed key ch rch (book_in key held) (reading_book_in key rheld) iv m
