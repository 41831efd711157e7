-- One ink file instead of four attachments (document 02, 2026-02): what the driver seals of a message and a tag that the archive calls Valid
-- go into one file, with a pad number and remarks; the archive reads them out of it, opens the message and calls the tag Valid.
use Rattle.std.specs.Prelude.{◌≡◌, List, ℕ, ◌≤◌, length}
use Rattle.lists.specs.Blocks.{Bytes, block_length}
use Rattle.cipher.specs.Lengths.{longest_message}
use Rattle.archive.specs.Archive.{open_answer, check_answer}
use Rattle.inkfile.specs.Kinds.{pad_number_length}
use Rattle.inkfile.specs.Format.{Record, Fields, ink_of, AllowedRemarks}
use Rattle.inkfile.specs.Reading.{fields_read}
use Rattle.inkfile.specs.Writing.{write_ink_answer}
use Rattle.inkfile.specs.Laws.{Holds}
use Rattle.claims.specs.Built.{Built, book_in, pad_set, archive_set}
use Rattle.claims.specs.Sealing.{Writes, file_of}

-- writing the fields f gives no refusal but 9, and reading their file none. With what is read out of it opening gives the message m and no
-- refusal but 9, and checking says Valid
pub record Sent (schedule : ℕ) (key s m : List ℕ) (f : Fields) : Type 0 where
  pub writing : Writes (write_ink_answer f) (length (ink_of f)) (ink_of f)
  pub reading : Holds (ink_of f) f
  pub opening : Writes (open_answer schedule key s (fields_read (ink_of f)).iv (fields_read (ink_of f)).sealed) (length f.sealed) m
  pub valid : check_answer schedule key s m (fields_read (ink_of f)).tag ≡ (0, 1)

-- for every book that is built, every message and IV, every tag t that is Valid for the message, every pad number of 8 bytes, and up to four
-- remarks within the limits
abbrev pub SentInOne : Type 0
SentInOne =
    (schedule : ℕ) (key ch out held : List ℕ) → Built schedule key ch out held → Bytes key → (m iv : List ℕ) → Bytes m → length m ≤ longest_message → length iv ≡ block_length
    → (t : List ℕ) → check_answer schedule key (archive_set key ch) m t ≡ (0, 1) → (n : List ℕ) → length n ≡ pad_number_length
    → (rs : List Record) → length rs ≤ 4 → AllowedRemarks rs
    → Sent schedule key (archive_set key ch) m (record { pad_number = n; iv = iv; sealed = file_of (pad_set ch) (book_in key held) iv m; tag = t; remarks = rs })
