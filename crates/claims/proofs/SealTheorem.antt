-- Demand 3's sealed file (document 01, "The model session of demand 3"): what the driver seals of the pad's coding of a message,
-- opened with the same key, set r and IV, gives the message and its length; of all refusals only 9 can be given on this way. Its blocks,
-- decoded by set r, are the padded message enciphered in CBC.
use Rattle.std.proofs.Common.{Some}
use mathlib.Core.Path.{◌≡◌, sym, ap, ap₂, ◌∙◌}
use mathlib.Core.Bool.{false}
use mathlib.Core.List.{List, ◌++◌, map, flatten}
use Prim.Native.Nat.{ℕ, ◌+◌, ◌/◌, ◌≤◌}
use native.Mathlib.Omega.{arith}
use lib.ListN.{length, drop}
use Rattle.lists.specs.Blocks.{Bytes, blocks}
use Rattle.cipher.specs.Schedules.{key_rows}
use Rattle.cipher.specs.Lea.{encipher, decipher}
use Rattle.cipher.specs.Cbc.{cbc_enciphered, cbc_deciphered}
use Rattle.cipher.specs.Coding.{set_of, decoded}
use Rattle.cipher.specs.Chain.{message_set, Chain}
use Rattle.cipher.specs.Book.{book_body, Book}
use Rattle.cipher.specs.Answers.{schedule_of, key_size, bad_text}
use Rattle.cipher.proofs.SchedulesLaws.{key_words}
use Rattle.cipher.proofs.AnswerLaws.{text_good}
use Rattle.pad.specs.Padding.{padded_for_sealing, coded_text}
use Rattle.pad.specs.Answers.{sealing_answer}
use Rattle.pad.proofs.PadLaws.{sealing_blocks, sealing_most, sealing_bytes, sealing_padded}
use Rattle.pad.proofs.TextLaws.{length_coded}
use Rattle.pad.proofs.AnswerLaws.{sealing_short, sealing_coded}
use Rattle.driver.specs.Driver.{admit_answer, sealed, seal_answer}
use Rattle.driver.proofs.AnswerLaws.{seal_9, seal_done}
use Rattle.archive.specs.Archive.{opened_text, ends_padded, unpadded, open_answer}
use Rattle.archive.proofs.AnswerLaws.{open_9, open_done}
use Rattle.claims.specs.Built.{Built, book_in, key_rounds, pad_set, archive_set}
use Rattle.claims.specs.Sealing.{code_of, file_of, Writes, SealedWay}
use Rattle.claims.proofs.BuiltLaws.{built_named, built_chain, built_book, built_found}
use Rattle.claims.proofs.LoneSets.{pad_set_lem, archive_set_lem, pad_coded, archive_decoded}
use Rattle.claims.proofs.SealedText.{ends_padded_lem, padding_off, length_file, enciphered_sealed, opened_sealed}

-- the three calls, for every schedule, key, chain and buffer with which a book is built
module _ (schedule : ℕ) (key ch out held : List ℕ) (built : Built schedule key ch out held) (hk : Bytes key) (m iv : List ℕ) (hm : Bytes m) (most : length m ≤ 1048575) (li : length iv ≡ 16) where
  abbrev u : List ℕ
  u = pad_set ch

  abbrev s : List ℕ
  s = archive_set key ch

  abbrev book : List ℕ
  book = book_in key held

  abbrev rows : List (List ℕ)
  rows = key_rows (schedule_of schedule) (key_size key) key

  abbrev padded : List ℕ
  padded = padded_for_sealing m

  valid : Chain (key_size key) ch
  valid = built_chain schedule key ch out held built

  made : Book (key_rounds key) (key_rows (schedule_of schedule) (key_size key) key) ch (book_body (book_in key held))
  made = built_book schedule key ch out held built

  code_is : code_of u m ≡ coded_text (message_set ch) padded
  unfolding coded_text
  code_is = ap (λ (c : List ℕ → List ℕ). flatten (map c (blocks padded))) (pad_coded key ch valid)

  code_length : length (code_of (pad_set ch) m) ≡ length (padded_for_sealing m)
  code_length = length_coded (set_of u) (pad_set_lem key ch valid).codings padded (length m / 16 + 1) (sealing_blocks m)

  pub file_length : length (file_of (pad_set ch) (book_in key held) iv m) ≡ length (padded_for_sealing m)
  file_length =
      ap (λ (c : List ℕ). length (sealed (book_body book) iv c)) code_is
      ∙ length_file (key_size key) rows ch (book_body book) valid made (key_words (schedule_of schedule) (key_size key) key hk) iv padded (length m / 16 + 1) (sealing_blocks m)

  good : (n : ℕ) → n ≡ length padded → bad_text n ≡ false
  good n e =
      text_good n (λ w. omega (arith, sealing_blocks m)) (omega (arith, sealing_most m most)) (omega (arith, sealing_blocks m))

  pub file_good : bad_text (length (file_of (pad_set ch) (book_in key held) iv m)) ≡ false
  file_good = good (length (file_of u book iv m)) file_length

  pub opened_is : opened_text (decipher (schedule_of schedule) (key_size key) key) (set_of (archive_set key ch)) iv (file_of (pad_set ch) (book_in key held) iv m) ≡ padded_for_sealing m
  unfolding opened_text
  opened_is =
      ap₂ (λ (d : List ℕ → List ℕ) (c : List ℕ). flatten (cbc_deciphered (decipher (schedule_of schedule) (key_size key) key) (d iv)
      (map d (blocks (sealed (book_body book) iv c))))) (archive_decoded key ch valid) code_is
      ∙ opened_sealed (key_size key) rows ch (book_body book) valid made (key_words (schedule_of schedule) (key_size key) key hk) iv padded (length m / 16 + 1) (sealing_blocks m)
      (sealing_bytes m hm)

  message_back : unpadded (opened_text (decipher (schedule_of schedule) (key_size key) key) (set_of s) iv (file_of u book iv m)) ≡ m
  message_back = ap unpadded opened_is ∙ padding_off m

  coding_writes : Writes (sealing_answer u m) (length (code_of u m)) (code_of u m)
  coding_writes = record {
    short = λ o h. sealing_short u m o (pad_set_lem key ch valid) most (omega (arith, code_length));
    written = λ o h. sealing_coded u m o (pad_set_lem key ch valid) most (omega (arith, code_length))
        ∙ ap (λ (k : ℕ). ((0, k), code_of u m ++ drop k o)) (sym code_length);
  }

  found : admit_answer book ≡ (0, Some (key_size key))
  found = built_found schedule key ch out held built

  sealing_writes : Writes (seal_answer book iv (code_of u m)) (length (file_of u book iv m)) (file_of u book iv m)
  sealing_writes = record {
    short = λ o h. seal_9 book iv (code_of u m) o (key_size key) found li (good (length (code_of u m)) code_length) (omega (arith, code_length, file_length));
    written = λ o h. seal_done book iv (code_of u m) o (key_size key) found li (good (length (code_of u m)) code_length) (omega (arith, code_length, file_length))
        ∙ ap (λ (k : ℕ). ((0, k), file_of u book iv m ++ drop k o)) (code_length ∙ sym file_length);
  }

  opening_writes : Writes (open_answer schedule key s iv (file_of u book iv m)) (length (file_of u book iv m)) m
  opening_writes = record {
    short = λ o h. open_9 schedule key s iv (file_of u book iv m) o (schedule_of schedule) (key_size key) (built_named schedule key ch out held built) (archive_set_lem key ch valid) li
        (good (length (file_of u book iv m)) file_length) h;
    written = λ o h. open_done schedule key s iv (file_of u book iv m) o (schedule_of schedule) (key_size key) (built_named schedule key ch out held built) (archive_set_lem key ch valid) li
        (good (length (file_of u book iv m)) file_length) h (ap ends_padded opened_is ∙ ends_padded_lem padded (sealing_padded m))
        ∙ ap (λ (x : List ℕ). ((0, length x), x ++ drop (length x) o)) message_back;
  }

  blocks_enciphered : map (decoded (set_of s)) (blocks (file_of u book iv m)) ≡ cbc_enciphered (encipher (schedule_of schedule) (key_size key) key) (decoded (set_of s) iv) (blocks padded)
  blocks_enciphered =
      ap₂ (λ (d : List ℕ → List ℕ) (c : List ℕ). map d (blocks (sealed (book_body book) iv c))) (archive_decoded key ch valid) code_is
      ∙ enciphered_sealed (key_size key) rows ch (book_body book) valid made (key_words (schedule_of schedule) (key_size key) key hk) iv padded (length m / 16 + 1) (sealing_blocks m)
      (sealing_bytes m hm)
      ∙ ap (λ (d : List ℕ → List ℕ). cbc_enciphered (encipher (schedule_of schedule) (key_size key) key) (d iv) (blocks padded)) (sym (archive_decoded key ch valid))

  pub seal_built : SealedWay schedule key (pad_set ch) (archive_set key ch) (book_in key held) iv m
  seal_built = record { coding = coding_writes; sealing = sealing_writes; opening = opening_writes; enciphered = blocks_enciphered }
