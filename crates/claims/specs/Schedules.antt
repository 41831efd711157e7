-- Pads with the one-way schedule (document 02, 2026-07): 0 is LEA's own schedule, 1 is WF-LEA's, and every other number is refused by 34,
-- before all else, in every operation that takes a key. And what is known of tables is known of any rows.
use Rattle.std.specs.Prelude.{◌≡◌, List, [], ℕ, ◌≤◌, ◌<◌, length, get_or, Some}
use Rattle.lists.specs.Blocks.{zeros, block_length}
use Rattle.words.specs.Rows.{blank}
use Rattle.wf_lea.specs.WfLea.{row}
use Rattle.cipher.specs.KeySize.{rounds, size_of_key}
use Rattle.cipher.specs.Schedules.{schedule_found, schedule}
use Rattle.cipher.specs.Lea.{first_rounds}
use Rattle.cipher.specs.Chain.{Chain, message_set, chain_set}
use Rattle.cipher.specs.Book.{Book, book_body}
use Rattle.cipher.specs.Answers.{encipher_answer, decipher_answer, rounds_answer, row_answer}
use Rattle.cipher.specs.declared.size.KeySize.{KeySize}
use Rattle.cipher.specs.declared.schedules.Schedule.TheVariants.{Lea, WfLea}
use Rattle.book.specs.Answers.{build_answer, build_round_answer}
use Rattle.reading_book.specs.Answers.{build_reading_answer}
use Rattle.driver.specs.Driver.{admit_answer}
use Rattle.archive.specs.Archive.{open_answer, check_answer}
use Rattle.claims.specs.Model.{Call}
use Rattle.claims.specs.Calls.{driver_answers, model_answers}
use Rattle.claims.specs.Demand3.{RoundsOfLea}

-- what a number s over 1 is answered, whatever comes with it; a lent buffer stays as it was
pub record Refused34 (s : ℕ) : Type 0 where
  pub enciphering : (key b : List ℕ) → encipher_answer s key b ≡ (34, zeros)
  pub deciphering : (key b : List ℕ) → decipher_answer s key b ≡ (34, zeros)
  pub after_rounds : (key : List ℕ) (n : ℕ) (b : List ℕ) → rounds_answer s key n b ≡ (34, zeros)
  pub round_keys : (key : List ℕ) (l : ℕ) → row_answer s key l ≡ (34, blank)
  pub building : (key ch out : List ℕ) → build_answer s key ch out ≡ (34, out)
  pub build_round : (key ch : List ℕ) (l : ℕ) (out : List ℕ) → build_round_answer s key ch l out ≡ (34, out)
  pub building_reading : (key ch out : List ℕ) → build_reading_answer s key ch out ≡ (34, out)
  pub opening : (key set iv sealed out : List ℕ) → open_answer s key set iv sealed out ≡ ((34, 0), out)
  pub checking : (key set message tag : List ℕ) → check_answer s key set message tag ≡ (34, 0)

pub record ScheduleLaws : Type 0 where
  pub numbers : (schedule_found 0 ≡ Some Lea) × (schedule_found 1 ≡ Some WfLea)
  pub others : (s : ℕ) → 1 < s → Refused34 s
  -- the round keys of round l of a key: by 0 as LEA's own schedule has them, by 1 as WF-LEA has them
  pub lea_row : (z : KeySize) (key : List ℕ) → size_of_key (length key) ≡ Some z → (l : ℕ) → l < rounds z → row_answer 0 key l ≡ (0, get_or (schedule z key) l [])
  pub wf_lea_row : (z : KeySize) (key : List ℕ) → size_of_key (length key) ≡ Some z → (l : ℕ) → l < rounds z → row_answer 1 key l ≡ (0, row key l)

-- what is known of tables holds of all lists of rows, whichever schedule supplies them, if any does: the rounds, and every list of calls
pub record AnyRows : Type 0 where
  pub after_rounds : (z : KeySize) (rows : List (List ℕ)) (ch bk : List ℕ) → Chain z ch → Book (rounds z) rows ch (book_body bk) → admit_answer bk ≡ (0, Some z)
      → (b : List ℕ) → length b ≡ block_length → (n : ℕ) → 1 ≤ n → n ≤ rounds z → RoundsOfLea rows ch bk n b
  pub session : (z : KeySize) (rows : List (List ℕ)) (ch bk : List ℕ) → Chain z ch → Book (rounds z) rows ch (book_body bk) → admit_answer bk ≡ (0, Some z)
      → (cs : List Call) → driver_answers bk cs ≡ model_answers (first_rounds rows (rounds z)) (message_set ch) (chain_set ch (rounds z)) cs
