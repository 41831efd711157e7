-- The ink file of specs/Examples, by computation.
use mathlib.Core.Path.{refl}
use Rattle.lists.specs.Tabulation.{tab}
use Rattle.lists.specs.Refusals.{first}
use Rattle.words.specs.Word.{word, bytes_of}
use Rattle.cipher.specs.Answers.{bad_text}
use Rattle.inkfile.specs.Kinds.{kind_of, due, sized}
use Rattle.inkfile.specs.Format.{record_of, run_of, ink_of}
use Rattle.inkfile.specs.Reading.{length_at, start_of, record_tests, ends, walk, records_read, told_of, read_ink_answer}
use Rattle.inkfile.specs.Writing.{run_tests, write_ink_answer}
use Rattle.inkfile.specs.Examples.{example_fields, example_file, MarkedInk}

pub marked_ink : MarkedInk
unfolding example_fields example_file ink_of run_of record_of bytes_of read_ink_answer told_of records_read walk ends record_tests start_of length_at word first tab kind_of due sized bad_text run_tests write_ink_answer
marked_ink =
    record {
      looks = refl;
      told = refl;
      written = refl;
      no_room = refl;
      unknown_kind = refl;
      past_end = refl;
      cut_short = refl;
      no_blocks = refl;
      kind_first = refl;
    }
