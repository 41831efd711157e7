-- The example comes out by computation from the definitions: 24 digests, and 24 rounds.
use mathlib.Core.Path.{refl}
use Rattle.lists.specs.Tabulation.{tab, chunks}
use Rattle.words.specs.Word.{add, xor, turn_left, turn_right, word, bytes_of, word_at, words4, bytes}
use Rattle.sha256.specs.Sha256.{ch, maj, turned, shifted, big_endian, padded, big_word_at, block, schedule_word, next_word, message_schedule}
use Rattle.sha256.specs.Sha256 as S
use Rattle.words.specs.Rows.{first_rows}
use Rattle.wf_lea.specs.WfLea.{first_six, row, rows}
use Rattle.cipher.specs.Schedules.{key_rows}
use Rattle.cipher.specs.Lea.{keyed, round, forward, first_rounds}
use Rattle.wf_example.specs.WfExample.{WfExample}

pub example : WfExample
unfolding tab chunks add xor turn_left turn_right word bytes_of word_at words4 bytes ch maj turned shifted big_endian padded big_word_at block
    schedule_word next_word message_schedule S.temp1 S.temp2 S.moved S.round S.rounds S.sums S.compress S.hash_value S.hash S.sha256 first_six row
    first_rows rows key_rows keyed round forward first_rounds
example = refl
