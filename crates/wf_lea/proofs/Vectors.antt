-- The first row comes out by computation from the definitions.
use mathlib.Core.Path.{refl}
use Rattle.lists.specs.Tabulation.{tab, chunks}
use Rattle.words.specs.Word.{add, xor, turn_right, word, word_at}
use Rattle.sha256.specs.Sha256.{ch, maj, turned, shifted, big_endian, padded, big_word_at, block, schedule_word, next_word, message_schedule}
use Rattle.sha256.specs.Sha256.{temp1, temp2, moved, round, rounds, sums, compress, hash_value, hash, sha256}
use Rattle.wf_lea.specs.WfLea.{first_six, row}
use Rattle.wf_lea.specs.Vectors.{FirstRow}

pub first_row : FirstRow
unfolding tab chunks add xor turn_right word word_at ch maj turned shifted big_endian padded big_word_at block schedule_word next_word message_schedule
    temp1 temp2 moved round rounds sums compress hash_value hash sha256 first_six row
first_row = refl
