-- The examples come out by computation from the definitions.
use Rattle.std.proofs.Common.{refl}
use Rattle.lists.specs.Tabulation.{tab, chunks}
use Rattle.words.specs.Word.{add, xor, turn_right, word}
use Rattle.sha256.specs.Sha256.{ch, maj, turned, shifted, big_endian, padded, big_word_at, block, schedule_word, next_word, message_schedule}
use Rattle.sha256.specs.Sha256.{temp1, temp2, moved, round, rounds, sums, compress, hash_value, hash, sha256}
use Rattle.sha256.specs.Vectors.{Digests}

pub digests : Digests
unfolding tab chunks add xor turn_right word ch maj turned shifted big_endian padded big_word_at block schedule_word next_word message_schedule
    temp1 temp2 moved round rounds sums compress hash_value hash sha256
digests = record { one_block = refl; two_blocks = refl }
