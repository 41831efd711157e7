-- The examples of specs/Vectors, by computation from the definitions: the three ciphertexts, and the two subkeys.
use Rattle.std.proofs.Common.{◌≡◌, refl}
use Rattle.lists.specs.Tabulation.{tab}
use Rattle.words.specs.Word.{add, xor, turn_left, turn_right, word, bytes_of, word_at, words4, bytes}
use Rattle.words.specs.Rows.{first_rows}
use Rattle.lea_schedule.specs.Schedule.{mixed, mixed_four, mixed_row, row16, place, mix_at, step32, row32, words6, words8, stepped}
use Rattle.cipher.specs.Schedules.{schedule, key_rows}
use Rattle.cipher.specs.Lea.{keyed, round, forward, first_rounds, encipher}
use Rattle.cipher.specs.Cmac.{double}
use Rattle.cipher.specs.Vectors.{key16, plain16, cipher16, key24, plain24, cipher24, key32, plain32, cipher32, cmac_l, cmac_k1, cmac_k2}
use Rattle.cipher.specs.declared.size.KeySize.TheVariants.{Bytes16, Bytes24, Bytes32}
use Rattle.cipher.specs.declared.schedules.Schedule.TheVariants.{Lea}

pub vector16 : encipher Lea Bytes16 key16 plain16 ≡ cipher16
unfolding add xor turn_left turn_right word bytes_of word_at mixed words4 mixed_four row16 stepped first_rows schedule key_rows keyed round forward bytes first_rounds
vector16 = refl

pub vector24 : encipher Lea Bytes24 key24 plain24 ≡ cipher24
unfolding add xor turn_left turn_right word bytes_of word_at mixed words4 words6 mixed_row stepped first_rows schedule key_rows keyed round forward bytes first_rounds
vector24 = refl

pub vector32 : encipher Lea Bytes32 key32 plain32 ≡ cipher32
unfolding add xor turn_left turn_right word bytes_of word_at mixed words4 words8 place mix_at step32 row32 stepped first_rows schedule key_rows keyed round forward bytes first_rounds
vector32 = refl

pub doubled_l : double cmac_l ≡ cmac_k1
unfolding double tab
doubled_l = refl

pub doubled_k1 : double cmac_k1 ≡ cmac_k2
unfolding double tab
doubled_k1 = refl
