-- Document 01's example of the round program, by computation: its two lines are printed for every input of a 16-byte key K under
-- whose chain the coded block decodes to 101112..1f, as it does under the identity chain that the program is run on.
use mathlib.Core.Path.{◌≡◌, refl, ap, ap₂, ◌∙◌}
use mathlib.Core.List.{List, ◌++◌}
use Prim.Native.Nat.{ℕ}
use Rattle.lists.specs.Tabulation.{chunks}
use Rattle.words.specs.Word.{add, xor, turn_left, turn_right, word, bytes_of, word_at, words4, bytes}
use Rattle.words.specs.Rows.{first_rows}
use Rattle.lea_schedule.specs.Schedule.{mixed, mixed_four, row16, stepped}
use Rattle.cipher.specs.Schedules.{schedule, key_rows}
use Rattle.cipher.specs.Lea.{keyed, round, forward, first_rounds, encipher}
use Rattle.cipher.specs.declared.size.KeySize.TheVariants.{Bytes16}
use Rattle.cipher.specs.declared.schedules.Schedule.TheVariants.{Lea}
use Rattle.cipher.specs.Vectors.{key16, plain16, cipher16}
use Rattle.cipher.proofs.Vectors.{vector16}
use Rattle.round.specs.Text.{hex_of, line, decimal_within, decimal, refused_text}
use Rattle.round.specs.Round.{length_byte, key_part, printed, Input, plain_block}
use Rattle.round.specs.Example.{first_line, last_line, refused_seven, refused_thirty_seven}
use Rattle.round.proofs.RoundMeaning.{printed_lea}

first_line_lem : line 1 1 (first_rounds (key_rows Lea Bytes16 key16) 1 plain16) ≡ first_line
unfolding add xor turn_left turn_right word bytes_of word_at mixed words4 mixed_four row16 stepped first_rows schedule key_rows keyed round forward bytes first_rounds hex_of line chunks
first_line_lem = refl

last_line_lem : line 2 24 cipher16 ≡ last_line
unfolding hex_of line chunks
last_line_lem = refl

pub example : (i : List ℕ) → Input Bytes16 i → key_part (length_byte i) i ≡ key16 → plain_block Bytes16 i ≡ plain16 → printed i ≡ first_line ++ last_line
example i h k b =
    printed_lea Bytes16 i h
    ∙ ap₂ (λ (y x : List ℕ). line 1 1 (first_rounds (key_rows Lea Bytes16 y) 1 x) ++ line 2 24 (encipher Lea Bytes16 y x)) k b
    ∙ ap₂ {C = List ℕ} (λ (x y : List ℕ). x ++ y) first_line_lem (ap (line 2 24) vector16 ∙ last_line_lem)

pub refusal : refused_text 7 ≡ refused_seven
unfolding refused_text decimal decimal_within
refusal = refl

pub refusal_of_two : refused_text 37 ≡ refused_thirty_seven
unfolding refused_text decimal decimal_within
refusal_of_two = refl
