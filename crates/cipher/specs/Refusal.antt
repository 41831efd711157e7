-- The numbers of the refusals: document 01's ("Refusals from the input" and "Refusals from the state") and those that document 02 adds.
use Rattle.std.specs.Prelude.{ℕ, List, [], ◌∷◌, Result, Ok, Err}
use Rattle.cipher.specs.declared.refusal.Refusal.{Refusal}
use Rattle.cipher.specs.declared.refusal.Refusal.TheVariants.{KeyLength, ChainLength, NoPermutation, WordRule, MaskByte, BookLength, BlockLength, MessageLength, ShortBuffer}
use Rattle.cipher.specs.declared.refusal.Refusal.TheVariants.{KindByte, BadPadding, SessionFinished, SessionFull, BadRecord, RecordLength, ShortRandom, SizeByte, ScheduleNumber}

abbrev pub number_of : Refusal → ℕ
number_of KeyLength = 1
number_of ChainLength = 2
number_of NoPermutation = 3
number_of WordRule = 4
number_of MaskByte = 5
number_of BookLength = 6
number_of BlockLength = 7
number_of MessageLength = 8
number_of ShortBuffer = 9
number_of KindByte = 10
number_of BadPadding = 11
number_of SessionFinished = 21
number_of SessionFull = 22
number_of BadRecord = 30
number_of RecordLength = 31
number_of ShortRandom = 32
number_of SizeByte = 33
number_of ScheduleNumber = 34

-- an outcome as a number: 0 where the operation was done
abbrev pub outcome_of : Result (Unit {0}) Refusal → ℕ
outcome_of (Ok _) = 0
outcome_of (Err q) = number_of q

-- and where an operation writes or draws, the number and how many bytes: none where it was refused
abbrev pub written_of : Result ℕ Refusal → ℕ × ℕ
written_of (Ok n) = (0, n)
written_of (Err q) = (number_of q, 0)

-- the order in which refusals are given where several apply: document 01's order of numbers, with the numbers of later requests in
-- their places, as document 02 says
abbrev pub refusal_order : List ℕ
refusal_order =
    34 ∷ 1 ∷ 2 ∷ 3 ∷ 4 ∷ 5 ∷ 37 ∷ 6 ∷ 33 ∷ 7 ∷ 8 ∷ 35 ∷ 30 ∷ 31 ∷ 9 ∷ 32 ∷ 10 ∷ 11 ∷ 36 ∷ 21 ∷ 22 ∷ 38 ∷ 39 ∷ 40 ∷ []
