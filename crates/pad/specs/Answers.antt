-- What the pad's two codings answer (document 01, "Pad, driver, archive" and "Refusals from the input"): the number of a
-- refusal and the buffer as it was; or 0, how many bytes are written and for a tag their kind, and the buffer, which holds the
-- coded blocks and then what it held before.
use Rattle.std.specs.Prelude.{Bool, List, [], ◌∷◌, ◌++◌, ℕ, ltb, length, drop, Result, Ok, Err}
use Rattle.lists.specs.Refusals.{first}
use Rattle.cipher.specs.Lengths.{longest_message}
use Rattle.cipher.specs.declared.refusal.Refusal.{Refusal}
use Rattle.cipher.specs.Refusal.{number_of}
use Rattle.cipher.specs.Coding.{set_of}
use Rattle.cipher.specs.Chain.{set_tests}
use Rattle.pad.specs.Padding.{padded_for_sealing, padded_for_tag, kind_of, coded_text}
use Rattle.pad.specs.declared.code.TagCode.{TagCode}

-- an answer as a number, 0 where the message was coded, and what is told of the code, zeros where there is none
abbrev pub tag_code_told : Result TagCode Refusal → ℕ × (ℕ × ℕ)
tag_code_told (Ok t) = (0, (t.length, t.kind))
tag_code_told (Err q) = (number_of q, (0, 0))

-- refusals 2 and 3 of the set, 8 of a message of n bytes, 9 of a buffer of `room` bytes where `total` are written
unfoldable pub coding_tests : List ℕ → ℕ → ℕ → ℕ → List (Bool × ℕ)
coding_tests u n total room = set_tests u ++ ((ltb longest_message n, 8) ∷ (ltb room total, 9) ∷ [])

-- the message m, padded to `text`, coded by u into the front of out; `told` is what is told of it, `nothing` what a refusal tells
unfoldable pub coded_into : {A : Type 0} → A → A → List ℕ → List ℕ → List ℕ → List ℕ → (ℕ × A) × List ℕ
coded_into nothing told u m text out =
    first (coding_tests u (length m) (length text) (length out)) (λ q. ((q, nothing), out))
    ((0, told), coded_text (set_of u) text ++ drop (length text) out)

-- coding for sealing tells the length, coding for a tag the length and the kind
abbrev pub sealing_answer : List ℕ → List ℕ → List ℕ → (ℕ × ℕ) × List ℕ
sealing_answer u m out = coded_into 0 (length (padded_for_sealing m)) u m (padded_for_sealing m) out

abbrev pub tag_answer : List ℕ → List ℕ → List ℕ → (ℕ × (ℕ × ℕ)) × List ℕ
tag_answer u m out = coded_into (0, 0) (length (padded_for_tag m), kind_of (length m)) u m (padded_for_tag m) out
