-- What the chain maker answers (document 02, 2026-03): the number of a refusal, no bytes, and the buffer as it was; or 0, how many bytes
-- were drawn, and the chain, then what the buffer held before.
use Rattle.std.specs.Prelude.{Bool, List, [], ◌∷◌, ◌++◌, ℕ, ltb, length, drop}
use Rattle.lists.specs.Refusals.{first}
use Rattle.cipher.specs.KeySize.{rounds, chain_length}
use Rattle.cipher.specs.Chain.{set_tests}
use Rattle.cipher.specs.Answers.{key_length_tests, key_length_size, room_tests}
use Rattle.cipher.specs.declared.size.KeySize.{KeySize}
use Rattle.maker.specs.Plan.{Plan, sealing, reading}
use Rattle.maker.specs.MadeChain.{chain_draws, chain_made}

-- refusal 9, and 32: the draws need more bytes than were given
abbrev pub draw_tests : Plan → KeySize → List ℕ → List ℕ → List (Bool × ℕ)
draw_tests p z random out = room_tests (chain_length z) out ++ ((ltb (length random) (chain_draws p (rounds z) random), 32) ∷ [])

-- a chain for a key of size z, into the front of out, where none of some tests refuses
unfoldable pub made_into : List (Bool × ℕ) → Plan → KeySize → List ℕ → List ℕ → (ℕ × ℕ) × List ℕ
made_into tests p z random out =
    first tests (λ q. ((q, 0), out)) ((0, chain_draws p (rounds z) random), chain_made p (rounds z) random ++ drop (chain_length z) out)

-- a chain for a key of n bytes
unfoldable pub make_tests : ℕ → List ℕ → List ℕ → List (Bool × ℕ)
make_tests n random out = key_length_tests n ++ draw_tests sealing (key_length_size n) random out

abbrev pub make_answer : ℕ → List ℕ → List ℕ → (ℕ × ℕ) × List ℕ
make_answer n random out = made_into (make_tests n random out) sealing (key_length_size n) random out

-- a reading chain for a key of n bytes, whose set 0 is given: refusals 2 and 3 are those of this set
unfoldable pub make_reading_tests : ℕ → List ℕ → List ℕ → List ℕ → List (Bool × ℕ)
make_reading_tests n set random out = key_length_tests n ++ (set_tests set ++ draw_tests (reading set) (key_length_size n) random out)

abbrev pub make_reading_answer : ℕ → List ℕ → List ℕ → List ℕ → (ℕ × ℕ) × List ℕ
make_reading_answer n set random out = made_into (make_reading_tests n set random out) (reading set) (key_length_size n) random out
