-- The archive (document 01, "Pad, driver, archive" and "Refusals from the input"), which has the key and set r: what opening
-- and checking answer.
use Rattle.std.specs.Prelude.{Bool, cond, not, ◌&&◌, ℕ, ◌+◌, ◌-◌, eqb, leb, ltb, length, get_or, take, drop, Result, Ok, Err}
use mathlib.Core.List.{List, [], ◌∷◌, ◌++◌, map, flatten}
use Rattle.cipher.specs.Lengths.{longest_message}
use Rattle.lists.specs.Blocks.{blocks, block_length}
use Rattle.lists.specs.Every.{every}
use Rattle.lists.specs.Refusals.{first}
use Rattle.cipher.specs.Lea.{encipher, decipher}
use Rattle.cipher.specs.Cmac.{cmac}
use Rattle.cipher.specs.Cbc.{cbc_deciphered}
use Rattle.cipher.specs.Coding.{Set, set_of, decoded}
use Rattle.cipher.specs.Chain.{set_tests}
use Rattle.cipher.specs.Refusal.{number_of}
use Rattle.cipher.specs.Answers.{key_tests, schedule_of, key_size, block_tests, text_tests, room_tests}
use Rattle.cipher.specs.declared.refusal.Refusal.{Refusal}
use Rattle.archive.specs.declared.check.Verdict.{Verdict}
use Rattle.archive.specs.declared.check.Verdict.TheVariants.{Valid, Invalid}

-- ---- opening

-- a sealed text opened: IV and blocks decoded by the set S, then deciphered in CBC
unfoldable pub opened_text : (List ℕ → List ℕ) → Set → List ℕ → List ℕ → List ℕ
opened_text cipher S iv sealed = flatten (cbc_deciphered cipher (decoded S iv) (map (decoded S) (blocks sealed)))

-- refusal 11: the last byte v of an opened text is not 1 to 16, or its last v bytes are not all v
abbrev pub last_byte : List ℕ → ℕ
last_byte t = get_or t (length t - 1) 0

unfoldable pub ends_padded : List ℕ → Bool
ends_padded t =
    leb 1 (last_byte t) && leb (last_byte t) block_length && every (last_byte t) (λ k. eqb (get_or t (length t - last_byte t + k) 0) (last_byte t))

abbrev pub padding_tests : List ℕ → List (Bool × ℕ)
padding_tests t = (not (ends_padded t), 11) ∷ []

-- the padding taken off
unfoldable pub unpadded : List ℕ → List ℕ
unpadded t = take (length t - last_byte t) t

-- what is told of a text t that is opened into a buffer: 11, or the length of the message, and what the buffer then holds
unfoldable pub text_answer : List ℕ → List ℕ → (ℕ × ℕ) × List ℕ
text_answer t out =
    first (padding_tests t) (λ q. ((q, 0), out)) ((0, length (unpadded t)), unpadded t ++ drop (length (unpadded t)) out)

-- refusals 34 of the schedule s, 1 of the key, 2 and 3 of the set, 7 of the IV, 8 of the sealed text, and 9 of a buffer shorter than it
abbrev pub open_tests : ℕ → List ℕ → List ℕ → List ℕ → List ℕ → List ℕ → List (Bool × ℕ)
open_tests s key set iv sealed out = key_tests s key ++ (set_tests set ++ (block_tests iv ++ (text_tests sealed ++ room_tests (length sealed) out)))

-- and, after all of these, 11 of the text that is opened
abbrev pub all_open_tests : ℕ → List ℕ → List ℕ → List ℕ → List ℕ → List ℕ → List (Bool × ℕ)
all_open_tests s key set iv sealed out =
    open_tests s key set iv sealed out ++ padding_tests (opened_text (decipher (schedule_of s) (key_size key) key) (set_of set) iv sealed)

-- opening into a buffer: the number of a refusal or 0, the length of the message, and what the buffer then holds
unfoldable pub open_answer : ℕ → List ℕ → List ℕ → List ℕ → List ℕ → List ℕ → (ℕ × ℕ) × List ℕ
open_answer s key set iv sealed out =
    let t = opened_text (decipher (schedule_of s) (key_size key) key) (set_of set) iv sealed in
    first (all_open_tests s key set iv sealed out) (λ q. ((q, 0), out))
    ((0, length (unpadded t)), unpadded t ++ drop (length (unpadded t)) out)

-- ---- checking

-- two blocks are the same
unfoldable pub same_block : List ℕ → List ℕ → Bool
same_block a b = every block_length (λ k. eqb (get_or a k 0) (get_or b k 0))

-- an answer as a number and a verdict: 1 is Valid, 0 Invalid
abbrev pub checked_told : Result Verdict Refusal → ℕ × ℕ
checked_told (Ok Valid) = (0, 1)
checked_told (Ok Invalid) = (0, 0)
checked_told (Err q) = (number_of q, 0)

-- refusal 8: a message over 1,048,575 bytes
abbrev pub message_tests : List ℕ → List (Bool × ℕ)
message_tests m = (ltb longest_message (length m), 8) ∷ []

abbrev pub check_tests : ℕ → List ℕ → List ℕ → List ℕ → List ℕ → List (Bool × ℕ)
check_tests s key set message tag = key_tests s key ++ (set_tests set ++ (block_tests tag ++ message_tests message))

-- checking: Valid where the tag, decoded by set r, is the message's CMAC
unfoldable pub check_answer : ℕ → List ℕ → List ℕ → List ℕ → List ℕ → ℕ × ℕ
check_answer s key set message tag =
    first (check_tests s key set message tag) (λ q. (q, 0))
    (0, cond (same_block (decoded (set_of set) tag) (cmac (encipher (schedule_of s) (key_size key) key) message)) 1 0)
