-- What the round program prints (document 01, "Table of examples", its last paragraph): "refused N", or lines of a round
-- number, a space and a block in lower-case hex.
use Rattle.std.specs.Prelude.{Result, Ok, Err, cond, List, [], ◌∷◌, ◌++◌, ℕ, zero, suc, ◌-◌, ◌/◌, ◌%◌, ltb, length, get_or, replicate}
use Rattle.lists.specs.Blocks.{block_length}
use Rattle.lists.specs.Tabulation.{chunks}
use Rattle.cipher.specs.Refusal.{number_of}
use Rattle.cipher.specs.declared.refusal.Refusal.{Refusal}
use Rattle.round.specs.Digits.{hex_digit_ascii, last_digits}
use Rattle.round.specs.declared.page.Report.{Report}

-- a block in hex: two digits a byte
unfoldable pub hex_of : List ℕ → List ℕ
hex_of b = chunks block_length (λ k. last_digits 16 2 (get_or b k 0))

-- a line: the round number n, of k digits, a space, the block, a newline
unfoldable pub line : ℕ → ℕ → List ℕ → List ℕ
line k n b = last_digits 10 k n ++ ((32 ∷ []) ++ (hex_of b ++ (10 ∷ [])))

-- a number in decimal with no zeros in front, of at most k + 1 digits; and any number n, which has at most n + 1
unfoldable pub decimal_within : ℕ → ℕ → List ℕ
decimal_within zero n = hex_digit_ascii n ∷ []
decimal_within (suc k) n = cond (ltb n 10) (hex_digit_ascii n ∷ []) (decimal_within k (n / 10) ++ (hex_digit_ascii (n % 10) ∷ []))

unfoldable pub decimal : ℕ → List ℕ
decimal n = decimal_within n n

-- "refused ", a number in decimal, a newline
abbrev pub refused_word : List ℕ
refused_word = 114 ∷ 101 ∷ 102 ∷ 117 ∷ 115 ∷ 101 ∷ 100 ∷ 32 ∷ []

unfoldable pub refused_text : ℕ → List ℕ
refused_text n = refused_word ++ (decimal n ++ (10 ∷ []))

-- a report as its length and its bytes; and what they must be for the text t: t, with zeros after it
abbrev pub report_told : Report → ℕ × List ℕ
report_told a = (a.length, a.text)

unfoldable pub shown : List ℕ → ℕ × List ℕ
shown t = (length t, t ++ replicate (71 - length t) 0)

-- an answer is told by its report, or by the text of its refusal
abbrev pub told : Result Report Refusal → ℕ × List ℕ
told (Ok a) = report_told a
told (Err q) = shown (refused_text (number_of q))
