-- Laws of the text that the round program prints: digits, blocks in hex digit by digit, and numbers in decimal.
use mathlib.Core.Path.{◌≡◌, refl, sym, ap, ◌∙◌}
use mathlib.Core.List.{List, [], ◌∷◌, ◌++◌, append_assoc, append-nil}
use Prim.Native.Nat.{ℕ, zero, suc, ◌+◌, ◌-◌, ◌*◌, ◌/◌, ◌%◌, ◌^◌, ◌≤◌, ◌<◌}
use native.Mathlib.Decide.{dec_lt}
use native.Mathlib.Numerals.{unary_clauses}
use native.Mathlib.Omega.{arith}
use borrow.Author.Tests.{lt-ltb, le-ltb}
use lib.Dec.{eqb, lit<}
use borrow.Rule.Slice.PartMut.{put_mid}
use lib.ListN.{length, get_or, take, drop, set, replicate, length-append}
use Rattle.std.proofs.Common.{Result, Ok}
use Rattle.std.specs.Prelude.{OnOk, slice_index}
use Rattle.std.proofs.lemmas.Bool.{eqb-true}
use Rattle.hex.specs.Hex.{lower_digits, encode_with, encode_lower}
use Rattle.hex.specs.declared.error.FromHexError.{FromHexError}
use Rattle.lists.specs.Blocks.{Bytes, Block}
use Rattle.lists.specs.Every.{every}
use Rattle.lists.specs.Tabulation.{chunks}
use Rattle.lists.proofs.EveryLaws.{every_all}
use Rattle.lists.proofs.PartLaws.{grown, fill_more}
use Rattle.round.specs.Digits.{hex_digit_ascii, last_digits}
use Rattle.round.specs.Text.{hex_of, line, decimal_within, decimal, refused_word, refused_text, shown}

-- ---- a block in hex

lower_digit : (d : ℕ) → d < 16 → slice_index lower_digits d ≡ hex_digit_ascii d
unfolding every
lower_digit d h = eqb-true _ _ (every_all 16 (λ d. eqb (slice_index lower_digits d) (hex_digit_ascii d)) refl d h)

chunks_front : (n : ℕ) (g : ℕ → List ℕ) → chunks (suc n) g ≡ g 0 ++ chunks n (λ k. g (suc k))
unfolding chunks
chunks_front zero g = sym (append-nil (g 0))
chunks_front (suc n) g = ap (λ (t : List ℕ). t ++ g (suc n)) (chunks_front n g) ∙ append_assoc (g 0) (chunks n (λ k. g (suc k))) (g (suc n))

encoded : (b : List ℕ) → Bytes b → encode_lower b ≡ chunks (length b) (λ k. last_digits 16 2 (get_or b k 0))
unfolding encode_with chunks
encoded [] h = refl
encoded (x ∷ b) h =
    let e : x / 16 ≡ x / 16 % 16 = omega (arith, h 0) in
    (λ i. (lower_digit (x / 16) (omega (arith, h 0)) ∙ ap hex_digit_ascii e) i ∷ lower_digit (x % 16) (omega arith) i ∷ encoded b (λ k. h (suc k)) i)
    ∙ sym (chunks_front (length b) (λ k. last_digits 16 2 (get_or (x ∷ b) k 0)))

-- what was written of a block
pub hex_is : {r : Result (Unit {0}) FromHexError} {u : Unit {0}} (b out : List ℕ) → Block b → r ≡ Ok u → OnOk r (out ≡ encode_lower b) → out ≡ hex_of b
unfolding hex_of
hex_is b out h e w =
    (rw e at w) ∙ encoded b h.bytes ∙ ap (λ (n : ℕ). chunks n (λ k. last_digits 16 2 (get_or b k 0))) h.size

-- two lines, with the blocks and the digits written in
pub two_lines_is : (a b h g : List ℕ) (r d e : ℕ) → h ≡ hex_of a → g ≡ hex_of b → d ≡ hex_digit_ascii (r / 10 % 10) → e ≡ hex_digit_ascii (r % 10)
    → (71, 49 ∷ 32 ∷ (h ++ (10 ∷ d ∷ e ∷ 32 ∷ (g ++ (10 ∷ []))))) ≡ shown (line 1 1 a ++ line 2 r b)
unfolding shown line hex_of chunks
two_lines_is a b h g r d e p q s t = λ i. (71, 49 ∷ 32 ∷ (p i ++ (10 ∷ s i ∷ t i ∷ 32 ∷ (q i ++ (10 ∷ [])))))

-- ---- a number in decimal

within_low : (k n : ℕ) → n < 10 → decimal_within k n ≡ hex_digit_ascii n ∷ []
unfolding decimal_within
within_low zero n h = refl
within_low (suc k) n h = rw (lt-ltb n 10 h)

within_more : (k n : ℕ) → 10 ≤ n → decimal_within (suc k) n ≡ decimal_within k (n / 10) ++ (hex_digit_ascii (n % 10) ∷ [])
unfolding decimal_within
within_more k n h = rw (le-ltb n 10 h)

-- more room changes nothing
within_same : (k j n : ℕ) → n ≤ k → n ≤ j → decimal_within k n ≡ decimal_within j n
within_same zero j n h g = within_low zero n (omega arith) ∙ sym (within_low j n (omega arith))
within_same (suc k) zero n h g = within_low (suc k) n (omega arith) ∙ sym (within_low zero n (omega arith))
within_same (suc k) (suc j) n h g = go (dec_lt n 10) (within_same k j (n / 10))
  where
    go : Dec (n < 10) → (n / 10 ≤ k → n / 10 ≤ j → decimal_within k (n / 10) ≡ decimal_within j (n / 10)) → decimal_within (suc k) n ≡ decimal_within (suc j) n
    go (yes l) same = within_low (suc k) n l ∙ sym (within_low (suc j) n l)
    go (no l) same =
        within_more k n (omega arith)
        ∙ ap (λ (d : List ℕ). d ++ (hex_digit_ascii (n % 10) ∷ [])) (same (omega arith) (omega arith))
        ∙ sym (within_more j n (omega arith))

pub decimal_low : (n : ℕ) → n < 10 → decimal n ≡ hex_digit_ascii n ∷ []
unfolding decimal
decimal_low n h = within_low n n h

pub decimal_more : (n : ℕ) → 10 ≤ n → decimal n ≡ decimal (n / 10) ++ (hex_digit_ascii (n % 10) ∷ [])
unfolding decimal
decimal_more zero h = absurd (omega arith)
decimal_more (suc n) h =
    within_more n (suc n) h
    ∙ ap (λ (d : List ℕ). d ++ (hex_digit_ascii (suc n % 10) ∷ [])) (within_same n (suc n / 10) (suc n / 10) (omega arith) (omega arith))

pub decimal_longer : (n : ℕ) → 10 ≤ n → length (decimal n) ≡ length (decimal (n / 10)) + 1
decimal_longer n h = ap length (decimal_more n h) ∙ length-append (decimal (n / 10)) (hex_digit_ascii (n % 10) ∷ [])

pub decimal_some : (n : ℕ) → 1 ≤ length (decimal n)
decimal_some n = go (dec_lt n 10)
  where
    go : Dec (n < 10) → 1 ≤ length (decimal n)
    go (yes l) = rw (decimal_low n l) (lit< tt)
    go (no l) = omega (arith, decimal_longer n (omega arith))

-- a number of at most k digits and one more
decimal_short : (k n : ℕ) → n < 10 ^ suc k → length (decimal n) ≤ suc k
decimal_short zero n h = rw (decimal_low n (omega arith)) (lit< tt)
decimal_short (suc k) n h = go (dec_lt n 10) (decimal_short k (n / 10))
  where
    go : Dec (n < 10) → (n / 10 < 10 ^ suc k → length (decimal (n / 10)) ≤ suc k) → length (decimal n) ≤ suc (suc k)
    go (yes l) shorter = rw (decimal_low n l) (omega arith)
    go (no l) shorter =
        let e : 10 ^ suc (suc k) ≡ 10 ^ suc k * 10 = simp unary_clauses refl in
        let q = shorter (omega arith) in
        omega (arith, decimal_longer n (omega arith))

-- a number of one digit, and one more digit, written to a buffer
pub put_low : (n d : ℕ) (out : List ℕ) → n < 10 → d ≡ hex_digit_ascii n → length (decimal n) ≤ length out
    → (1 ≡ length (decimal n)) × (set out 0 d ≡ decimal n ++ drop 1 out)
put_low n d out h e room =
    let is = decimal_low n h in
    let one : length (decimal n) ≡ 1 = ap length is in
    (sym one, grown [] out 0 d refl (omega arith) ∙ ap (λ (x : ℕ). (x ∷ []) ++ drop 1 out) e ∙ ap (λ (t : List ℕ). t ++ drop 1 out) (sym is))

pub put_more : (n d k : ℕ) (out left : List ℕ) → 10 ≤ n → d ≡ hex_digit_ascii (n % 10) → (k ≡ length (decimal (n / 10))) × (left ≡ decimal (n / 10) ++ drop k out)
    → length (decimal n) ≤ length out → (k + 1 ≡ length (decimal n)) × (set left k d ≡ decimal n ++ drop (k + 1) out)
put_more n d k out left h e f room =
    let longer = decimal_longer n h in
    let front = decimal (n / 10) in (
      ap (λ (j : ℕ). j + 1) f.0 ∙ sym longer,
      ap (λ (l : List ℕ). set l k d) f.1
          ∙ grown front out k d (sym f.0) (omega (arith, longer, f.0))
          ∙ ap (λ (x : ℕ). (front ++ (x ∷ [])) ++ drop (k + 1) out) e
          ∙ ap (λ (t : List ℕ). t ++ drop (k + 1) out) (sym (decimal_more n h)),
    )

-- ---- a refusal

drop_replicate : (k n x : ℕ) → drop k (replicate n x) ≡ replicate (n - k) x
drop_replicate zero n x =
    let e : n - 0 ≡ n = omega arith in
    ap (λ (m : ℕ). replicate m x) (sym e)
drop_replicate (suc k) zero x =
    let e : 0 - suc k ≡ 0 = omega arith in
    ap (λ (m : ℕ). replicate m x) (sym e)
drop_replicate (suc k) (suc n) x =
    let e : suc n - suc k ≡ n - k = omega arith in
    drop_replicate k n x ∙ ap (λ (m : ℕ). replicate m x) (sym e)

-- a number of 32 bits has at most ten digits
pub decimal_ten : (n : ℕ) → n < 2 ^ 32 → length (decimal n) ≤ 10
decimal_ten n h = decimal_short 9 n (omega arith)

-- a refusal: its number, of k digits, was written after the word and left q there; a newline comes after it
module _ (n k : ℕ) (q : List ℕ) (h : n < 2 ^ 32) (f : (k ≡ length (decimal n)) × (q ≡ decimal n ++ drop k (replicate 63 0))) where
  front_length : length (refused_word ++ decimal n) ≡ 8 + k
  front_length = length-append refused_word (decimal n) ∙ omega (arith, f.0)

  filled : refused_word ++ (q ++ []) ≡ (refused_word ++ decimal n) ++ replicate (71 - (8 + k)) 0
  filled =
      let e : 63 - k ≡ 71 - (8 + k) = omega arith in
      ap (λ (t : List ℕ). refused_word ++ t) (append-nil q ∙ f.1)
      ∙ sym (append_assoc refused_word (decimal n) (drop k (replicate 63 0)))
      ∙ ap (λ (t : List ℕ). (refused_word ++ decimal n) ++ t) (drop_replicate k 63 0 ∙ ap (λ (m : ℕ). replicate m 0) e)

  text_is : (refused_word ++ decimal n) ++ (10 ∷ []) ≡ refused_text n
  unfolding refused_text
  text_is = append_assoc refused_word (decimal n) (10 ∷ [])

  text_length : length (refused_text n) ≡ 8 + k + 1
  text_length = ap length (sym text_is) ∙ length-append (refused_word ++ decimal n) (10 ∷ []) ∙ omega (arith, front_length)

  refused_is : (8 + k + 1, set (refused_word ++ (q ++ [])) (8 + k) 10) ≡ shown (refused_text n)
  unfolding shown
  refused_is =
      let short = decimal_ten n h in
      let more = fill_more 71 (8 + k) 0 10 (refused_word ++ decimal n) front_length (omega (arith, f.0)) in
      let written = ap (λ (t : List ℕ). set t (8 + k) 10) filled ∙ more ∙ ap (λ (t : List ℕ). t ++ replicate (71 - (8 + k + 1)) 0) text_is in
      ap (λ (t : List ℕ). (8 + k + 1, t)) written ∙ ap (λ (m : ℕ). (m, refused_text n ++ replicate (71 - m) 0)) (sym text_length)

-- the same where w was put in place of the word
module _ (w : List ℕ) (v : w ≡ refused_word) where
  pub after_word : length (take 63 (drop 8 (w ++ replicate 63 0))) ≡ 63
  after_word = ap (λ (w : List ℕ). length (take 63 (drop 8 (w ++ replicate 63 0)))) v

  pub refused_put : (n k : ℕ) (q : List ℕ) → n < 2 ^ 32 → (k ≡ length (decimal n)) × (q ≡ decimal n ++ drop k (take 63 (drop 8 (w ++ replicate 63 0))))
      → (8 + k + 1, set (put_mid 8 63 (w ++ replicate 63 0) q) (8 + k) 10) ≡ shown (refused_text n)
  refused_put n k q h f =
      ap (λ (w : List ℕ). (8 + k + 1, set (put_mid 8 63 (w ++ replicate 63 0) q) (8 + k) 10)) v
      ∙ refused_is n k q h (f.0, f.1 ∙ ap (λ (w : List ℕ). decimal n ++ drop k (take 63 (drop 8 (w ++ replicate 63 0)))) v)
