-- A record in a file: where a file goes on with the bytes of a record, its head is that record's; and a head with its mark and with as many
-- bytes behind it is a record.
use mathlib.Core.Path.{◌≡◌, sym, ap, ◌∙◌}
use mathlib.Core.List.{List, [], ◌∷◌, ◌++◌}
use Prim.Native.Nat.{ℕ, suc, ◌+◌, ◌-◌, ◌≤◌, ◌<◌, ◌^◌}
use native.Mathlib.Omega.{arith}
use lib.ListN.{length, get_or, take, drop, length-append, length-drop, take-append-drop}
use lib.Seq.{get_or-drop, drop-drop, drop-cons, length-take-le, take-append_seam, drop-append_seam}
use Rattle.lists.specs.Blocks.{Bytes}
use Rattle.words.specs.Word.{bytes_of}
use Rattle.words.proofs.WordLaws.{word_bytes, bytes_word}
use Rattle.inkfile.specs.Format.{Record, mark, record_of}
use Rattle.inkfile.specs.Reading.{kind_at, length_at, part}

pub length_record : (r : Record) → length (record_of r) ≡ 6 + length r.1
unfolding record_of bytes_of
length_record r = omega arith

module _ (file : List ℕ) (s : ℕ) (r : Record) (rest : List ℕ) (e : drop s file ≡ record_of r ++ rest) where
  byte_at : (i : ℕ) → get_or file (s + i) 0 ≡ get_or (record_of r ++ rest) i 0
  byte_at i = sym (get_or-drop s file i 0) ∙ ap (λ (l : List ℕ). get_or l i 0) e

  pub mark_at : get_or file s 0 ≡ mark
  unfolding record_of
  mark_at = let z : s ≡ s + 0 = omega arith in ap (λ (j : ℕ). get_or file j 0) z ∙ byte_at 0

  pub kind_at_lem : kind_at file s ≡ r.0
  unfolding record_of
  kind_at_lem = byte_at 1

  pub length_at_lem : length r.1 < 2 ^ 32 → length_at file s ≡ length r.1
  unfolding record_of bytes_of length_at
  length_at_lem h = rw (byte_at 2, byte_at 3, byte_at 4, byte_at 5) (word_bytes (length r.1) h)

  behind_head : drop (s + 6) file ≡ r.1 ++ rest
  unfolding record_of bytes_of
  behind_head = sym (drop-drop 6 s file) ∙ ap (drop 6) e

  pub body_at : part file (s + 6) (length r.1) ≡ r.1
  body_at = ap (take (length r.1)) behind_head ∙ take-append_seam r.1 rest

  pub rest_at : drop (s + 6 + length r.1) file ≡ rest
  rest_at = sym (drop-drop (length r.1) (s + 6) file) ∙ ap (drop (length r.1)) behind_head ∙ drop-append_seam r.1 rest

  pub room_at : s + 6 + length r.1 ≤ length file
  room_at =
      let h : length file - s ≡ length (record_of r) + length rest = sym (length-drop s file) ∙ ap length e ∙ length-append (record_of r) rest in
      let l = length_record r in
      omega arith

module _ (file : List ℕ) (s : ℕ) where
  step : (i : ℕ) → s + i < length file → drop (s + i) file ≡ get_or file (s + i) 0 ∷ drop (s + (i + 1)) file
  step i h = let z : suc (s + i) ≡ s + (i + 1) = omega arith in drop-cons file (s + i) 0 h ∙ rw z

  six : s + 6 ≤ length file
      → drop s file ≡ get_or file s 0 ∷ get_or file (s + 1) 0 ∷ get_or file (s + 2) 0 ∷ get_or file (s + 3) 0 ∷ get_or file (s + 4) 0 ∷ get_or file (s + 5) 0 ∷ drop (s + 6) file
  six h =
      let z : suc s ≡ s + 1 = omega arith in
      drop-cons file s 0 (omega arith)
      ∙ ap {B = List ℕ} (λ t. get_or file s 0 ∷ t) (ap (λ (j : ℕ). drop j file) z ∙ step 1 (omega arith)
      ∙ ap {B = List ℕ} (λ t. get_or file (s + 1) 0 ∷ t) (step 2 (omega arith)
      ∙ ap {B = List ℕ} (λ t. get_or file (s + 2) 0 ∷ t) (step 3 (omega arith)
      ∙ ap {B = List ℕ} (λ t. get_or file (s + 3) 0 ∷ t) (step 4 (omega arith)
      ∙ ap {B = List ℕ} (λ t. get_or file (s + 4) 0 ∷ t) (step 5 (omega arith))))))

  pub record_at : Bytes file → get_or file s 0 ≡ mark → s + 6 + length_at file s ≤ length file
      → drop s file ≡ record_of (kind_at file s, part file (s + 6) (length_at file s)) ++ drop (s + 6 + length_at file s) file
  unfolding record_of length_at bytes_of
  record_at hb hm hl =
      let n = length_at file s in
      let b = part file (s + 6) n in
      let rest = drop (s + 6 + n) file in
      let four = get_or file (s + 2) 0 ∷ get_or file (s + 3) 0 ∷ get_or file (s + 4) 0 ∷ get_or file (s + 5) 0 ∷ [] in
      let l : length b ≡ n = length-take-le n (drop (s + 6) file) (rw (length-drop (s + 6) file) (omega arith)) in
      let w : bytes_of (length b) ≡ four
      = ap bytes_of l ∙ bytes_word (get_or file (s + 2) 0) (get_or file (s + 3) 0) (get_or file (s + 4) 0) (get_or file (s + 5) 0) (hb (s + 2)) (hb (s + 3)) (hb (s + 4)) (hb (s + 5)) in
      let t : drop (s + 6) file ≡ b ++ rest = sym (take-append-drop n (drop (s + 6) file)) ∙ ap {B = List ℕ} (λ x. b ++ x) (drop-drop n (s + 6) file) in
      six (omega arith)
      ∙ (λ i. hm i ∷ kind_at file s ∷ (four ++ t i))
      ∙ (λ i. mark ∷ kind_at file s ∷ ((sym w i ++ b) ++ rest))
