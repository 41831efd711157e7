-- Opening as the code goes about it: the last block first, then the others, then the front of the last one.
use mathlib.Core.Path.{◌≡◌, sym, ap, ap₂, ◌∙◌, subst}
use mathlib.Core.Bool.{true, false, not}
use mathlib.Core.List.{List, [], ◌++◌}
use Prim.Native.Nat.{ℕ, ◌+◌, ◌-◌, ◌*◌, ◌/◌, ◌%◌, ◌<◌, ◌≤◌}
use native.Mathlib.Nat.{le_of_eq}
use native.Mathlib.Omega.{arith}
use lib.ListN.{length, take, drop, length-append}
use lib.Seq.{length-take-le, take_all}
use Rattle.std.specs.Prelude.{Some, None}
use Rattle.words.specs.Rows.{RowsOfWords}
use Rattle.lists.specs.Tabulation.{chunks}
use Rattle.lists.specs.Blocks.{Bytes}
use Rattle.lists.proofs.ChunkLaws.{chunks_more}
use Rattle.lists.proofs.PartLaws.{put_more}
use Rattle.lists.specs.Refusals.{first}
use Rattle.lists.proofs.RefusalLaws.{first_hit, first_pass}
use Rattle.cipher.specs.KeySize.{rounds}
use Rattle.cipher.specs.Schedules.{Named, key_rows}
use Rattle.cipher.specs.Coding.{Permutation, FirstPermutations, LowSet, coding_at, set_of, decoded, inverted}
use Rattle.cipher.specs.Images.{images_of, imaged}
use Rattle.cipher.specs.Chain.{LoneSet}
use Rattle.cipher.specs.Answers.{bad_text}
use Rattle.cipher.specs.declared.size.KeySize.{KeySize}
use Rattle.cipher.specs.declared.schedules.Schedule.{Schedule}
use Rattle.cipher.proofs.SchedulesLaws.{key_words}
use Rattle.cipher.proofs.InverseLaws.{length_inverted, low_inverted}
use Rattle.cipher.proofs.ImageLaws.{bytes_images}
use Rattle.archive.specs.Blocks.{opened_block}
use Rattle.archive.specs.Archive.{last_byte, ends_padded, unpadded, text_answer, open_answer}
use Rattle.archive.proofs.OpenLaws.{opened_text_lem, opened_alike, decoded_imaged, chunks_length}
use Rattle.archive.proofs.PaddingLaws.{padded, ends_text, unpadded_text, padding_none, padding_some, few}
use Rattle.archive.proofs.AnswerLaws.{open_told}

-- what inverting a set asks for, and what the inverted set is
pub set_inverts : (s : List ℕ) → LoneSet s → (16 * 32 ≤ length s) × FirstPermutations 32 s
set_inverts s v = (
  omega (arith, v.size),
  λ k h.
      let e : 8 * (k / 8) + k % 8 ≡ k = omega arith in
      subst (λ (n : ℕ). Permutation (coding_at s n)) e (v.codings (k / 8) (k % 8) (omega arith) (omega arith)),
)

pub codes_ready : (s t : List ℕ) → LoneSet s → t ≡ inverted 32 s → (512 ≤ length t) × LowSet t
codes_ready s t v e = rw e (omega (arith, length_inverted 32 s), low_inverted s v.codings)

pub table_ready : (s t : List ℕ) → LoneSet s → t ≡ images_of (inverted 32 s) → Bytes t
table_ready s t v e = rw e (bytes_images (inverted 32 s) (low_inverted s v.codings))

pub rows_ready : (k : Schedule) (z : KeySize) (key : List ℕ) (rows : List (List ℕ)) → rows ≡ key_rows k z key → Bytes key → RowsOfWords rows
rows_ready k z key rows e h = rw e (key_words k z key h)

-- ---- a text of n bytes, block k of which is g k

module _ (g : ℕ → List ℕ) (size : (k : ℕ) → length (g k) ≡ 16) (n : ℕ) (some : 0 < n) (whole : n % 16 ≡ 0) (out : List ℕ) where
  text_is : chunks (n / 16) g ≡ chunks (n / 16 - 1) g ++ g (n / 16 - 1)
  text_is =
      let e : n / 16 ≡ n / 16 - 1 + 1 = omega arith in
      ap (λ (m : ℕ). chunks m g) e ∙ chunks_more (n / 16 - 1) g

  module _ (last : List ℕ) (el : last ≡ g (n / 16 - 1)) where
    ends_is : ends_padded (chunks (n / 16) g) ≡ ends_padded last
    ends_is = ap ends_padded text_is ∙ ends_text (chunks (n / 16 - 1) g) (g (n / 16 - 1)) (size (n / 16 - 1)) ∙ ap ends_padded (sym el)

    pub text_bad : padded last ≡ None → text_answer (chunks (n / 16) g) out ≡ ((11, 0), out)
    unfolding text_answer
    text_bad h = first_hit (not (ends_padded (chunks (n / 16) g))) 11 [] (λ q. ((q, 0), out)) _ (ap not (ends_is ∙ padding_none last h))

    module _ (p : ℕ) (h : padded last ≡ Some p) where
      ended : (ends_padded last ≡ true) × (p ≡ last_byte last) × (last_byte last ≤ 16)
      ended = padding_some last p h

      message : unpadded (chunks (n / 16) g) ≡ chunks (n / 16 - 1) g ++ take (16 - p) last
      message =
          let b = ap last_byte el in
          let e : 16 - last_byte (g (n / 16 - 1)) ≡ 16 - p = omega (arith, b, ended.1) in
          ap unpadded text_is
          ∙ unpadded_text (chunks (n / 16 - 1) g) (g (n / 16 - 1)) (size (n / 16 - 1)) (omega (arith, b, ended.2))
          ∙ ap₂ {C = List ℕ} (λ (m : ℕ) (b : List ℕ). chunks (n / 16 - 1) g ++ take m b) e (sym el)

      message_length : length (unpadded (chunks (n / 16) g)) ≡ n - p
      message_length =
          ap length message
          ∙ length-append (chunks (n / 16 - 1) g) (take (16 - p) last)
          ∙ omega (arith, some, whole, few last p h, chunks_length g size out (n / 16 - 1), length-take-le (16 - p) last (omega (arith, ap length el, size (n / 16 - 1))))

      pub text_made : (o q : List ℕ) → o ≡ chunks (n / 16 - 1) g ++ drop (16 * (n / 16 - 1)) out
          → q ≡ take (16 * (n / 16 - 1)) o ++ take (16 - p) last ++ drop (16 * (n / 16 - 1) + (16 - p)) o
          → ((0, n - p), q) ≡ text_answer (chunks (n / 16) g) out
      unfolding text_answer first
      text_made o q eo eq =
          let e : 16 * (n / 16 - 1) + (16 - p) ≡ n - p = omega (arith, some, whole, few last p h) in
          (λ i. (
            (0, sym message_length i),
            (eq
                ∙ put_more (chunks (n / 16 - 1) g) out o (take (16 - p) last) (16 * (n / 16 - 1)) (16 - p) (chunks_length g size out (n / 16 - 1)) eo
                ∙ ap₂ {C = List ℕ} (λ (m : List ℕ) (k : ℕ). m ++ drop k out) (sym message) (e ∙ sym message_length)) i,
          ))
          ∙ sym (first_pass (not (ends_padded (chunks (n / 16) g))) 11 [] (λ q. ((q, 0), out)) _ (ap not (ends_is ∙ ended.0)))

-- ---- a sealed text, of which that is told

module _ (s : ℕ) (key set iv sealed out : List ℕ) (j : Schedule) (z : KeySize) (ek : Named s key j z) (v : LoneSet set) (l : length iv ≡ 16)
    (d : bad_text (length sealed) ≡ false) (w : length sealed ≤ length out) (hi : Bytes iv) (hs : Bytes sealed) where
  pub open_is : (rows : List (List ℕ)) (z₁ : KeySize) (table b : List ℕ) (a : (ℕ × ℕ) × List ℕ) → rows ≡ key_rows j z key → z₁ ≡ z → table ≡ images_of (inverted 32 set)
      → b ≡ take 16 iv → a ≡ text_answer (chunks (length sealed / 16) (opened_block rows (rounds z₁) (imaged table) b sealed)) out
      → a ≡ open_answer s key set iv sealed out
  open_is rows z₁ table b a er ez et eb e =
      let same : opened_block rows (rounds z₁) (imaged table) b sealed ≡ opened_block (key_rows j z key) (rounds z) (decoded (set_of set)) iv sealed =
      (λ i. opened_block (er i) (rounds (ez i)) (imaged (et i)) ((eb ∙ take_all 16 iv (le_of_eq l)) i) sealed)
      ∙ opened_alike (key_rows j z key) (rounds z) (imaged (images_of (inverted 32 set))) (decoded (set_of set)) (decoded_imaged set) iv sealed hi hs in
      e
      ∙ ap (λ (t : List ℕ). text_answer t out)
      (ap (chunks (length sealed / 16)) same ∙ sym (opened_text_lem (key_rows j z key) (rounds z) (set_of set) iv sealed))
      ∙ sym (open_told s key set iv sealed out j z ek v l d w)
