-- Later bytes do not matter (document 01, "Table of examples": "later bytes unread"): what the program reads by the first byte
-- decides what it prints, whatever comes after.
use mathlib.Core.Path.{◌≡◌, refl, sym, ap, ◌∙◌}
use mathlib.Core.List.{List, [], ◌∷◌, ◌++◌}
use Prim.Native.Nat.{ℕ, zero, suc, ◌+◌, ◌≤◌}
use native.Mathlib.Omega.{arith}
use lib.ListN.{take, drop}
use lib.Seq.{get_or-take, take-take, drop-drop}
use Rattle.lists.specs.Refusals.{first}
use Rattle.cipher.specs.KeySize.{key_length, chain_length, size_of_key}
use Rattle.cipher.specs.declared.size.KeySize.{KeySize}
use Rattle.std.proofs.Common.{Option, Some, None}
use Rattle.cipher.proofs.KeySizeLaws.{found_length}
use Rattle.round.specs.Text.{refused_text}
use Rattle.round.specs.Round.{two_lines, length_byte, key_part, after_key, chain_part, block_part, key_whole, rest_tests, printed, wanted_of, wanted}
use Rattle.round.proofs.AnswerLaws.{printed_length, length_known}

-- a part that ends before m
part_front : (a k m : ℕ) (l : List ℕ) → a + k ≤ m → take k (drop a (take m l)) ≡ take k (drop a l)
part_front zero k m l h = take-take k m l (omega arith)
part_front (suc a) k zero l h = absurd (omega arith)
part_front (suc a) k (suc m) [] h = refl
part_front (suc a) k (suc m) (x ∷ l) h = part_front a k m l (omega arith)

module _ (i : List ℕ) (m : ℕ) (h : wanted (length_byte i) ≤ m) where
  byte_kept : 1 ≤ m → length_byte (take m i) ≡ length_byte i
  byte_kept l = get_or-take m i 0 0 l

  known : (z : KeySize) → size_of_key (length_byte i) ≡ Some z → printed (take m i) ≡ printed i
  known z e =
      let n = length_byte i in
      let w : wanted n ≡ 1 + key_length z + chain_length z + 16 = ap wanted_of e in
      let k : n ≡ key_length z = found_length key_length n z e in
      let b : length_byte (take m i) ≡ n = byte_kept (omega arith) in
      let p : key_part (length_byte (take m i)) (take m i) ≡ key_part n i =
      ap (λ (x : ℕ). key_part x (take m i)) b ∙ part_front 1 n m i (omega arith) in
      let q : chain_part z (after_key (length_byte (take m i)) (take m i)) ≡ chain_part z (after_key n i) =
      ap (λ (x : ℕ). chain_part z (after_key x (take m i))) b ∙ part_front (1 + n) (chain_length z) m i (omega arith) in
      let s : block_part z (after_key (length_byte (take m i)) (take m i)) ≡ block_part z (after_key n i) =
      ap (λ (x : ℕ). block_part z (after_key x (take m i))) b
      ∙ ap (take 16) (drop-drop (chain_length z) (1 + n) (take m i))
      ∙ part_front (1 + n + chain_length z) 16 m i (omega arith)
      ∙ sym (ap (take 16) (drop-drop (chain_length z) (1 + n) i)) in
      length_known (take m i) z (ap size_of_key b ∙ e)
      ∙ (λ t. first (key_whole (b t) (p t) ++ rest_tests z (q t) (s t)) refused_text (two_lines z (p t) (q t) (s t)))
      ∙ sym (length_known i z e)

  unknown : size_of_key (length_byte i) ≡ None → printed (take m i) ≡ printed i
  unknown e =
      let w : wanted (length_byte i) ≡ 1 = ap wanted_of e in
      printed_length (take m i) (ap size_of_key (byte_kept (omega arith)) ∙ e) ∙ sym (printed_length i e)

  pub later_unread : printed (take m i) ≡ printed i
  later_unread = go (size_of_key (length_byte i)) refl
    where
      go : (f : Option KeySize) → size_of_key (length_byte i) ≡ f → printed (take m i) ≡ printed i
      go (Some z) e = known z e
      go None e = unknown e
