-- The marked examples of document 01's "Table of examples" (specs/Examples), proved together as one table.
use mathlib.Core.Path.{◌≡◌, refl, ap, ◌∙◌}
use mathlib.Core.Bool.{false}
use mathlib.Core.List.{List, [], ◌∷◌, ◌++◌}
use Prim.Native.Nat.{ℕ, ◌+◌, ◌-◌}
use native.Mathlib.Omega.{arith}
use lib.ListN.{length, get_or, length-append}
use lib.Seq.{get_or-append-add}
use Rattle.lists.specs.Tabulation.{tab, chunks, tables}
use Rattle.lists.specs.HalfBytes.{half_byte}
use Rattle.lists.specs.Every.{every}
use Rattle.cipher.specs.Cmac.{double}
use Rattle.cipher.specs.Coding.{place_of, decode}
use Rattle.cipher.specs.ChainParts.{coding_bytes}
use Rattle.cipher.specs.Tables.{add_sum, add_entry, turn_entry, add_table, turn_table}
use Rattle.cipher.proofs.Vectors.{vector16}
use Rattle.pad.specs.Padding.{padded_for_sealing, padded_for_tag, fills_blocks, kind_of}
use Rattle.pad.proofs.PadLaws.{kind_whole, kind_part, sealing_blocks, tag_blocks}
use Rattle.archive.specs.Archive.{last_byte, ends_padded}
use Rattle.archive.proofs.AnswerLaws.{open_11}
use Rattle.claims.specs.Examples.{Refused11, Marked}

-- ---- padding that is none

last_one : (a : List ℕ) (x : ℕ) → last_byte (a ++ (x ∷ [])) ≡ x
last_one a x =
    let e : length (a ++ (x ∷ [])) - 1 ≡ length a + 0 = omega (arith, length-append a (x ∷ [])) in
    ap (λ (n : ℕ). get_or (a ++ (x ∷ [])) n 0) e ∙ get_or-append-add a (x ∷ []) 0 0

bad_00 : (a : List ℕ) → ends_padded (a ++ (0x00 ∷ [])) ≡ false
unfolding ends_padded
bad_00 a = rw (last_one a 0x00)

bad_11 : (a : List ℕ) → ends_padded (a ++ (0x11 ∷ [])) ≡ false
unfolding ends_padded
bad_11 a = rw (last_one a 0x11)

bad_03_02 : (a : List ℕ) → ends_padded (a ++ (0x03 ∷ 0x02 ∷ [])) ≡ false
unfolding ends_padded every
bad_03_02 a = rw (last, first)
  where
    last : last_byte (a ++ (0x03 ∷ 0x02 ∷ [])) ≡ 0x02
    last =
        let e : length (a ++ (0x03 ∷ 0x02 ∷ [])) - 1 ≡ length a + 1 = omega (arith, length-append a (0x03 ∷ 0x02 ∷ [])) in
        ap (λ (n : ℕ). get_or (a ++ (0x03 ∷ 0x02 ∷ [])) n 0) e ∙ get_or-append-add a (0x03 ∷ 0x02 ∷ []) 1 0

    first : get_or (a ++ (0x03 ∷ 0x02 ∷ [])) (length (a ++ (0x03 ∷ 0x02 ∷ [])) - 2 + 0) 0 ≡ 0x03
    first =
        let e : length (a ++ (0x03 ∷ 0x02 ∷ [])) - 2 + 0 ≡ length a + 0 = omega (arith, length-append a (0x03 ∷ 0x02 ∷ [])) in
        ap (λ (n : ℕ). get_or (a ++ (0x03 ∷ 0x02 ∷ [])) n 0) e ∙ get_or-append-add a (0x03 ∷ 0x02 ∷ []) 0 0

refused_11 : (end : List ℕ) → ((a : List ℕ) → ends_padded (a ++ end) ≡ false) → Refused11 end
refused_11 end bad schedule key set iv sealed out front k z e v l d w t = open_11 schedule key set iv sealed out k z e v l d w (ap ends_padded t ∙ bad front)

-- ---- the table

pub marked : Marked
unfolding add_table add_entry add_sum turn_table turn_entry decode place_of half_byte coding_bytes tables chunks tab double padded_for_sealing padded_for_tag fills_blocks kind_of
marked = record {
  lea = vector16;
  add = refl;
  add_mask = refl;
  add_top = refl;
  add_top_mask = refl;
  add_top_next = refl;
  add_first = refl;
  add_most = refl;
  add_keyed = refl;
  turn_0 = refl;
  turn_1 = refl;
  doubling = refl;
  empty_sealing = refl;
  empty_tag = (refl, refl);
  sealing_16 = λ m e. omega (arith, sealing_blocks m);
  tag_16 = λ m e. (omega (arith, tag_blocks m), kind_whole (length m) (λ w. omega arith) (omega arith));
  sealing_15 = λ m e. omega (arith, sealing_blocks m);
  tag_15 = λ m e. (omega (arith, tag_blocks m), kind_part (length m) (λ w. omega arith));
  ending_00 = refused_11 (0x00 ∷ []) bad_00;
  ending_11 = refused_11 (0x11 ∷ []) bad_11;
  ending_03_02 = refused_11 (0x03 ∷ 0x02 ∷ []) bad_03_02;
}
