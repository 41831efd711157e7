-- Single tables by figures, with identity codings: the subtract and turn tables beside those of document 01's "Table of examples",
-- with the masks of document 02, 2026-06.
use mathlib.Core.Path.{◌≡◌, refl}
use mathlib.Core.List.{◌∷◌}
use lib.ListN.{replicate}
use Rattle.lists.specs.HalfBytes.{half_byte}
use Rattle.lists.specs.Tabulation.{tab, chunks, tables}
use Rattle.cipher.specs.Coding.{place_of, decode}
use Rattle.cipher.specs.ChainParts.{coding_bytes}
use Rattle.cipher.specs.Examples.{identity_round, none, only, triple, pair}
use Rattle.reading.specs.Tables.{turn_back_entry, difference, subtract_entry, turn_back_table, subtract_table}

pub record ReadingExamples : Type 0 where
  -- 8 - 9 is 15 and a borrow
  pub sub : subtract_table (identity_round none) (replicate 6 0) 0 0 (triple 0 8 9) ≡ 31
  pub sub_mask : subtract_table (identity_round (only 1)) (replicate 6 0) 0 0 (triple 0 8 9) ≡ 15
  -- at j = 7 the borrow is under the mask at j = 0 of the same word, whatever the next word's is
  pub sub_top : subtract_table (identity_round none) (replicate 6 0) 0 7 (triple 0 8 9) ≡ 31
  pub sub_top_mask : subtract_table (identity_round (only 0)) (replicate 6 0) 0 7 (triple 0 8 9) ≡ 15
  pub sub_top_next : subtract_table (identity_round (only 8)) (replicate 6 0) 0 7 (triple 0 8 9) ≡ 31
  -- and into j = 0 it has no mask
  pub sub_first : subtract_table (identity_round (only 0)) (replicate 6 0) 0 0 (triple 1 9 8) ≡ 0
  -- 9 - 8 is 1, with a borrow before it 0, and 0 - 15 - 1 is 0 and a borrow
  pub sub_less : subtract_table (identity_round none) (replicate 6 0) 0 0 (triple 0 9 8) ≡ 1
  pub sub_borrow : subtract_table (identity_round none) (replicate 6 0) 0 1 (triple 1 9 8) ≡ 0
  pub sub_most : subtract_table (identity_round none) (replicate 6 0) 0 1 (triple 1 0 15) ≡ 16
  -- the masked borrow in: where its mask is set, 0 stands for a borrow
  pub sub_in : subtract_table (identity_round (only 1)) (replicate 6 0) 0 1 (triple 0 9 8) ≡ 0
  -- key half bytes 3 and 5: 9 - (8 xor 3) is 14 and a borrow, and 14 xor 5 is 11
  pub sub_keyed : subtract_table (identity_round none) (3 ∷ 5 ∷ replicate 4 0) 0 0 (triple 0 9 8) ≡ 27
  -- turns of (9, 8), that undo 3 for i = 0 and 12 for i = 1
  pub turn_0 : turn_back_table (identity_round none) 0 0 (pair 9 8) ≡ 12
  pub turn_1 : turn_back_table (identity_round none) 1 0 (pair 9 8) ≡ 3
  pub turn_2 : turn_back_table (identity_round none) 2 0 (pair 9 8) ≡ 12

pub reading_examples : ReadingExamples
unfolding subtract_table subtract_entry difference turn_back_table turn_back_entry decode place_of half_byte coding_bytes tables chunks tab
reading_examples = record {
  sub = refl;
  sub_mask = refl;
  sub_top = refl;
  sub_top_mask = refl;
  sub_top_next = refl;
  sub_first = refl;
  sub_less = refl;
  sub_borrow = refl;
  sub_most = refl;
  sub_in = refl;
  sub_keyed = refl;
  turn_0 = refl;
  turn_1 = refl;
  turn_2 = refl;
}
