-- Document 01's "Table of examples": its marked examples, each as what is to hold of the definitions, and those of document 02,
-- 2026-06, in the place of the one at j = 7.
use Rattle.std.specs.Prelude.{◌≡◌, false, List, [], ◌∷◌, ◌++◌, ℕ, ◌≤◌, length, replicate}
use Rattle.lists.specs.Blocks.{block_length}
use Rattle.cipher.specs.Schedules.{Named}
use Rattle.cipher.specs.Lea.{encipher, decipher}
use Rattle.cipher.specs.Cmac.{double}
use Rattle.cipher.specs.Coding.{set_of}
use Rattle.cipher.specs.Tables.{add_table, turn_table}
use Rattle.cipher.specs.Chain.{LoneSet}
use Rattle.cipher.specs.Examples.{identity_round, none, only, triple, pair}
use Rattle.cipher.specs.Answers.{bad_text}
use Rattle.cipher.specs.Vectors.{key16, plain16, cipher16}
use Rattle.cipher.specs.declared.size.KeySize.{KeySize}
use Rattle.cipher.specs.declared.size.KeySize.TheVariants.{Bytes16}
use Rattle.cipher.specs.declared.schedules.Schedule.{Schedule}
use Rattle.cipher.specs.declared.schedules.Schedule.TheVariants.{Lea}
use Rattle.pad.specs.Padding.{padded_for_sealing, padded_for_tag, kind_of}
use Rattle.archive.specs.Archive.{opened_text, open_answer}

-- key half bytes 0; and 3 and 5 at j = 0
abbrev pub no_key : List ℕ
no_key = replicate 6 0

abbrev pub three_five : List ℕ
three_five = 3 ∷ 5 ∷ replicate 4 0

-- opening refuses every sealed text whose opened text ends so by 11
abbrev pub Refused11 : List ℕ → Type 0
Refused11 end =
    (schedule : ℕ) (key set iv sealed out front : List ℕ) (k : Schedule) (z : KeySize) → Named schedule key k z → LoneSet set → length iv ≡ block_length → bad_text (length sealed) ≡ false
    → length sealed ≤ length out → opened_text (decipher k z key) (set_of set) iv sealed ≡ front ++ end → open_answer schedule key set iv sealed out ≡ ((11, 0), out)

pub record Marked : Type 0 where
  pub lea : encipher Lea Bytes16 key16 plain16 ≡ cipher16
  pub add : add_table (identity_round none) no_key 0 0 (triple 0 9 8) ≡ 17
  pub add_mask : add_table (identity_round (only 1)) no_key 0 0 (triple 0 9 8) ≡ 1
  -- at j = 7 (02, 2026-06) the carry out is under the mask at j = 0 of the same word, not of the next; the carry into j = 0 is under none
  pub add_top : add_table (identity_round none) no_key 0 7 (triple 0 9 8) ≡ 17
  pub add_top_mask : add_table (identity_round (only 0)) no_key 0 7 (triple 0 9 8) ≡ 1
  pub add_top_next : add_table (identity_round (only 8)) no_key 0 7 (triple 0 9 8) ≡ 17
  pub add_first : add_table (identity_round (only 0)) no_key 0 0 (triple 0 9 8) ≡ 17
  pub add_most : add_table (identity_round none) no_key 0 1 (triple 1 15 15) ≡ 31
  pub add_keyed : add_table (identity_round none) three_five 0 0 (triple 0 9 8) ≡ 23
  pub turn_0 : turn_table (identity_round none) 0 0 (pair 9 8) ≡ 3
  pub turn_1 : turn_table (identity_round none) 1 0 (pair 9 8) ≡ 12
  pub doubling : double (0x80 ∷ replicate 15 0x00) ≡ replicate 15 0x00 ++ (0x87 ∷ [])
  pub empty_sealing : padded_for_sealing [] ≡ replicate 16 0x10
  pub empty_tag : (padded_for_tag [] ≡ 0x80 ∷ replicate 15 0) × (kind_of 0 ≡ 1)
  pub sealing_16 : (m : List ℕ) → length m ≡ 16 → length (padded_for_sealing m) ≡ 32
  pub tag_16 : (m : List ℕ) → length m ≡ 16 → (length (padded_for_tag m) ≡ 16) × (kind_of (length m) ≡ 0)
  pub sealing_15 : (m : List ℕ) → length m ≡ 15 → length (padded_for_sealing m) ≡ 16
  pub tag_15 : (m : List ℕ) → length m ≡ 15 → (length (padded_for_tag m) ≡ 16) × (kind_of (length m) ≡ 1)
  pub ending_00 : Refused11 (0x00 ∷ [])
  pub ending_11 : Refused11 (0x11 ∷ [])
  pub ending_03_02 : Refused11 (0x03 ∷ 0x02 ∷ [])
