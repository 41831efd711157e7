-- The example that document 02, 2026-07, takes from document 000, appendix A: what WF-LEA makes of a block under a key of 16 bytes.
use Rattle.std.specs.Prelude.{◌≡◌, List, [], ◌∷◌, ℕ}
use Rattle.wf_lea.specs.Vectors.{key16}
use Rattle.cipher.specs.Lea.{encipher}
use Rattle.cipher.specs.declared.size.KeySize.TheVariants.{Bytes16}
use Rattle.cipher.specs.declared.schedules.Schedule.TheVariants.{WfLea}

abbrev pub plain : List ℕ
plain = 0x06 ∷ 0xe3 ∷ 0x1c ∷ 0x77 ∷ 0x6e ∷ 0xcf ∷ 0x1d ∷ 0x36 ∷ 0xac ∷ 0x1c ∷ 0xcc ∷ 0x10 ∷ 0x68 ∷ 0x54 ∷ 0xf7 ∷ 0x4e ∷ []

abbrev pub enciphered : List ℕ
enciphered = 0x27 ∷ 0x4d ∷ 0x26 ∷ 0x84 ∷ 0xce ∷ 0x28 ∷ 0xcf ∷ 0x24 ∷ 0x91 ∷ 0xfd ∷ 0xf0 ∷ 0xac ∷ 0x29 ∷ 0x80 ∷ 0x07 ∷ 0x0a ∷ []

abbrev pub WfExample : Type 0
WfExample = encipher WfLea Bytes16 key16 plain ≡ enciphered
