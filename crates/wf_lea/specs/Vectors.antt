-- The first row of the first key of document 000, appendix A, section 1.1.
use Rattle.std.specs.Prelude.{◌≡◌, List, [], ◌∷◌, ℕ}
use Rattle.wf_lea.specs.WfLea.{row}

abbrev pub key16 : List ℕ
key16 = 0x9c ∷ 0xc4 ∷ 0xea ∷ 0x59 ∷ 0x4b ∷ 0x85 ∷ 0xf8 ∷ 0x15 ∷ 0x7e ∷ 0xe0 ∷ 0xd1 ∷ 0x82 ∷ 0xe9 ∷ 0x9d ∷ 0x4a ∷ 0x1b ∷ []

abbrev pub row0 : List ℕ
row0 = 0xd3ef4242 ∷ 0xed7deb80 ∷ 0xffe83ccb ∷ 0x3df18824 ∷ 0xd0b1bc7b ∷ 0x15c2ba3f ∷ []

abbrev pub FirstRow : Type 0
FirstRow = row key16 0 ≡ row0
