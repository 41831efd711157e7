-- What a sealed text opens to, block by block (specs/Blocks), of the code's own value.
use Rattle.std.specs.Prelude.{List, ℕ}
use Rattle.cipher.specs.KeySize.{rounds}
use Rattle.cipher.specs.Images.{imaged}
use Rattle.archive.specs.Blocks.{opened_block}
use Rattle.archive.specs.declared.blocks.Sealed.{Sealed}

abbrev pub opened_of : Sealed → ℕ → List ℕ
opened_of s = opened_block s.keys.rows (rounds s.keys.size) (imaged s.table.now) s.iv s.text.now
