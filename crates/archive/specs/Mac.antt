-- The last block of a message as the code makes it, from the part b that is left of the message: inner functions' own words
-- for `last_block` of `Rattle.cipher.specs.Cmac`.
use Rattle.std.specs.Prelude.{cond, List, ◌∷◌, ◌++◌, ℕ, ◌-◌, eqb, length, replicate}
use Rattle.lists.specs.Blocks.{xor_block, block_length}

-- hex 80 and zeros after it where it is not complete
unfoldable pub filled_block : List ℕ → List ℕ
filled_block b = cond (eqb (length b) block_length) b (b ++ (0x80 ∷ replicate (15 - length b) 0))

-- and under k1 where it is complete, else under k2
unfoldable pub last_under : List ℕ → List ℕ → List ℕ → List ℕ
last_under k1 k2 b = xor_block (filled_block b) (cond (eqb (length b) block_length) k1 k2)
