-- The CBC mode of a block cipher (document 000; SP 800-38A, the Cipher Block Chaining mode).
use Rattle.std.specs.Prelude.{ℕ, List, [], ◌∷◌}
use Rattle.lists.specs.Blocks.{xor_block}

-- blocks enciphered from an IV: each is xored with the result before it, the first with the IV
unfoldable pub cbc_enciphered : (List ℕ → List ℕ) → List ℕ → List (List ℕ) → List (List ℕ)
cbc_enciphered cipher iv [] = []
cbc_enciphered cipher iv (p ∷ ps) = let c = cipher (xor_block p iv) in c ∷ cbc_enciphered cipher c ps

-- blocks deciphered: each, deciphered, is xored with the block before it, the first with the IV
unfoldable pub cbc_deciphered : (List ℕ → List ℕ) → List ℕ → List (List ℕ) → List (List ℕ)
cbc_deciphered decipher iv [] = []
cbc_deciphered decipher iv (c ∷ cs) = xor_block (decipher c) iv ∷ cbc_deciphered decipher c cs
