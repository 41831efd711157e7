-- Doubling, the subkeys of CMAC, the CBC-MAC under it, and CMAC whole (SP 800-38B, subkey generation and MAC generation; document 01, "Book",
-- its last but one paragraph).
use Rattle.std.specs.Prelude.{ℕ, ◌+◌, ◌-◌, ◌*◌, ◌/◌, ◌%◌, cond, List, [], ◌∷◌, ◌++◌, length, drop, replicate, ◌==◌, bit_xor, nat_le, slice_index}
use Rattle.lists.specs.Tabulation.{tab}
use Rattle.lists.specs.Blocks.{zeros, xor_block, cut, block_length}

-- a byte of a block shifted left by one bit, the bit that comes in taken from the byte after it
abbrev pub shifted : ℕ → ℕ → ℕ
shifted b next = (2 * b + next / 128) % 256

-- a block shifted left by one bit, byte 0 highest; where a bit fell out, hex 87 is xored into byte 15
unfoldable pub double : List ℕ → List ℕ
double b =
    tab 15 (λ k. shifted (slice_index b k) (slice_index b (k + 1)))
    ++ (bit_xor (shifted (slice_index b 15) 0) (cond (nat_le 128 (slice_index b 0)) 0x87 0) ∷ [])

-- the subkeys K1 and K2 of a block cipher
unfoldable pub subkey1 : (List ℕ → List ℕ) → List ℕ
subkey1 cipher = double (cipher zeros)

unfoldable pub subkey2 : (List ℕ → List ℕ) → List ℕ
subkey2 cipher = double (subkey1 cipher)

-- CBC-MAC from x over some blocks: each is xored in and the result enciphered
unfoldable pub cbc_mac : (List ℕ → List ℕ) → List ℕ → List (List ℕ) → List ℕ
cbc_mac cipher x [] = x
cbc_mac cipher x (b ∷ bs) = cbc_mac cipher (cipher (xor_block x b)) bs

-- how many blocks of a message of n bytes come before the last one: the last one is whole where the message fills its blocks
-- and is not empty, and begun where it does not
unfoldable pub blocks_before : ℕ → ℕ
blocks_before n = (n - 1) / block_length

-- the last block of a message, of which b is left: under K1 where it is complete, else with a bit 1 and bits 0 after it under K2
unfoldable pub last_block : (List ℕ → List ℕ) → List ℕ → List ℕ
last_block cipher b =
    cond (length b == block_length) (xor_block b (subkey1 cipher)) (xor_block (b ++ (0x80 ∷ replicate (15 - length b) 0)) (subkey2 cipher))

-- the CMAC of a message (SP 800-38B, MAC generation)
unfoldable pub cmac : (List ℕ → List ℕ) → List ℕ → List ℕ
cmac cipher m =
    let n = blocks_before (length m) in
    cipher (xor_block (cbc_mac cipher zeros (cut n m)) (last_block cipher (drop (block_length * n) m)))
