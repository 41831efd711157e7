-- The three key sizes, with the numbers that document 01 gives for each: rounds ("LEA"), the length of a chain ("Chain of
-- codings") and of a book ("Book"), which document 02 (2026-05) makes one byte longer. Chain and book are 01's terms.
use Rattle.std.specs.Prelude.{ℕ, ◌+◌, ◌*◌, cond, ◌==◌, Option, Some, None}
use Rattle.cipher.specs.declared.size.KeySize.{KeySize}
use Rattle.cipher.specs.declared.size.KeySize.TheVariants.{Bytes16, Bytes24, Bytes32}

abbrev pub rounds : KeySize → ℕ
rounds Bytes16 = 24
rounds Bytes24 = 28
rounds Bytes32 = 32

abbrev pub key_length : KeySize → ℕ
key_length Bytes16 = 16
key_length Bytes24 = 24
key_length Bytes32 = 32

abbrev pub chain_length : KeySize → ℕ
chain_length z = 1024 + 920 * rounds z

abbrev pub book_length : KeySize → ℕ
book_length z = 1 + (24592 + 18432 * rounds z)

-- the size whose length, by `len`, is n
unfoldable pub size_by : (KeySize → ℕ) → ℕ → Option KeySize
size_by len n =
    cond (n == len Bytes16) (Some Bytes16) (cond (n == len Bytes24) (Some Bytes24) (cond (n == len Bytes32) (Some Bytes32) None))

-- the size of a key of n bytes, and that of the key of a book of n bytes
abbrev pub size_of_key : ℕ → Option KeySize
size_of_key n = size_by key_length n

abbrev pub size_of_book : ℕ → Option KeySize
size_of_book n = size_by book_length n
