-- The digest byte by byte: what each number of it is, and that it is a byte.
use Rattle.std.proofs.Common.{◌≡◌, ℕ, zero, suc, ◌+◌, ◌*◌, ◌/◌, ◌%◌, ◌<◌, List, [], ◌∷◌, get_or, sym, ◌∙◌, ap₂, arith, lit<}
use Rattle.std.specs.Int.{w32, to_be_bytes}
use Rattle.lists.specs.Tabulation.{tab}
use Rattle.lists.specs.Blocks.{Bytes}
use Rattle.lists.proofs.TabulationLaws.{tab_below}
use Rattle.lists.proofs.ChunkLaws.{tab_rows, chunks_ext}
use Rattle.sha256.specs.Sha256.{big_endian, hash, sha256}

-- byte i of a word, and of eight words, the highest first
abbrev word_byte : ℕ → ℕ → ℕ
word_byte x i = get_or (to_be_bytes w32 x) i 0

abbrev pub byte_of : List ℕ → ℕ → ℕ
byte_of h i = word_byte (get_or h (i / 4) 0) (i % 4)

word_bytes : (x : ℕ) → tab 4 (word_byte x) ≡ big_endian 4 x
unfolding tab big_endian
word_bytes x =
    let e2 : x / 65536 ≡ x / 256 / 256 = omega arith in
    let e3 : x / 16777216 ≡ x / 256 / 256 / 256 = omega arith in
    λ i. e3 i % 256 ∷ e2 i % 256 ∷ x / 256 % 256 ∷ x % 256 ∷ []

word_byte_lt : (x i : ℕ) → word_byte x i < 256
word_byte_lt x zero = omega arith
word_byte_lt x (suc zero) = omega arith
word_byte_lt x (suc (suc zero)) = omega arith
word_byte_lt x (suc (suc (suc zero))) = omega arith
word_byte_lt x (suc (suc (suc (suc i)))) = lit< tt

pub sha256_tab : (m : List ℕ) → tab 32 (byte_of (hash m)) ≡ sha256 m
unfolding sha256
sha256_tab m =
    tab_rows 8 4 (byte_of (hash m)) (λ k. word_byte (get_or (hash m) k 0)) (λ k i b l.
    let word : (k * 4 + i) / 4 ≡ k = omega arith in
    let byte : (k * 4 + i) % 4 ≡ i = omega arith in
    ap₂ (λ (u v : ℕ). word_byte (get_or (hash m) u 0) v) word byte)
    ∙ chunks_ext 8 _ _ (λ k b. word_bytes (get_or (hash m) k 0))

pub sha256_bytes : (m : List ℕ) → Bytes (sha256 m)
sha256_bytes m = rw (sym (sha256_tab m)) (tab_below 256 32 (byte_of (hash m)) (lit< tt) (λ k l. word_byte_lt (get_or (hash m) (k / 4) 0) (k % 4)))
