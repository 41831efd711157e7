-- The book (01's term) of tables that rows of round keys and a chain make, and where each part of it stands (document 01,
-- "Book"), with the byte in front that states the length of the key (document 02, 2026-05). What is behind that byte is the book's
-- body, which is document 01's book: it is said of any rows and any number r of rounds, the whole book of a key size.
use Rattle.std.specs.Prelude.{◌≡◌, ℕ, zero, suc, ◌+◌, ◌*◌, ◌<◌, List, [], ◌∷◌, ◌++◌, length, take, drop, slice_index_or}
use Rattle.lists.specs.Tabulation.{chunks, tables}
use Rattle.lists.specs.Blocks.{zeros}
use Rattle.cipher.specs.Lengths.{add_length, turn_length, fold_length, body_start, start_length, group_length, round_length, rounds_start}
use Rattle.cipher.specs.KeySize.{key_length, rounds}
use Rattle.cipher.specs.Lea.{first_rounds}
use Rattle.cipher.specs.Cmac.{subkey1, subkey2}
use Rattle.cipher.specs.Coding.{Set, coded}
use Rattle.cipher.specs.Tables.{RoundCodings, RoundTables, FoldTables, add_table, turn_table, fold_table}
use Rattle.cipher.specs.Chain.{message_set, chain_set, round_codings}
use Rattle.cipher.specs.declared.size.KeySize.{KeySize}

-- ---- the parts

-- the start: sixteen zero bytes under set r
unfoldable pub start_part : ℕ → List ℕ → List ℕ
start_part r ch = coded (chain_set ch r) zeros

-- the tables of a round: 24 of s entries each, by the rule f, then 24 of u entries each, by the rule g
unfoldable pub two_kinds : ℕ → (ℕ → ℕ → ℕ → ℕ) → ℕ → (ℕ → ℕ → ℕ → ℕ) → List ℕ
two_kinds s f u g = tables 24 s f ++ tables 24 u g

-- a round: the add tables, then the turn tables
unfoldable pub round_part : RoundCodings → List ℕ → List ℕ
round_part c k = two_kinds add_length (add_table c k) turn_length (turn_table c)

-- a group of 32 fold tables
unfoldable pub group_part : Set → Set → Set → List ℕ → List ℕ
group_part S U S' k = tables 32 fold_length (fold_table S U S' k)

-- the key block of group g: zeros, K1, K2
unfoldable pub group_key : (List ℕ → List ℕ) → ℕ → List ℕ
group_key cipher zero = zeros
group_key cipher (suc zero) = subkey1 cipher
group_key cipher (suc (suc g)) = subkey2 cipher

-- group g and round l of a book: folds go from set r and U to set 0
unfoldable pub book_group : ℕ → List (List ℕ) → List ℕ → ℕ → List ℕ
book_group r rows ch g = group_part (chain_set ch r) (message_set ch) (chain_set ch 0) (group_key (first_rounds rows r) g)

unfoldable pub book_round : ℕ → List (List ℕ) → List ℕ → ℕ → List ℕ
book_round r rows ch l = round_part (round_codings r ch l) (slice_index_or rows l [])

-- ---- the book

-- its body
unfoldable pub book_of : ℕ → List (List ℕ) → List ℕ → List ℕ
book_of r rows ch = start_part r ch ++ (chunks 3 (book_group r rows ch) ++ chunks r (book_round r rows ch))

-- and all of it: the length of the key in one byte, and the body
abbrev pub whole_book : KeySize → List (List ℕ) → List ℕ → List ℕ
whole_book z rows ch = key_length z ∷ book_of (rounds z) rows ch

-- ---- where the parts stand

-- the body of a book, in which all its parts stand: all but its first byte
abbrev pub book_body : List ℕ → List ℕ
book_body bk = drop body_start bk

-- the start of a body; a body from its group g on; and a body from its round l on
abbrev pub start_of : List ℕ → List ℕ
start_of bk = take start_length bk

abbrev pub group_at : List ℕ → ℕ → List ℕ
group_at bk g = drop (start_length + group_length * g) bk

abbrev pub round_at : List ℕ → ℕ → List ℕ
round_at bk l = drop (rounds_start + round_length * l) bk

-- the body bk has the start and every entry of every table in its place: a reader of a book needs no other fact
pub record Book (r : ℕ) (rows : List (List ℕ)) (ch bk : List ℕ) : Type 0 where
  pub size : length bk ≡ rounds_start + round_length * r
  pub start : start_of bk ≡ start_part r ch
  pub folds : (g : ℕ) → g < 3
      → FoldTables (chain_set ch r) (message_set ch) (chain_set ch 0) (group_key (first_rounds rows r) g) (group_at bk g)
  pub tables : (l : ℕ) → l < r → RoundTables (round_codings r ch l) (slice_index_or rows l []) (round_at bk l)
