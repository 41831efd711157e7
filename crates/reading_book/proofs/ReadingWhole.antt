-- The rounds and the group put together are the reading book.
use mathlib.Core.Path.{◌≡◌, ap, ap₂, ◌∙◌}
use mathlib.Core.List.{List, [], ◌++◌}
use Prim.Native.Nat.{ℕ, suc, ◌+◌, ◌-◌, ◌*◌}
use native.Mathlib.Omega.{arith}
use lib.ListN.{length, get_or, drop}
use Rattle.lists.specs.Tabulation.{chunks}
use Rattle.lists.specs.Blocks.{zeros}
use Rattle.lists.proofs.ChunkLaws.{length_chunks}
use Rattle.cipher.specs.Coding.{Set, set_of, inverted}
use Rattle.cipher.specs.Chain.{round_codings}
use Rattle.cipher.specs.Book.{group_part}
use Rattle.cipher.proofs.BookLaw.{group_size}
use Rattle.reading.specs.Book.{row_back, reading_book_round, reading_book_group, reading_book_of}
use Rattle.reading.proofs.ReadingBookLaw.{reading_size}
use Rattle.table_maker.specs.Made.{made_fold}
use Rattle.book.proofs.BuildLaws.{group_is}

-- the row that the code takes for round l
pub row_back_is : (r q l : ℕ) (rows : List (List ℕ)) → q ≡ r → get_or rows (q - 1 - l) [] ≡ row_back r rows l
row_back_is r q l rows e =
    let a : q - 1 - l ≡ r - suc l = omega arith in
    ap (λ (n : ℕ). get_or rows n []) a

pub round_back_length : (r : ℕ) (rows : List (List ℕ)) (ch : List ℕ) (l : ℕ) → length (reading_book_round r rows ch l) ≡ 18432
unfolding reading_book_round
round_back_length r rows ch l = reading_size (round_codings r ch l) (row_back r rows l)

-- all rounds, where n is written for their length
pub rounds_back_length : (x : List ℕ) (r n : ℕ) (rows : List (List ℕ)) (ch : List ℕ) → n ≡ 18432 * r → x ≡ chunks r (reading_book_round r rows ch) → length x ≡ n
rounds_back_length x r n rows ch en e =
    let a : r * 18432 ≡ n = omega arith in
    ap length e ∙ length_chunks (reading_book_round r rows ch) 18432 (round_back_length r rows ch) r ∙ a

-- the group from the inverted sets
pub group_made : (S U F s u x : List ℕ) → s ≡ inverted 32 S → u ≡ inverted 32 U → x ≡ chunks 32 (made_fold s u F zeros) → x ≡ group_part (set_of S) (set_of U) (set_of F) zeros
group_made S U F s u x es eu ex = ex ∙ ap₂ (λ (a b : List ℕ). chunks 32 (made_fold a b F zeros)) es eu ∙ group_is S U F zeros

pub group_length_lem : (S U F : Set) (x : List ℕ) → x ≡ group_part S U F zeros → length x ≡ 8192
group_length_lem S U F x e = ap length e ∙ group_size S U F zeros

-- the parts are those of the book
pub reading_book_is : (r q : ℕ) (rows : List (List ℕ)) (ch S F x y : List ℕ) → q ≡ r → S ≡ drop (512 * (q + 1)) ch → F ≡ drop 512 ch
    → x ≡ chunks r (reading_book_round r rows ch) → y ≡ group_part (set_of S) (set_of F) (set_of ch) zeros → x ++ y ≡ reading_book_of r rows ch
unfolding reading_book_of reading_book_group
reading_book_is r q rows ch S F x y eq eS eF ex ey =
    let a : 512 * (q + 1) ≡ 512 * suc r = omega arith in
    rw (ex, ey, eS, eF, a)
