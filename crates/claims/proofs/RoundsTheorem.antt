-- Demand 3's rounds (document 01, "The model session of demand 3", "After n rounds"): the book's first n rounds on any 16 bytes,
-- decoded by set n, are the first n rounds of LEA on those bytes decoded by set 0. Said of any rows of round keys and any valid
-- chain.
use Rattle.std.proofs.Common.{Some}
use mathlib.Core.Path.{◌≡◌, ap, ◌∙◌}
use mathlib.Core.List.{List}
use Prim.Native.Nat.{ℕ, ◌≤◌}
use lib.ListN.{length}
use Rattle.cipher.specs.KeySize.{rounds}
use Rattle.cipher.specs.Schedules.{key_rows}
use Rattle.cipher.specs.Coding.{decoded}
use Rattle.cipher.specs.Chain.{chain_set, Chain}
use Rattle.cipher.specs.Book.{book_body, Book}
use Rattle.cipher.specs.Answers.{schedule_of, key_size}
use Rattle.cipher.specs.declared.size.KeySize.{KeySize}
use Rattle.cipher.proofs.BookMeaning.{book_rounds}
use Rattle.driver.specs.Driver.{admit_answer}
use Rattle.driver.proofs.AnswerLaws.{rounds_some}
use Rattle.claims.specs.Built.{Built, book_in, key_rounds}
use Rattle.claims.specs.Demand3.{RoundsOfLea}
use Rattle.claims.proofs.BuiltLaws.{built_chain, built_book, built_found}

pub after_rounds : (z : KeySize) (rows : List (List ℕ)) (ch bk : List ℕ) → Chain z ch → Book (rounds z) rows ch (book_body bk) → admit_answer bk ≡ (0, Some z)
    → (b : List ℕ) → length b ≡ 16 → (n : ℕ) → 1 ≤ n → n ≤ rounds z → RoundsOfLea rows ch bk n b
after_rounds z rows ch bk v h found b l n p q =
    let e = rounds_some bk n b z found l q in
    (ap (λ (r : ℕ × List ℕ). r.0) e, ap (λ (r : ℕ × List ℕ). decoded (chain_set ch n) r.1) e ∙ book_rounds z rows ch (book_body bk) v h b n q)

-- for every schedule, key, chain and buffer with which a book is built
pub after_rounds_built : (schedule : ℕ) (key ch out held : List ℕ) → Built schedule key ch out held
    → (b : List ℕ) → length b ≡ 16 → (n : ℕ) → 1 ≤ n → n ≤ key_rounds key → RoundsOfLea (key_rows (schedule_of schedule) (key_size key) key) ch (book_in key held) n b
after_rounds_built schedule key ch out held h =
    after_rounds (key_size key) (key_rows (schedule_of schedule) (key_size key) key) ch (book_in key held) (built_chain schedule key ch out held h) (built_book schedule key ch out held h)
    (built_found schedule key ch out held h)
