-- A block taken through rounds of a book's body, round by round.
use mathlib.Core.Path.{◌≡◌, sym, ap, ◌∙◌}
use mathlib.Core.List.{List, []}
use Prim.Native.Nat.{ℕ, zero, suc, ◌+◌, ◌-◌, ◌*◌, ◌<◌}
use native.Mathlib.Numerals.{add-one}
use lib.ListN.{length, get_or, take, drop}
use lib.Seq.{drop-drop}
use Rattle.std.specs.Simd.{first_chunks}
use Rattle.lists.specs.Blocks.{Block}
use Rattle.lists.proofs.PartLaws.{part_end}
use Rattle.cipher.specs.Tables.{table_round, table_rounds}
use Rattle.cipher.specs.Book.{round_at}
use Rattle.cipher.proofs.CodingLaws.{block_halves}
use Rattle.cipher.proofs.RoundLaw.{after_lt}
use Rattle.lists.proofs.FirstChunks.{chunk_lent}
use Rattle.table_reader.proofs.FrontLaws.{round_front}

-- one round more, by the tables as they are lent: those at l of the parts that the rest of the book from 24592 on is made of
pub rounds_turn : (bk x y z : List ℕ) (cs : List (List ℕ)) (n k l : ℕ) → cs ≡ first_chunks 18432 k (take (length bk - 24592) (drop 24592 bk))
    → l < length (take n cs) → y ≡ table_rounds (round_at bk) l x → z ≡ table_round (get_or (take n cs) l []) y
    → z ≡ table_rounds (round_at bk) (l + 1) x
unfolding table_rounds
rounds_turn bk x y z cs n k l ec h ey ez =
    ez
    ∙ ap (λ (t : List ℕ). table_round t y)
    (chunk_lent 18432 n k l _ cs ec h
    ∙ ap (λ (b : List ℕ). take 18432 (drop (18432 * l) b)) (part_end bk 24592)
    ∙ ap (take 18432) (drop-drop (18432 * l) 24592 bk))
    ∙ round_front (round_at bk l) y
    ∙ ap (table_round (round_at bk l)) ey
    ∙ ap (λ (k : ℕ). table_rounds (round_at bk) k x) (sym (add-one l))

-- what rounds give is a block
pub block_table_rounds : (t : ℕ → List ℕ) (n : ℕ) (b : List ℕ) → Block b → Block (table_rounds t n b)
unfolding table_rounds table_round
block_table_rounds t zero b h = h
block_table_rounds t (suc n) b h = block_halves _ (after_lt (t n) (table_rounds t n b))

pub rounds_block : (bk x y : List ℕ) (l : ℕ) → Block x → y ≡ table_rounds (round_at bk) l x → Block y
rounds_block bk x y l h e = rw e (block_table_rounds (round_at bk) l x h)
