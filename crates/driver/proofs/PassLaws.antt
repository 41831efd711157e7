-- A fold and all rounds of a book's body together.
use mathlib.Core.Path.{◌≡◌, sym, ap, ap₂, ◌∙◌}
use mathlib.Core.List.{List, []}
use Prim.Native.Nat.{ℕ, ◌-◌, ◌*◌, ◌/◌, ◌<◌}
use native.Mathlib.Omega.{arith}
use lib.ListN.{length, get_or, take, drop, length-drop}
use lib.Seq.{drop-drop}
use Rattle.std.specs.Simd.{first_chunks}
use Rattle.lists.specs.Blocks.{Block}
use Rattle.lists.proofs.PartLaws.{part_end}
use Rattle.cipher.specs.KeySize.{rounds}
use Rattle.cipher.specs.Tables.{table_rounds, table_fold}
use Rattle.cipher.specs.Book.{group_at, round_at}
use Rattle.cipher.specs.declared.size.KeySize.{KeySize}
use Rattle.cipher.proofs.CodingLaws.{block_halves}
use Rattle.cipher.proofs.FoldLaw.{fold_lt}
use Rattle.lists.proofs.FirstChunks.{chunk_is}
use Rattle.table_reader.proofs.FrontLaws.{fold_front}
use Rattle.table_reader.proofs.RoundLaws.{block_table_rounds}
use Rattle.driver.specs.Driver.{body_length, rounds_of, pass}

-- the rounds of a body of a known length
pub rounds_known : (z : KeySize) (bk : List ℕ) → length bk ≡ body_length z → rounds_of bk ≡ rounds z
unfolding rounds_of
rounds_known z bk e = omega arith

-- a fold by group g, which is that of the parts that the rest of the body from 16 on is made of, and then all rounds
pub pass_is : (z : KeySize) (bk x m f y : List ℕ) (cs : List (List ℕ)) (g r : ℕ) → g < 3 → length bk ≡ body_length z → r ≡ rounds z
    → (let p = take (length bk - 16) (drop 16 bk) in cs ≡ first_chunks 8192 (length p / 8192) p)
    → f ≡ table_fold (get_or cs g []) x m → y ≡ table_rounds (round_at bk) r f → y ≡ pass bk g x m
unfolding pass
pass_is z bk x m f y cs g r hg e er ec ef ey =
    ey
    ∙ ap₂ (table_rounds (round_at bk)) (er ∙ sym (rounds_known z bk e))
    (ef
    ∙ ap (λ (t : List ℕ). table_fold t x m)
    (chunk_is 8192 _ g _ cs ec (rw (part_end bk 16, length-drop 16 bk) (omega arith))
    ∙ ap (λ (b : List ℕ). take 8192 (drop (8192 * g) b)) (part_end bk 16)
    ∙ ap (take 8192) (drop-drop (8192 * g) 16 bk))
    ∙ fold_front (group_at bk g) x m)

-- what folds and passes give are blocks
pub block_fold : (t x m : List ℕ) → Block (table_fold t x m)
unfolding table_fold
block_fold t x m = block_halves _ (fold_lt t x m)

pub block_pass : (bk : List ℕ) (g : ℕ) (x m : List ℕ) → Block (pass bk g x m)
unfolding pass
block_pass bk g x m = block_table_rounds (round_at bk) (rounds_of bk) (table_fold (group_at bk g) x m) (block_fold (group_at bk g) x m)
