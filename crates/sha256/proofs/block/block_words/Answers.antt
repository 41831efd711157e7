-- `block::block_words` meets its contract. The invariant: k words are read.
use Rattle.std.proofs.Common.{ℕ, ◌*◌, List, ◌++◌, replicate, refl, ap, ◌∙◌, arith}
use Rattle.lists.specs.Tabulation.{tab}
use Rattle.lists.proofs.PartLaws.{fill_turn, fill_full}
use Rattle.sha256.specs.Sha256.{big_word_at, block}
use Rattle.sha256.proofs.block.block_words.Goals as goal

pub loop-k-init : goal.loop-k-init
unfolding tab
loop-k-init c = (omega arith, refl)

pub loop-k-preserved : goal.loop-k-preserved
loop-k-preserved c =
    (omega arith, fill_turn (λ j. big_word_at c.padded-p.result (4 * j)) 16 _ _ _ c.loop-k.invariant.1 c.big_word_at.ensures (omega arith))

pub returns : goal.returns
unfolding block
returns c =
    ap (λ (w : List ℕ). w ++ replicate 48 0) (fill_full (λ j. big_word_at c.padded-p.result (4 * j)) 16 _ _ c.loop-k.invariant.1 (omega arith))
    ∙ ap (λ (p : List ℕ). block p 0 ++ replicate 48 0) c.padded-p.ensures
