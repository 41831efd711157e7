-- `seen_word` meets its contract.
use Rattle.std.proofs.Common.{bit_or, ◌∙◌, rules, arith}
use Rattle.std.proofs.lemmas.Iterator.{YieldsList-from_slice}
use Rattle.std.proofs.lemmas.Iterator.Consumers.{fold_from_yields_List}
use Rattle.seen.specs.SeenWord.{bit_of}
use Rattle.seen.proofs.SeenLaws.{seen_fold}
use Rattle.seen.proofs.seen_word.Goals as goal

pub returns : goal.returns
returns c =
    fold_from_yields_List _ (λ w x. bit_or w (bit_of 16 x)) 0 c.fold.result c.fold.ensures.ran (YieldsList-from_slice _ c.iter.ensures.rest) (λ w x b q k. search rules)
    ∙ seen_fold 16 c.args.s.now c.args.at 16 _ (omega arith) (omega arith)
