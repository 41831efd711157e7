-- `chain::words_kept` meets its contract.
use Rattle.std.proofs.Common.{ℕ, ◌+◌, ◌-◌, ◌*◌, length, take, drop, sym, refl, ◌∙◌, rules, arith}
use borrow.Author.Tests.{tests}
use Rattle.std.proofs.lemmas.Iterator.{YieldsList-from_range}
use Rattle.std.proofs.lemmas.Iterator.Search.{all_from_yields_List}
use Rattle.lists.proofs.EveryLaws.{every_ext}
use Rattle.lists.proofs.AllLaws.{all_below}
use Rattle.cipher.specs.Chain as C
use Rattle.cipher.proofs.CheckLaws.{word_turn}
use Rattle.cipher.proofs.chain.words_kept.Goals as goal

pub returns : goal.returns
unfolding C.words_kept
returns c =
    let a = c.args in
    let ch = a.chain.now in
    let part = λ (n : ℕ). take (length ch - 512 * n) (drop (512 * n) ch) in
    all_from_yields_List (λ l. C.word_kept a.from a.to (part (l + 1)) (part (l + 2))) _ _ c.all.result c.all.ensures.ran
    (YieldsList-from_range 0 a.r a.r refl (omega arith)) (λ x b q k. search (rules, tests))
    ∙ all_below a.r _
    ∙ every_ext a.r _ _ (λ l h. sym (word_turn a.from a.to ch l _ refl))
