-- `mac::last_words` meets its contract.
use mathlib.Core.Path.{ap₂, ◌∙◌}
use borrow.Author.Rules.{rules}
use Rattle.lists.proofs.BlockLaws.{bytes_of_lem}
use Rattle.words.specs.Word.{xor_words}
use Rattle.archive.proofs.MacLaws.{last_whole, last_part}
use Rattle.archive.proofs.mac.last_words.Goals as goal

pub returns-then-part-eq-BLOCK : goal.returns-then-part-eq-BLOCK
returns-then-part-eq-BLOCK c =
    let k = c.args.keys in
    let part = bytes_of_lem c.args.part.now (λ j h. search rules) in
    let under = c.xor.ensures ∙ ap₂ xor_words c.words.ensures c.words-then-part-eq-BLOCK.ensures in
    last_whole k.k1 k.k2 c.args.part.now _ _ c.filled-b.ensures part c.requires.1.bytes c.if-part-eq-BLOCK.true under

pub returns : goal.returns
returns c =
    let k = c.args.keys in
    let part = bytes_of_lem c.args.part.now (λ j h. search rules) in
    let under = c.xor-2.ensures ∙ ap₂ xor_words c.words-2.ensures c.words-3.ensures in
    last_part k.k1 k.k2 c.args.part.now _ _ c.filled-b.ensures part c.requires.2.bytes c.if-part-eq-BLOCK.false under
