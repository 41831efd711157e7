-- `read::length_at` meets its contract.
use Rattle.std.proofs.Common.{◌≡◌, ◌+◌, get_or, ◌∙◌, arith}
use Rattle.words.specs.Word.{word, word_at}
use Rattle.inkfile.specs.Reading.{length_at}
use Rattle.inkfile.proofs.read.length_at.Goals as goal

pub returns : goal.returns
unfolding word_at length_at
returns c =
    let file = c.args.file.now in
    let at = c.args.at in
    let b : at + 2 + 1 ≡ at + 3 = omega arith in
    let d : at + 2 + 2 ≡ at + 4 = omega arith in
    let e : at + 2 + 3 ≡ at + 5 = omega arith in
    c.word_at.ensures ∙ (λ i. word (get_or file (at + 2) 0) (get_or file (b i) 0) (get_or file (d i) 0) (get_or file (e i) 0))
