-- `block::code_block` meets its contract.
use Rattle.std.proofs.Common.{get_or, sym, ◌∙◌, rules}
use Rattle.lists.proofs.FromFnLaws.{tab_from_fn}
use Rattle.cipher.specs.Coding.{byte_coded}
use Rattle.cipher.proofs.InverseLaws.{coded_each}
use Rattle.cipher.proofs.block.code_block.Goals as goal

pub returns : goal.returns
returns c =
    let a = c.args in
    tab_from_fn _ _ _ (λ k. byte_coded a.set.now k (get_or a.b k 0)) 16 (λ i y q b w. search rules) c.from_fn.ensures.items
    ∙ sym (coded_each a.set.now a.b)
