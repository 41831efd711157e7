-- `chain::check_set` meets its contract.
use Rattle.std.proofs.Common.{sym, ◌∙◌}
use Rattle.cipher.proofs.CheckLaws.{set_length_wrong, set_coding_wrong, set_right}
use Rattle.cipher.proofs.chain.check_set.Goals as goal

pub returns-then-set-ne-SET : goal.returns-then-set-ne-SET
returns-then-set-ne-SET c = sym (set_length_wrong _ c.if-set-ne-SET.true)

pub returns-then-not-are_permutations : goal.returns-then-not-are_permutations
returns-then-not-are_permutations c = sym (set_coding_wrong _ c.if-set-ne-SET.false (sym c.are_permutations.ensures ∙ c.if-not-are_permutations.true))

pub returns : goal.returns
returns c = sym (set_right _ c.if-set-ne-SET.false (sym c.are_permutations.ensures ∙ c.if-not-are_permutations.false))
