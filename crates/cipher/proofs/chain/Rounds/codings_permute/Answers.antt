-- `chain::Rounds::codings_permute` meets its contract.
use Rattle.std.proofs.Common.{sym, ◌∙◌}
use Rattle.cipher.specs.Chain.{coding_rule_holds}
use Rattle.cipher.proofs.chain.Rounds.codings_permute.Goals as goal

pub returns-then-not-are_permutations : goal.returns-then-not-are_permutations
unfolding coding_rule_holds
returns-then-not-are_permutations c = rw (sym c.are_permutations.ensures ∙ c.if-not-are_permutations.true)

pub returns : goal.returns
unfolding coding_rule_holds
returns c = rw (sym c.are_permutations.ensures ∙ c.if-not-are_permutations.false) c.middles_permute.ensures
