-- `chain::is_permutation` meets its contract, by the law of the seen word's count.
use Rattle.std.proofs.Common.{◌∙◌}
use Rattle.cipher.specs.Coding.{coding_at}
use Rattle.cipher.proofs.SeenCounts.{count_tested}
use Rattle.cipher.proofs.chain.is_permutation.Goals as goal

pub returns : goal.returns
returns c =
    let a = c.args in
    c.all_seen.ensures ∙ count_tested 16 16 (coding_at a.s.now a.k)
