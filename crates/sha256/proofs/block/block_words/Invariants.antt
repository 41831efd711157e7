-- `block::block_words` meets its contract. The invariant: k words are read.
use Rattle.std.proofs.Common.{◌≡◌, ◌-◌, ◌*◌, ◌≤◌, ◌++◌, replicate}
use Rattle.lists.specs.Tabulation.{tab}
use Rattle.sha256.specs.Sha256.{big_word_at}
use Rattle.sha256.proofs.block.block_words.Given as goal

abbrev pub invariant-loop-k : goal.invariant-loop-k
invariant-loop-k l = (l.k ≤ 16) × (l.x-items ≡ tab l.k (λ j. big_word_at l.p (4 * j)) ++ replicate (16 - l.k) 0)
