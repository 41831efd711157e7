-- `invert::invert` meets its contract.
use Rattle.std.proofs.Common.{rules}
use Rattle.lists.specs.Tabulation.{tab}
use Rattle.cipher.specs.Coding.{coding_at, decode, inverted}
use Rattle.cipher.proofs.invert.invert.Goals as goal

pub returns : goal.returns
unfolding inverted
returns c = c.in_parts.ensures (λ i. tab 16 (decode (coding_at c.args.codings.now i))) (λ p part left l e w. search rules)
