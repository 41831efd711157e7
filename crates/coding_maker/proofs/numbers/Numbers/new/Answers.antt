-- `numbers::Numbers::new` meets its contract.
use Rattle.std.proofs.Common.{rules}
use Rattle.coding_maker.specs.Numbers.{number_table}
use Rattle.coding_maker.proofs.NumberLaws.{number_row}
use Rattle.coding_maker.proofs.numbers.Numbers.new.Goals as goal

pub invariant_of-result : goal.invariant_of-result
unfolding number_table
invariant_of-result c = record { made = c.in_parts.ensures number_row (λ p part left l e w. search rules) }
