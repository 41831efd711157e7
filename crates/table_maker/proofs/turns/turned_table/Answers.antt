-- `turns::turned_table` meets its contract.
use Rattle.std.proofs.Common.{◌≡◌, ℕ, List, ◌+◌, ap₂, ◌∙◌, rules}
use Rattle.lists.specs.Tabulation.{tab}
use Rattle.lists.proofs.FromFnLaws.{tab_from_fn}
use Rattle.table_maker.specs.Made.{upper_parts, lower_parts}
use Rattle.table_maker.specs.Rows.{table_by}
use Rattle.table_maker.proofs.MadeLaws.{turn_fits}
use Rattle.table_maker.proofs.turns.turned_table.Goals as goal

pub table-requires : goal.table-requires
table-requires c =
    let p = c.args in
    let a : c.from_fn-a.result ≡ tab 16 (upper_parts p.s.now p.upper p.i) =
    tab_from_fn _ _ _ (upper_parts p.s.now p.upper p.i) 16 (λ i y q b w. search rules) c.from_fn-a.ensures.items in
    let b : c.from_fn-b.result ≡ tab 16 (lower_parts p.s.now p.lower p.i) =
    tab_from_fn _ _ _ (lower_parts p.s.now p.lower p.i) 16 (λ i y q b w. search rules) c.from_fn-b.ensures.items in
    turn_fits p.s.now _ _ p.coding.now _ p.i p.upper p.lower a b c.requires.2 c.requires.3 c.requires.4

pub returns : goal.returns
returns c =
    let p = c.args in
    c.table.ensures
    ∙ ap₂ (λ (a b : List ℕ). table_by ◌+◌ p.coding.now a b)
    (tab_from_fn _ _ _ (upper_parts p.s.now p.upper p.i) 16 (λ i y q b w. search rules) c.from_fn-a.ensures.items)
    (tab_from_fn _ _ _ (lower_parts p.s.now p.lower p.i) 16 (λ i y q b w. search rules) c.from_fn-b.ensures.items)
