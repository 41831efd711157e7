-- `ink::numbers` meets its contract.
use Rattle.std.proofs.Common.{ℕ, [], ◌∷◌, sym}
use lib.ListN.{get_or-map}
use Rattle.inkfile.specs.declared.read.Record.{Record}
use Rattle.bowlinette.specs.Ink.{ink_numbers}
use Rattle.bowlinette.proofs.ink.numbers.Goals as goal

pub returns : goal.returns
unfolding ink_numbers
returns c =
    let t = c.args.ink in
    let zero : Record = record { kind = 0; offset = 0; length = 0 } in
    let k = λ (n : ℕ). sym (get_or-map (λ (r : Record). r.kind) t.remarks n zero) in
    let o = λ (n : ℕ). sym (get_or-map (λ (r : Record). r.offset) t.remarks n zero) in
    let l = λ (n : ℕ). sym (get_or-map (λ (r : Record). r.length) t.remarks n zero) in
    λ i. t.pad_number ∷ t.iv ∷ t.sealed ∷ t.sealed_length ∷ t.tag ∷ t.count
    ∷ k 0 i ∷ k 1 i ∷ k 2 i ∷ k 3 i ∷ o 0 i ∷ o 1 i ∷ o 2 i ∷ o 3 i ∷ l 0 i ∷ l 1 i ∷ l 2 i ∷ l 3 i ∷ []
