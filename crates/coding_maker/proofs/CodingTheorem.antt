-- What is claimed of codings from random bytes (specs/Laws).
use mathlib.Core.Path.{sym, ◌∙◌}
use mathlib.Core.List.{List}
use Prim.Native.Nat.{ℕ}
use Rattle.coding_maker.specs.Draw.{coding_from, coding_draws}
use Rattle.coding_maker.specs.Laws.{ComesOut, IsCoding, CodingLaws}
use Rattle.coding_maker.proofs.CodingDrawn.{coding_drawn, bytes_for, length_bytes, coding_bytes_lem, coding_reached, draws_reached}

every_coding : (x : List ℕ) → IsCoding x → ComesOut coding_draws coding_from x
every_coding x h = record {
  from = bytes_for x;
  bytes = coding_bytes_lem x h;
  all = λ more. draws_reached x h more ∙ sym (length_bytes x h);
  made = coding_reached x h;
}

pub coding_laws : CodingLaws
coding_laws = record { coding = coding_drawn; every_coding = every_coding }
