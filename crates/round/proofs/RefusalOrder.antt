-- Lowest number first: the tests of an input follow document 01's order of refusals, as their numbers show.
use mathlib.Core.Path.{refl}
use mathlib.Core.List.{List}
use Prim.Native.Nat.{ℕ}
use Rattle.lists.specs.Refusals.{stands_in, stands_before, none_before, follows, GoesBy}
use Rattle.lists.proofs.OrderLaws.{goes_by}
use Rattle.cipher.specs.Chain.{chain_tests_by}
use Rattle.cipher.specs.Refusal.{refusal_order}
use Rattle.round.specs.Round.{input_tests}

pub input_order : (i : List ℕ) → GoesBy refusal_order (input_tests i)
unfolding follows stands_in stands_before none_before chain_tests_by
input_order i = goes_by refusal_order (input_tests i) refl
