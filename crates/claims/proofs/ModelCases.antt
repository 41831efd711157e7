-- The answers of the model session, case by case. The cases exclude each other and leave none out.
use mathlib.Core.Path.{◌≡◌}
use mathlib.Core.Bool.{true, false}
use mathlib.Core.List.{List}
use Prim.Native.Nat.{ℕ, ◌≤◌, ◌<◌}
use borrow.Author.Tests.{eq-eqb, ne_eqb, le-leb, lt-leb, lt-ltb, le-ltb}
use lib.ListN.{length}
use Rattle.lists.specs.Refusals.{first}
use Rattle.cipher.specs.Coding.{Set}
use Rattle.claims.specs.Model.{block_call, last_call, accepted, tag, refused, State, refusals, block_taken, tag_of, last_taken, model_call}

module _ (E : List ℕ → List ℕ) (U S : Set) (m : List ℕ) (x : State) where
  pub model_block_7 : (length m ≡ 16 → ⊥) → model_call E U S (block_call m) x ≡ (refused 7, x)
  unfolding model_call refusals first
  model_block_7 h = rw (ne_eqb (length m) 16 h)

  pub model_last_7 : (k : ℕ) → (length m ≡ 16 → ⊥) → model_call E U S (last_call m k) x ≡ (refused 7, x)
  unfolding model_call refusals first
  model_last_7 k h = rw (ne_eqb (length m) 16 h)

  module _ (l : length m ≡ 16) where
    pub model_block_21 : x.ended ≡ true → model_call E U S (block_call m) x ≡ (refused 21, x)
    unfolding model_call refusals first
    model_block_21 d = rw (eq-eqb (length m) 16 l, d)

    pub model_block_22 : x.ended ≡ false → 65535 ≤ x.taken → model_call E U S (block_call m) x ≡ (refused 22, x)
    unfolding model_call refusals first
    model_block_22 d h = rw (eq-eqb (length m) 16 l, d, le-leb 65535 x.taken h)

    pub model_block : x.ended ≡ false → x.taken < 65535 → model_call E U S (block_call m) x ≡ (accepted, block_taken E U m x)
    unfolding model_call refusals first
    model_block d h = rw (eq-eqb (length m) 16 l, d, lt-leb 65535 x.taken h)

    pub model_last_10 : (k : ℕ) → 1 < k → model_call E U S (last_call m k) x ≡ (refused 10, x)
    unfolding model_call refusals first
    model_last_10 k h = rw (eq-eqb (length m) 16 l, lt-ltb 1 k h)

    pub model_last_21 : (k : ℕ) → k ≤ 1 → x.ended ≡ true → model_call E U S (last_call m k) x ≡ (refused 21, x)
    unfolding model_call refusals first
    model_last_21 k h d = rw (eq-eqb (length m) 16 l, le-ltb 1 k h, d)

    pub model_last : (k : ℕ) → k ≤ 1 → x.ended ≡ false → model_call E U S (last_call m k) x ≡ (tag (tag_of E U S m k x), last_taken x)
    unfolding model_call refusals first
    model_last k h d = rw (eq-eqb (length m) 16 l, le-ltb 1 k h, d)
