-- Which codings of a chain draw nothing, and by which coding the word rule fixes one.
use mathlib.Core.Path.{◌≡◌, refl, ◌∙◌}
use mathlib.Core.Bool.{Bool, true, false, ◌&&◌}
use Prim.Native.Nat.{ℕ, suc, ◌+◌, ◌-◌, ◌*◌, ◌/◌, ◌%◌, ◌≤◌, ◌<◌}
use native.Mathlib.Omega.{arith}
use borrow.Author.Tests.{le-leb, lt-leb, leb-true, ltb-true, eq-eqb, ne_eqb, eqb-true}
use lib.Dec.{leb, ltb, eqb}
use lib.ListN.{length}
use Rattle.lists.proofs.EveryLaws.{and_true}
use Rattle.maker.specs.Plan.{Plan, TwoWords, fixed_coding, source, given_coding}

and_false : (b : Bool) → b && false ≡ false
and_false true = refl
and_false false = refl

-- ---- codings

module _ (p : Plan) where
  coding_fixed : (k : ℕ) → 64 ≤ k → k % 32 / 8 ≡ p.to → fixed_coding p k ≡ true
  unfolding fixed_coding
  coding_fixed k a b = rw (le-leb 64 k a, eq-eqb (k % 32 / 8) p.to b)

  pub fixed_known : (k : ℕ) → fixed_coding p k ≡ true → (64 ≤ k) × (k % 32 / 8 ≡ p.to)
  unfolding fixed_coding
  fixed_known k e =
      let h = and_true (leb 64 k) (eqb (k % 32 / 8) p.to) e in
      (leb-true 64 k h.0, eqb-true (k % 32 / 8) p.to h.1)

  -- another word
  coding_free : (k : ℕ) → (k % 32 / 8 ≡ p.to → ⊥) → fixed_coding p k ≡ false
  unfolding fixed_coding
  coding_free k h = rw (ne_eqb (k % 32 / 8) p.to h) (and_false (leb 64 k))

  -- U and set 0
  pub coding_early : (k : ℕ) → k < 64 → fixed_coding p k ≡ false
  unfolding fixed_coding
  coding_early k h = rw (lt-leb 64 k h)

  pub given_known : (k : ℕ) → given_coding p k ≡ true → (32 ≤ k) × (k - 32 < length p.given / 16)
  unfolding given_coding
  given_known k e =
      let h = and_true (leb 32 k) (ltb (k - 32) (length p.given / 16)) e in
      (leb-true 32 k h.0, ltb-true (k - 32) (length p.given / 16) h.1)

  pub source_free : (k : ℕ) → fixed_coding p k ≡ false → source p k ≡ k
  unfolding source
  source_free k e = rw e

  pub source_fixed : (k : ℕ) → fixed_coding p k ≡ true → source p k ≡ k + 8 * p.from - (32 + 8 * p.to)
  unfolding source
  source_fixed k e = rw e

  module _ (w : TwoWords p.from p.to) where
    -- a coding that is fixed has a source that is not
    pub free_source : (k : ℕ) → fixed_coding p (source p k) ≡ false
    free_source k = go (fixed_coding p k) refl
      where
        go : (b : Bool) → fixed_coding p k ≡ b → fixed_coding p (source p k) ≡ false
        go true e =
            let h = fixed_known k e in
            rw (source_fixed k e) (coding_free (k + 8 * p.from - (32 + 8 * p.to)) (λ f. w.2 (omega (arith, w.0, w.1, h.0, h.1))))
        go false e = rw (source_free k e) e

    pub fixed_room : (k : ℕ) → fixed_coding p k ≡ true → (32 + 8 * p.to ≤ k + 8 * p.from) × (k + 8 * p.from - (32 + 8 * p.to) < k)
    fixed_room k e = let h = fixed_known k e in (omega (arith, w.0, w.1, h.0), omega (arith, w.0, w.1, h.0))

    pub source_lt : (k : ℕ) → fixed_coding p k ≡ true → source p k < k
    source_lt k e = rw (source_fixed k e) (fixed_room k e).1

    pub source_le : (k : ℕ) → source p k ≤ k
    source_le k = go (fixed_coding p k) refl
      where
        go : (b : Bool) → fixed_coding p k ≡ b → source p k ≤ k
        go true e = let h = source_lt k e in omega arith
        go false e = rw (source_free k e) (omega arith)

    -- word `to` of set l + 1 and word `from` of set l
    pub source_word : (l j : ℕ) → j < 8 → source p (32 * suc (suc l) + (8 * p.to + j)) ≡ source p (32 * suc l + (8 * p.from + j))
    source_word l j h =
        source_fixed (32 * suc (suc l) + (8 * p.to + j)) (coding_fixed (32 * suc (suc l) + (8 * p.to + j)) (omega arith) (omega (arith, w.1)))
        ∙ omega (arith, source_free (32 * suc l + (8 * p.from + j)) (coding_free (32 * suc l + (8 * p.from + j)) (λ f. w.2 (omega (arith, w.0)))))
