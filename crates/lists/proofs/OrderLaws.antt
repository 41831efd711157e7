-- The law of an order of refusals: where a list of tests follows an order of numbers, the number that is given is the first of the order
-- that applies, and none is given exactly where none applies.
use mathlib.Core.Path.{◌≡◌, refl, sym, ap, ◌∙◌}
use mathlib.Core.Bool.{Bool, true, false, cond, not, ◌&&◌, ◌||◌, true≢false}
use mathlib.Core.List.{List, [], ◌∷◌}
use mathlib.Core.Option.{Option, none, some, Option-elim, none-ne-some, some-injective}
use Prim.Native.Nat.{ℕ}
use native.Mathlib.Decide.{ℕ_discrete}
use borrow.Author.Tests.{eqb-true, eq-eqb, ne_eqb, not-true}
use lib.Dec.{eqb}
use Rattle.lists.specs.Refusals.{first, given, applies, stands_in, stands_before, none_before, follows, FirstOf, GoesBy}
use Rattle.lists.proofs.EveryLaws.{and_true}
use Rattle.lists.proofs.RefusalLaws.{first_map}

-- ---- an order

-- nothing stands before itself
not_itself : (order : List ℕ) (n : ℕ) → stands_before order n n ≡ false
unfolding stands_before
not_itself [] n = refl
not_itself (k ∷ ks) n = go (eqb k n) (not_itself ks n)
  where
    go : (b : Bool) → stands_before ks n n ≡ false → cond b false (b || stands_before ks n n) ≡ false
    go true h = refl
    go false h = h

-- of two that stand in it, one stands before the other
one_before : (order : List ℕ) (m n : ℕ) → stands_in order m ≡ true → stands_in order n ≡ true → (m ≡ n → ⊥) → stands_before order m n ≡ false → stands_before order n m ≡ true
unfolding stands_in stands_before
one_before [] m n hm hn d h = absurd (true≢false (sym hm))
one_before (k ∷ ks) m n hm hn d h = go (eqb k m) (eqb k n) refl refl hm hn h (one_before ks m n)
  where
    go : (a b : Bool) → eqb k m ≡ a → eqb k n ≡ b → a || stands_in ks m ≡ true → b || stands_in ks n ≡ true → cond b false (a || stands_before ks m n) ≡ false
        → (stands_in ks m ≡ true → stands_in ks n ≡ true → (m ≡ n → ⊥) → stands_before ks m n ≡ false → stands_before ks n m ≡ true)
        → cond a false (b || stands_before ks n m) ≡ true
    go true true p q hm hn h later = absurd (d (sym (eqb-true k m p) ∙ eqb-true k n q))
    go true false p q hm hn h later = absurd (true≢false h)
    go false true p q hm hn h later = refl
    go false false p q hm hn h later = later hm hn d h

-- ---- tests that apply

-- one test more, of another number
passed_over : (a b c : Bool) → b ≡ false → c ≡ false → (a && b) || c ≡ false
passed_over true b c e f = rw (e, f)
passed_over false b c e f = f

none_given : (ts : List (Bool × ℕ)) → given ts ≡ none → (n : ℕ) → applies ts n ≡ false
unfolding first applies
none_given [] e n = refl
none_given ((true, k) ∷ ts) e n = absurd (none-ne-some k (sym e))
none_given ((false, k) ∷ ts) e n = none_given ts e n

none_applies : (ts : List (Bool × ℕ)) → ((n : ℕ) → applies ts n ≡ false) → given ts ≡ none
unfolding first applies
none_applies [] h = refl
none_applies ((true, k) ∷ ts) h = absurd (true≢false (sym (ap (λ (b : Bool). b || applies ts k) (eq-eqb k k refl)) ∙ h k))
none_applies ((false, k) ∷ ts) h = none_applies ts h

-- ---- tests that follow an order

module _ (order : List ℕ) where
  -- what stands before n is no number of the later tests
  later_none : (m n : ℕ) → stands_before order m n ≡ true → (ts : List (Bool × ℕ)) → none_before order n ts ≡ true → applies ts m ≡ false
  unfolding none_before applies
  later_none m n s [] h = refl
  later_none m n s (t ∷ ts) h =
      let p = and_true (not (stands_before order t.1 n)) (none_before order n ts) h in
      let no_such : t.1 ≡ m → ⊥ = λ q. true≢false (sym s ∙ ap (λ (k : ℕ). stands_before order k n) (sym q) ∙ not-true (stands_before order t.1 n) p.0) in
      passed_over t.0 (eqb t.1 m) (applies ts m) (ne_eqb t.1 m no_such) (later_none m n s ts p.1)

  -- a number that applies stands in the order
  applies_stands : (n : ℕ) (ts : List (Bool × ℕ)) → follows order ts ≡ true → applies ts n ≡ true → stands_in order n ≡ true
  unfolding follows applies
  applies_stands n [] f h = absurd (true≢false (sym h))
  applies_stands n (t ∷ ts) f h =
      let p = and_true (stands_in order t.1) (none_before order t.1 ts && follows order ts) f in
      let q = and_true (none_before order t.1 ts) (follows order ts) p.1 in
      go t.0 (eqb t.1 n) refl h p.0 (applies_stands n ts q.1)
    where
      go : (a b : Bool) → eqb t.1 n ≡ b → (a && b) || applies ts n ≡ true → stands_in order t.1 ≡ true
          → (applies ts n ≡ true → stands_in order n ≡ true) → stands_in order n ≡ true
      go true true e w p later = ap (stands_in order) (sym (eqb-true t.1 n e)) ∙ p
      go true false e w p later = later w
      go false b e w p later = later w

  given_first : (ts : List (Bool × ℕ)) (n : ℕ) → follows order ts ≡ true → given ts ≡ some n → FirstOf order ts n
  unfolding first applies follows
  given_first [] n f e = absurd (none-ne-some n e)
  given_first ((true, k) ∷ ts) n f e =
      let q : k ≡ n = some-injective k n e in
      let p = (and_true (stands_in order k) (none_before order k ts && follows order ts) f).1 in
      let none_later = (and_true (none_before order k ts) (follows order ts) p).0 in
      let no_such : (m : ℕ) → stands_before order m n ≡ true → k ≡ m → ⊥ = λ m s d. true≢false (sym s ∙ ap (stands_before order m) (sym q ∙ d) ∙ not_itself order m) in
      record {
        itself = ap (λ (b : Bool). b || applies ts n) (eq-eqb k n q);
        before = λ m s. passed_over true (eqb k m) (applies ts m) (ne_eqb k m (no_such m s))
            (later_none m k (ap (stands_before order m) q ∙ s) ts none_later);
      }
  given_first ((false, k) ∷ ts) n f e =
      let p = (and_true (stands_in order k) (none_before order k ts && follows order ts) f).1 in
      let r = given_first ts n (and_true (none_before order k ts) (follows order ts) p).1 e in
      record { itself = r.itself; before = r.before }

  first_given : (ts : List (Bool × ℕ)) (n : ℕ) → follows order ts ≡ true → FirstOf order ts n → given ts ≡ some n
  first_given ts n f h = go (given ts) refl
    where
      go : (o : Option ℕ) → given ts ≡ o → given ts ≡ some n
      go none e = absurd (true≢false (sym h.itself ∙ none_given ts e n))
      go (some k) e = same (ℕ_discrete k n)
        where
          other : FirstOf order ts k → (k ≡ n → ⊥) → (b : Bool) → stands_before order k n ≡ b → ⊥
          other g d true s = true≢false (sym g.itself ∙ h.before k s)
          other g d false s =
              let w = one_before order k n (applies_stands k ts f g.itself) (applies_stands n ts f h.itself) d s in
              true≢false (sym h.itself ∙ g.before n w)

          same : Dec (k ≡ n) → given ts ≡ some n
          same (yes q) = e ∙ ap {B = Option ℕ} some q
          same (no d) = absurd (other (given_first ts k f e) d (stands_before order k n) refl)

  pub goes_by : (ts : List (Bool × ℕ)) → follows order ts ≡ true → GoesBy order ts
  goes_by ts f = record {
    answer = λ refuse go. unfold Option-elim in sym (first_map (λ (o : Option ℕ). Option-elim o go refuse) ts some none);
    number = λ n. (given_first ts n f, first_given ts n f);
    nothing = (none_given ts, none_applies ts);
  }
