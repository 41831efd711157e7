-- Refusals (document 01, "Refusals from the input" and "from the state"): of the numbers that apply the lowest is
-- given, and a number only where its condition holds. An operation's refusals are a list of tests, each with its
-- number, in the order of the numbers; the first test that applies decides.
use Rattle.std.specs.Prelude.{◌≡◌, ◌↔◌, Bool, true, false, cond, not, ◌&&◌, ◌||◌, List, [], ◌∷◌, ℕ, eqb}
use Rattle.std.proofs.Math.Option.{Option, none, some, Option-elim}

-- the answer to the first test that applies, or, where none does, `go`
unfoldable pub first : {A : Type 0} → List (Bool × ℕ) → (ℕ → A) → A → A
first [] refuse go = go
first (t ∷ ts) refuse go = cond t.0 (refuse t.1) (first ts refuse go)

-- the number that is given, or none
abbrev pub given : List (Bool × ℕ) → Option ℕ
given ts = first ts some none

-- some test with the number n applies
unfoldable pub applies : List (Bool × ℕ) → ℕ → Bool
applies [] n = false
applies (t ∷ ts) n = (t.0 && eqb t.1 n) || applies ts n

-- ---- an order of numbers, as a list

-- n stands in it; and m stands in it before n
unfoldable pub stands_in : List ℕ → ℕ → Bool
stands_in [] n = false
stands_in (k ∷ ks) n = eqb k n || stands_in ks n

unfoldable pub stands_before : List ℕ → ℕ → ℕ → Bool
stands_before [] m n = false
stands_before (k ∷ ks) m n = cond (eqb k n) false (eqb k m || stands_before ks m n)

-- the number of no test stands before n
unfoldable pub none_before : List ℕ → ℕ → List (Bool × ℕ) → Bool
none_before order n [] = true
none_before order n (t ∷ ts) = not (stands_before order t.1 n) && none_before order n ts

-- a list of tests follows an order: the number of each test stands in it, and that of no later test before it
unfoldable pub follows : List ℕ → List (Bool × ℕ) → Bool
follows order [] = true
follows order (t ∷ ts) = stands_in order t.1 && (none_before order t.1 ts && follows order ts)

-- n is the first number of the order that applies: a test with it does, and none with a number before it
pub record FirstOf (order : List ℕ) (ts : List (Bool × ℕ)) (n : ℕ) : Type 0 where
  pub itself : applies ts n ≡ true
  pub before : (m : ℕ) → stands_before order m n ≡ true → applies ts m ≡ false

-- the refusals of a list of tests go by an order: what is answered goes by the number that is given alone; a number is given exactly
-- where it is the first of the order that applies, and none exactly where none applies
pub record GoesBy (order : List ℕ) (ts : List (Bool × ℕ)) : Type 1 where
  pub answer : {A : Type 0} (refuse : ℕ → A) (go : A) → first ts refuse go ≡ Option-elim (given ts) go refuse
  pub number : (n : ℕ) → (given ts ≡ some n) ↔ FirstOf order ts n
  pub nothing : (given ts ≡ none) ↔ ((n : ℕ) → applies ts n ≡ false)
