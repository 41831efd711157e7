-- The remarks as they are given to the writer, one after another: those from remark i on are remark i and those behind it.
use mathlib.Core.Path.{◌≡◌, refl, sym, ap, ◌∙◌}
use mathlib.Core.List.{List, [], ◌∷◌, ◌++◌}
use Prim.Native.Nat.{ℕ, zero, suc, ◌+◌, ◌-◌, ◌≤◌, ◌<◌}
use native.Mathlib.Numerals.{add-one}
use native.Mathlib.Omega.{arith}
use denote.Ref.{Bor}
use lib.Seq.{drop-nil}
use lib.ListN.{length, get_or, take, drop, length-append, drop_of_length-le, get_or-map}
use Rattle.std.specs.List.{sum_by}
use Rattle.std.proofs.lemmas.List.Sums.{sum_by-cons}
use Rattle.lists.specs.Overlay.{overlaid}
use Rattle.lists.specs.Refusals.{first}
use Rattle.lists.proofs.OverlayLaws.{nothing_overlaid, two_overlaid}
use Rattle.inkfile.specs.Kinds.{fault_of}
use Rattle.inkfile.specs.Format.{Record, record_of, run_of}
use Rattle.inkfile.specs.Writing.{run_tests, remarks_of}
use Rattle.inkfile.specs.WritingSteps.{lent, remarks_bytes, remarks_size}
use Rattle.inkfile.proofs.RecordLaws.{length_record}
use Rattle.inkfile.proofs.FaultLaws.{run_here, run_behind, run_ninth}

-- a body, as the code finds it
pub body_here : (bs : List (Bor (List ℕ))) (i : ℕ) (b : Bor (List ℕ)) → ((d : Bor (List ℕ)) → b ≡ get_or bs i d) → b.now ≡ get_or (lent bs) i []
body_here bs i b h =
    let none : Bor (List ℕ) = record { ref_ptr = (0, 0); now = [] } in
    ap (λ (b : Bor (List ℕ)). b.now) (h none) ∙ sym (get_or-map (λ (b : Bor (List ℕ)). b.now) bs i none)

-- there are as many as there are kinds
pub length_given : (kinds : List ℕ) (bodies : List (List ℕ)) → length (remarks_of kinds bodies) ≡ length kinds
unfolding remarks_of
length_given [] bodies = refl
length_given (k ∷ kinds) [] = ap suc (length_given kinds [])
length_given (k ∷ kinds) (b ∷ bodies) = ap suc (length_given kinds bodies)

pub few_kinds : (kinds : List ℕ) (bodies : List (List ℕ)) → length (remarks_of kinds bodies) ≤ 4 → length kinds ≤ 4
few_kinds kinds bodies h = omega (arith, length_given kinds bodies)

-- as many bytes as their bodies, with a head each
front_size : (kinds : List ℕ) (bodies : List (Bor (List ℕ))) → length kinds ≤ length bodies
    → sum_by (λ (b : Bor (List ℕ)). 6 + length b.now) (take (length kinds) bodies) ≡ remarks_size (remarks_of kinds (lent bodies))
unfolding run_of remarks_of
front_size [] bodies h = refl
front_size (k ∷ kinds) [] h = absurd (omega arith)
front_size (k ∷ kinds) (b ∷ bodies) h =
    sum_by-cons (λ (b : Bor (List ℕ)). 6 + length b.now) b (take (length kinds) bodies)
    ∙ ap (λ (n : ℕ). 6 + length b.now + n) (front_size kinds bodies (omega arith))
    ∙ ap (λ (n : ℕ). n + remarks_size (remarks_of kinds (lent bodies))) (sym (length_record (k, b.now)))
    ∙ sym (length-append (record_of (k, b.now)) (remarks_bytes (remarks_of kinds (lent bodies))))

module _ (kinds : List ℕ) (bodies : List (Bor (List ℕ))) (h : length kinds ≤ length bodies) where
  as_added : sum_by (λ (b : Bor (List ℕ)). 6 + length b.now) (take (length kinds - 0) bodies) ≡ remarks_size (remarks_of kinds (lent bodies))
  as_added =
      let z : length kinds - 0 ≡ length kinds = omega arith in
      ap (λ (n : ℕ). sum_by (λ (b : Bor (List ℕ)). 6 + length b.now) (take n bodies)) z ∙ front_size kinds bodies h

  pub added_most : (m : ℕ) → remarks_size (remarks_of kinds (lent bodies)) ≤ m → sum_by (λ (b : Bor (List ℕ)). 6 + length b.now) (take (length kinds - 0) bodies) ≤ m
  added_most m l = omega (arith, as_added)

  pub added : (n : ℕ) → n ≡ sum_by (λ (b : Bor (List ℕ)). 6 + length b.now) (take (length kinds - 0) bodies) → n ≡ remarks_size (remarks_of kinds (lent bodies))
  added n e = e ∙ as_added

-- the remarks from remark i on
abbrev pub from_on : List ℕ → List (List ℕ) → ℕ → List Record
from_on kinds bodies i = remarks_of (drop i kinds) (drop i bodies)

split : (kinds : List ℕ) (bodies : List (List ℕ)) (i : ℕ) → i < length kinds
    → from_on kinds bodies i ≡ (get_or kinds i 0, get_or bodies i []) ∷ from_on kinds bodies (suc i)
unfolding remarks_of
split [] bodies i h = absurd (omega arith)
split (k ∷ kinds) [] zero h = refl
split (k ∷ kinds) (b ∷ bodies) zero h = refl
split (k ∷ kinds) [] (suc i) h =
    ap (λ (l : List (List ℕ)). remarks_of (drop i kinds) l) (sym (drop-nil i)) ∙ split kinds [] i (omega arith)
    ∙ (λ j. (get_or kinds i 0, []) ∷ remarks_of (drop (suc i) kinds) [])
split (k ∷ kinds) (b ∷ bodies) (suc i) h = split kinds bodies i (omega arith)

module _ (kinds : List ℕ) (bodies : List (List ℕ)) (i : ℕ) where
  pub none_left : length kinds ≤ i → from_on kinds bodies i ≡ []
  unfolding remarks_of
  none_left h = ap (λ (l : List ℕ). remarks_of l (drop i bodies)) (drop_of_length-le kinds h)

  -- remark i is there, with a body
  module _ (h : i < length kinds) (b : List ℕ) (e : b ≡ get_or bodies i []) where
    pub one_left : from_on kinds bodies i ≡ (get_or kinds i 0, b) ∷ from_on kinds bodies (i + 1)
    one_left = split kinds bodies i h ∙ (λ j. (get_or kinds i 0, sym e j) ∷ from_on kinds bodies (sym (add-one i) j))

    -- its fault
    tests_left : first (run_tests (4 + i) ((get_or kinds i 0, b) ∷ from_on kinds bodies (i + 1))) (λ q. q) 0 ≡ first (run_tests (4 + i) (from_on kinds bodies i)) (λ q. q) 0
    tests_left = ap (λ (rs : List Record). first (run_tests (4 + i) rs) (λ q. q) 0) (sym one_left)

    pub fault_left : (q : ℕ) → 0 < q → q ≡ fault_of (4 + i) (get_or kinds i 0) (length b) → q ≡ first (run_tests (4 + i) (from_on kinds bodies i)) (λ q. q) 0
    fault_left q p f = run_here (4 + i) (get_or kinds i 0, b) (from_on kinds bodies (i + 1)) q p f ∙ tests_left

    pub no_fault_left : 0 ≡ fault_of (4 + i) (get_or kinds i 0) (length b)
        → first (run_tests (4 + (i + 1)) (from_on kinds bodies (i + 1))) (λ q. q) 0 ≡ first (run_tests (4 + i) (from_on kinds bodies i)) (λ q. q) 0
    no_fault_left f =
        let z : 4 + (i + 1) ≡ suc (4 + i) = omega arith in
        ap (λ (k : ℕ). first (run_tests k (from_on kinds bodies (i + 1))) (λ q. q) 0) z
        ∙ run_behind (4 + i) (get_or kinds i 0, b) (from_on kinds bodies (i + 1)) f ∙ tests_left

    pub fifth_left : i ≡ 4 → 30 ≡ first (run_tests (4 + i) (from_on kinds bodies i)) (λ q. q) 0
    fifth_left e = run_ninth (4 + i) (get_or kinds i 0, b) (from_on kinds bodies (i + 1)) (omega arith) ∙ tests_left

-- none is left at the end
pub fault_none_left : (kinds : List ℕ) (bodies : List (List ℕ)) (i k : ℕ) → length kinds ≤ i → first (run_tests k (from_on kinds bodies i)) (λ q. q) 0 ≡ 0
unfolding run_tests first
fault_none_left kinds bodies i k h = ap (λ (rs : List Record). first (run_tests k rs) (λ q. q) 0) (none_left kinds bodies i h)

-- ---- remarks that are left to be written, the first of them and those behind it

pub one_given : (ks kinds : List ℕ) (bs bodies : List (Bor (List ℕ))) (k : ℕ) (b : Bor (List ℕ)) → ks ≡ k ∷ kinds → bs ≡ b ∷ bodies
    → remarks_of ks (lent bs) ≡ (k, b.now) ∷ remarks_of kinds (lent bodies)
unfolding remarks_of
one_given ks kinds bs bodies k b e h = λ i. remarks_of (e i) (lent (h i))

pub none_given : (ks : List ℕ) (bodies : List (List ℕ)) → length ks ≡ 0 → remarks_of ks bodies ≡ []
unfolding remarks_of
none_given [] bodies e = refl
none_given (k ∷ ks) bodies e = absurd (omega arith)

module _ (rs behind : List Record) (r : Record) (e : rs ≡ r ∷ behind) where
  -- its bytes in a file, and how many
  run_left : run_of rs ≡ record_of r ++ run_of behind
  unfolding run_of
  run_left = ap run_of e

  pub size_left : length (run_of rs) ≡ 6 + length r.1 + length (run_of behind)
  size_left =
      ap length run_left ∙ length-append (record_of r) (run_of behind)
      ∙ ap (λ (n : ℕ). n + length (run_of behind)) (length_record r)

  -- written over a buffer, it leaves those behind it
  pub put_left : (out o1 : List ℕ) (at n : ℕ) → n ≡ at + 6 + length r.1 → o1 ≡ overlaid out at (record_of r) → n ≤ length out
      → overlaid o1 n (run_of behind) ≡ overlaid out at (run_of rs)
  put_left out o1 at n en eo h =
      let l = length_record r in
      ap (λ (o : List ℕ). overlaid o n (run_of behind)) eo
      ∙ two_overlaid out at (record_of r) (run_of behind) n (omega arith) (omega arith)
      ∙ ap (overlaid out at) (sym run_left)

pub put_none : (out : List ℕ) (at : ℕ) (rs : List Record) → rs ≡ [] → overlaid out at (run_of rs) ≡ out
unfolding run_of
put_none out at rs e = sym (nothing_overlaid out at (run_of rs) (ap run_of e))
