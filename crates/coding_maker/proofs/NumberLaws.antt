-- The table of what each byte stands for: its rows, one turn of the loops that fill it, and what a look-up in it says.
use mathlib.Core.Path.{◌≡◌, sym, ap, ◌∙◌}
use mathlib.Core.List.{List, ◌++◌}
use Prim.Native.Nat.{ℕ, ◌+◌, ◌-◌, ◌*◌, ◌%◌, ◌≤◌, ◌<◌, zero-le}
use native.Mathlib.Nat.{mod-lt, add-mod_right}
use native.Mathlib.Decide.{dec_lt}
use native.Mathlib.Omega.{arith}
use borrow.Author.Tests.{le-leb, lt-leb}
use lib.ListN.{length, get_or, drop, length-append, length-drop, get_or-append}
use lib.Seq.{ext_get_or, get_or-drop}
use Rattle.lists.specs.Tabulation.{tab, chunks}
use Rattle.lists.proofs.TabulationLaws.{length_tab, get_or_tab}
use Rattle.lists.proofs.ChunkLaws.{get_or_chunks, get_or_second}
use Rattle.coding_maker.specs.Draw.{limit}
use Rattle.coding_maker.specs.Numbers.{stands_for, number_table}

-- ---- remainders

pub remainder_again : (k b : ℕ) → k < b → (b - (k + 1)) % (k + 1) ≡ b % (k + 1)
remainder_again k b h =
    let e : b - (k + 1) + (k + 1) ≡ b = omega arith in
    sym (add-mod_right (b - (k + 1)) (k + 1)) ∙ ap (λ (n : ℕ). n % (k + 1)) e

-- what a loop has written of f so far
pub filled_at : (f : ℕ → ℕ) (d₀ d : List ℕ) (n i : ℕ) → d ≡ tab n f ++ drop n d₀ → i < n → get_or d i 0 ≡ f i
filled_at f d₀ d n i e h =
    ap (λ (x : List ℕ). get_or x i 0) e ∙ get_or-append (tab n f) (drop n d₀) 0 i (rw (length_tab n f) h) ∙ get_or_tab n f i h

-- ---- what a byte stands for

stands_under : (k b : ℕ) → b < limit k → stands_for k b ≡ b % (k + 1)
unfolding stands_for
stands_under k b h = rw (lt-leb (limit k) b h)

stands_over : (k b : ℕ) → limit k ≤ b → stands_for k b ≡ 16
unfolding stands_for
stands_over k b h = rw (le-leb (limit k) b h)

-- a number below 16: the byte is not skipped, and this is its remainder
pub stands_low : (k b : ℕ) → stands_for k b < 16 → (b < limit k) × (stands_for k b ≡ b % (k + 1))
stands_low k b h = go (dec_lt b (limit k))
  where
    go : Dec (b < limit k) → (b < limit k) × (stands_for k b ≡ b % (k + 1))
    go (yes d) = (d, stands_under k b d)
    go (no d) = let e = stands_over k b (omega arith) in absurd (omega arith)

-- and not below 16: it is skipped
pub stands_high : (k b : ℕ) → k < 16 → 16 ≤ stands_for k b → limit k ≤ b
stands_high k b hk h = go (dec_lt b (limit k))
  where
    go : Dec (b < limit k) → limit k ≤ b
    go (yes d) = let e = stands_under k b d in let m = mod-lt b {m = k + 1} (omega arith) in absurd (omega arith)
    go (no d) = omega arith

-- ---- the table

abbrev pub number_row : ℕ → List ℕ
number_row k = tab 256 (stands_for k)

pub length_row : (k : ℕ) → length (number_row k) ≡ 256
length_row k = length_tab 256 (stands_for k)

-- the remainders below the limit of k
abbrev remainders : ℕ → List ℕ
remainders k = tab (limit k) (λ b. b % (k + 1))

-- a row that held the mark of a skipped byte everywhere, filled up to the limit
pub row_is : (k : ℕ) (d : List ℕ) → length d ≡ 256 → ((i : ℕ) → i < 256 → get_or d i 0 ≡ 16) → tab (limit k) (λ b. b % (k + 1)) ++ drop (limit k) d ≡ number_row k
row_is k d l held = ext_get_or 0 (remainders k ++ drop (limit k) d) (number_row k) (size ∙ sym (length_row k)) (λ b h. at b (rw size at h) (dec_lt b (limit k)))
  where
    size : length (remainders k ++ drop (limit k) d) ≡ 256
    size = length-append (remainders k) (drop (limit k) d) ∙ rw (length_tab (limit k) (λ b. b % (k + 1)), length-drop (limit k) d, l) (omega arith)

    at : (b : ℕ) → b < 256 → Dec (b < limit k) → get_or (remainders k ++ drop (limit k) d) b 0 ≡ get_or (number_row k) b 0
    at b h (yes u) =
        get_or-append (remainders k) (drop (limit k) d) 0 b (rw (length_tab (limit k) (λ b. b % (k + 1))) u)
        ∙ get_or_tab (limit k) (λ b. b % (k + 1)) b u
        ∙ sym (stands_under k b u)
        ∙ sym (get_or_tab 256 (stands_for k) b h)
    at b h (no u) =
        get_or_second (remainders k) (drop (limit k) d) (limit k) (b - limit k) b (length_tab (limit k) (λ b. b % (k + 1))) (omega arith)
        ∙ get_or-drop (limit k) d (b - limit k) 0
        ∙ held (limit k + (b - limit k)) (omega arith)
        ∙ sym (stands_over k b (omega arith))
        ∙ sym (get_or_tab 256 (stands_for k) b h)

-- what a row holds that is filled with the mark
pub filled : (n : ℕ) (d : List ℕ) → n ≡ 256 → ((k v : ℕ) → 0 ≤ k → k < n - 1 → get_or d k v ≡ 16) → ((v : ℕ) → get_or d (n - 1) v ≡ 16) → (i : ℕ) → i < 256 → get_or d i 0 ≡ 16
filled n d e low last i h = go (dec_lt i (n - 1))
  where
    go : Dec (i < n - 1) → get_or d i 0 ≡ 16
    go (yes b) = low i 0 zero-le b
    go (no b) = let f : i ≡ n - 1 = omega arith in ap (λ (k : ℕ). get_or d k 0) f ∙ last 0

-- byte b in the row of k
pub number_at : (k b : ℕ) → k < 16 → b < 256 → get_or number_table (256 * k + b) 0 ≡ stands_for k b
unfolding number_table
number_at k b hk hb =
    let e : 256 * k + b ≡ k * 256 + b = omega arith in
    ap (λ (i : ℕ). get_or (chunks 16 number_row) i 0) e ∙ get_or_chunks number_row 256 length_row 16 k b hk hb ∙ get_or_tab 256 (stands_for k) b hb
