-- Words made byte by byte, side by side: what a loop has that makes byte m of each word in turn m.
use mathlib.Core.Path.{◌≡◌, refl, sym, ap, ◌∙◌}
use mathlib.Core.List.{List}
use Prim.Native.Nat.{ℕ, zero, suc, ◌+◌, ◌*◌, ◌/◌, ◌%◌, ◌≤◌, ◌<◌}
use native.Mathlib.Decide.{ℕ_discrete}
use native.Mathlib.Nat.{not-suc-le-zero}
use native.Mathlib.Omega.{arith}
use lib.ListN.{get_or, length, set, length-set}
use lib.Seq.{get_or-set_same}
use Rattle.lists.specs.Tabulation.{tab}
use Rattle.lists.proofs.TabulationLaws.{tab_is, get_or_tab}
use Rattle.cipher.specs.Coding.{block_half, of_halves}
use Rattle.table_reader.specs.Reading.{byte_of, three_words}
use Rattle.table_reader.proofs.ReadingLaws.{half_lo, half_hi, set_far, three, length_three, three_far, three_0, three_1, three_2, four}

-- words of the same half bytes have the same bytes
pub byte_same : (x y : ℕ → ℕ → ℕ) (i m : ℕ) → m < 4 → ((j : ℕ) → j < 8 → x i j ≡ y i j) → byte_of x i m ≡ byte_of y i m
byte_same x y i m hm e = rw (e (2 * m) (omega arith), e (2 * m + 1) (omega arith))

-- of n words in y the bytes below m are made by the rule f, and the others are those of x
pub record Columns (n : ℕ) (f : ℕ → ℕ → ℕ) (x : List ℕ) (m : ℕ) (y : List ℕ) : Type 0 where
  pub len : length y ≡ 4 * n
  pub made : (w k : ℕ) → w < n → k < m → get_or y (4 * w + k) 0 ≡ f w k
  pub old : (w k : ℕ) → w < n → m ≤ k → k < 4 → get_or y (4 * w + k) 0 ≡ get_or x (4 * w + k) 0

pub columns_first : (n : ℕ) (f : ℕ → ℕ → ℕ) (x : List ℕ) → length x ≡ 4 * n → Columns n f x 0 x
columns_first n f x h = record { len = h; made = λ w k hw l. absurd (not-suc-le-zero l); old = λ w k hw l hk. refl }

-- one byte of each word more
module _ (n : ℕ) (f : ℕ → ℕ → ℕ) (x y z : List ℕ) (m : ℕ) (hm : m < 4) (c : Columns n f x m y) (same : length z ≡ length y)
    (new : (w : ℕ) → w < n → get_or z (4 * w + m) 0 ≡ f w m) (far : (k : ℕ) → (k % 4 ≡ m → ⊥) → get_or z k 0 ≡ get_or y k 0) where
  columns_more : Columns n f x (m + 1) z
  columns_more = record {
    len = same ∙ c.len;
    made = λ w k hw l. go w k hw l (ℕ_discrete k m);
    old = λ w k hw l hk. far (4 * w + k) (λ e. omega arith) ∙ c.old w k hw (omega arith) hk;
  }
    where
      go : (w k : ℕ) → w < n → k < m + 1 → Dec (k ≡ m) → get_or z (4 * w + k) 0 ≡ f w k
      go w k hw l (yes e) = rw e (new w hw)
      go w k hw l (no e) = far (4 * w + k) (λ d. e (omega arith)) ∙ c.made w k hw (omega arith)

-- of three words, and of four
pub three_columns : (f : ℕ → ℕ → ℕ) (x y : List ℕ) (m u v w : ℕ) → m < 4 → Columns 3 f x m y
    → u ≡ f 0 m → v ≡ f 1 m → w ≡ f 2 m → Columns 3 f x (m + 1) (three y m u v w)
three_columns f x y m u v w hm c eu ev ew =
    columns_more 3 f x y (three y m u v w) m hm c (length_three y m u v w) new
    (λ k h. three_far y m u v w k (λ e. h (omega arith)) (λ e. h (omega arith)) (λ e. h (omega arith)))
  where
    new : (i : ℕ) → i < 3 → get_or (three y m u v w) (4 * i + m) 0 ≡ f i m
    new zero h = let e : 4 * 0 + m ≡ m = omega arith in rw e (three_0 y m u v w (omega (arith, c.len)) ∙ eu)
    new (suc zero) h = let e : 4 * 1 + m ≡ m + 4 = omega arith in rw e (three_1 y m u v w (omega (arith, c.len)) ∙ ev)
    new (suc (suc zero)) h = let e : 4 * 2 + m ≡ m + 8 = omega arith in rw e (three_2 y m u v w (omega (arith, c.len)) ∙ ew)
    new (suc (suc (suc i))) h = absurd (omega arith)

pub four_columns : (f : ℕ → ℕ → ℕ) (x y : List ℕ) (m u v w o : ℕ) → m < 4 → Columns 4 f x m y
    → u ≡ f 0 m → v ≡ f 1 m → w ≡ f 2 m → o ≡ f 3 m → Columns 4 f x (m + 1) (four y m u v w o)
unfolding four
four_columns f x y m u v w o hm c eu ev ew eo =
    columns_more 4 f x y (three z m u v w) m hm c (length_three z m u v w ∙ length-set y (m + 12) o) new
    (λ k h. three_far z m u v w k (λ e. h (omega arith)) (λ e. h (omega arith)) (λ e. h (omega arith)) ∙ set_far y (m + 12) k o (λ e. h (omega arith)))
  where
    z : List ℕ
    z = set y (m + 12) o

    zl : length z ≡ 16
    zl = length-set y (m + 12) o ∙ c.len

    new : (i : ℕ) → i < 4 → get_or (three z m u v w) (4 * i + m) 0 ≡ f i m
    new zero h = let e : 4 * 0 + m ≡ m = omega arith in rw e (three_0 z m u v w (omega (arith, zl)) ∙ eu)
    new (suc zero) h = let e : 4 * 1 + m ≡ m + 4 = omega arith in rw e (three_1 z m u v w (omega (arith, zl)) ∙ ev)
    new (suc (suc zero)) h = let e : 4 * 2 + m ≡ m + 8 = omega arith in rw e (three_2 z m u v w (omega (arith, zl)) ∙ ew)
    new (suc (suc (suc zero))) h =
        let e : 4 * 3 + m ≡ m + 12 = omega arith in
        rw e (three_far z m u v w (m + 12) (λ d. omega arith) (λ d. omega arith) (λ d. omega arith)
        ∙ get_or-set_same y (m + 12) o 0 (omega (arith, c.len))
        ∙ eo)
    new (suc (suc (suc (suc i)))) h = absurd (omega arith)

-- all bytes
columns_full : (n : ℕ) (f : ℕ → ℕ → ℕ) (x y : List ℕ) (m : ℕ) → m ≡ 4 → Columns n f x m y → y ≡ tab (4 * n) (λ k. f (k / 4) (k % 4))
columns_full n f x y m e c =
    sym (tab_is (4 * n) (λ k. f (k / 4) (k % 4)) y c.len (λ k l.
    let q : 4 * (k / 4) + k % 4 ≡ k = omega arith in
    sym (c.made (k / 4) (k % 4) (omega arith) (omega arith)) ∙ ap (λ (o : ℕ). get_or y o 0) q))

pub three_full : (x : ℕ → ℕ → ℕ) (s y : List ℕ) (m : ℕ) → m ≡ 4 → Columns 3 (byte_of x) s m y → y ≡ three_words x
unfolding three_words
three_full x s y m e c = columns_full 3 (byte_of x) s y m e c

pub four_full : (x : ℕ → ℕ → ℕ) (s y : List ℕ) (m : ℕ) → m ≡ 4 → Columns 4 (byte_of x) s m y → y ≡ of_halves x
unfolding of_halves
four_full x s y m e c = columns_full 4 (byte_of x) s y m e c

-- the half bytes of three words are those that they were made of
pub three_half : (x : ℕ → ℕ → ℕ) → ((i j : ℕ) → x i j < 16) → (i j : ℕ) → i < 3 → j < 8 → block_half (three_words x) i j ≡ x i j
unfolding three_words
three_half x low i j hi hj = go (j % 2) refl
  where
    at : (m : ℕ) → m < 4 → get_or (tab 12 (λ k. byte_of x (k / 4) (k % 4))) (4 * i + m) 0 ≡ byte_of x i m
    at m h =
        let e : (4 * i + m) / 4 ≡ i = omega arith in
        let f : (4 * i + m) % 4 ≡ m = omega arith in
        get_or_tab 12 (λ k. byte_of x (k / 4) (k % 4)) (4 * i + m) (omega arith) ∙ rw (e, f)

    go : (e : ℕ) → j % 2 ≡ e → block_half (three_words x) i j ≡ x i j
    go zero e =
        let f : j ≡ 2 * (j / 2) = omega arith in
        let a = low i (2 * (j / 2)) in
        rw f (half_lo (three_words x) i (j / 2) ∙ rw (at (j / 2) (omega arith)) (omega arith))
    go (suc zero) e =
        let f : j ≡ 2 * (j / 2) + 1 = omega arith in
        let a = low i (2 * (j / 2)) in
        let d = low i (2 * (j / 2) + 1) in
        rw f (half_hi (three_words x) i (j / 2) ∙ rw (at (j / 2) (omega arith)) (omega arith))
    go (suc (suc z)) e = absurd (omega arith)
