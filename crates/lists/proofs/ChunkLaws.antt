-- Laws of `chunks`, lists of one length s put one after another: the length, an element, a chunk cut out; a tabulation is
-- made of chunks; an element of the second of two lists; the length and the entries of tables.
use mathlib.Core.Path.{◌≡◌, refl, sym, ap, ap₂, ◌∙◌}
use mathlib.Core.Logic.{⊎_elim}
use mathlib.Core.List.{List, [], ◌∷◌, ◌++◌, append_assoc, append-nil}
use Prim.Native.Nat.{ℕ, zero, suc, ◌+◌, ◌*◌, ◌/◌, ◌%◌, ◌≤◌, ◌<◌}
use native.Mathlib.Nat.{suc-mul, zero-mul, mul_comm, le_of_suc-le-suc, not-suc-le-zero, eq-or-lt_of_le, mul-le-mul_right, le_of_eq, le_refl}
use native.Mathlib.Numerals.{add-one}
use native.Mathlib.Omega.{arith}
use lib.ListN.{length, take, drop, get_or, length-append, length-drop, get_or-append}
use lib.Seq.{get_or-append-add, take-append-le, drop-append-le, drop_at, take_all}
use Rattle.lists.specs.Tabulation.{tab, chunks, tables}
use Rattle.lists.proofs.TabulationLaws.{length_tab, get_or_tab, tab_ext}

pub chunks_more : (n : ℕ) (g : ℕ → List ℕ) → chunks (n + 1) g ≡ chunks n g ++ g n
unfolding chunks
chunks_more n g = rw add-one

module _ (g : ℕ → List ℕ) (s : ℕ) (sized : (k : ℕ) → length (g k) ≡ s) where
  pub length_chunks : (n : ℕ) → length (chunks n g) ≡ n * s
  unfolding chunks
  length_chunks zero = sym (zero-mul s)
  length_chunks (suc n) = length-append (chunks n g) (g n) ∙ rw (length_chunks n, sized n) (sym (suc-mul n s))

  -- element i of chunk k
  pub get_or_chunks : (n k i : ℕ) → k < n → i < s → get_or (chunks n g) (k * s + i) 0 ≡ get_or (g k) i 0
  unfolding chunks
  get_or_chunks zero k i b b' = absurd (not-suc-le-zero b)
  get_or_chunks (suc n) k i b b' =
      ⊎_elim
      (λ (w : k ≡ n). rw (w, ← length_chunks n) (get_or-append-add (chunks n g) (g n) i 0))
      (λ (w : k < n).
      let room : suc k * s ≤ n * s = mul-le-mul_right s w in
      get_or-append (chunks n g) (g n) 0 (k * s + i) (omega (arith, length_chunks n, suc-mul k s, room))
      ∙ get_or_chunks n k i w b')
      (eq-or-lt_of_le (le_of_suc-le-suc b))

  -- chunk k, cut out
  pub chunk_at : (n k : ℕ) → k < n → take s (drop (k * s) (chunks n g)) ≡ g k
  unfolding chunks
  chunk_at zero k b = absurd (not-suc-le-zero b)
  chunk_at (suc n) k b =
      ⊎_elim
      (λ (w : k ≡ n). rw w (ap (take s) (drop_at (chunks n g) (g n) (n * s) (length_chunks n)) ∙ take_all s (g n) (le_of_eq (sized n))))
      (λ (w : k < n).
      let room : suc k * s ≤ n * s = mul-le-mul_right s w in
      let whole : length (chunks n g) ≡ n * s = length_chunks n in
      let e : suc k * s ≡ k * s + s = suc-mul k s in
      ap (take s) (drop-append-le (k * s) (chunks n g) (g n) (omega arith))
      ∙ take-append-le s (drop (k * s) (chunks n g)) (g n) (rw (length-drop (k * s) (chunks n g)) (omega arith))
      ∙ chunk_at n k w)
      (eq-or-lt_of_le (le_of_suc-le-suc b))

pub chunks_ext : (n : ℕ) (g h : ℕ → List ℕ) → ((k : ℕ) → k < n → g k ≡ h k) → chunks n g ≡ chunks n h
unfolding chunks
chunks_ext zero g h e = refl
chunks_ext (suc n) g h e = ap₂ {C = List ℕ} (λ (a b : List ℕ). a ++ b) (chunks_ext n g h (λ k l. e k (omega arith))) (e n (le_refl (suc n)))

-- a tabulation in two pieces, and in n pieces of s
pub tab_append : (m n : ℕ) (f : ℕ → ℕ) → tab (m + n) f ≡ tab m f ++ tab n (λ k. f (m + k))
unfolding tab
tab_append m zero f = let e : m + 0 ≡ m = omega arith in rw (e, append-nil)
tab_append m (suc n) f =
    let e : m + suc n ≡ suc (m + n) = omega arith in
    rw (e, tab_append m n f) (append_assoc (tab m f) (tab n (λ k. f (m + k))) (f (m + n) ∷ []))

tab_chunks : (n s : ℕ) (f : ℕ → ℕ) → tab (n * s) f ≡ chunks n (λ k. tab s (λ i. f (k * s + i)))
unfolding chunks
tab_chunks zero s f = rw (zero-mul s) (unfold tab in refl)
tab_chunks (suc n) s f =
    rw (suc-mul n s) (tab_append (n * s) s f ∙ ap (λ (l : List ℕ). l ++ tab s (λ i. f (n * s + i))) (tab_chunks n s f))

-- the same where the pieces have a rule of their own, by piece and place
pub tab_rows : (n s : ℕ) (f : ℕ → ℕ) (g : ℕ → ℕ → ℕ) → ((k i : ℕ) → k < n → i < s → f (k * s + i) ≡ g k i)
    → tab (n * s) f ≡ chunks n (λ k. tab s (g k))
tab_rows n s f g e =
    tab_chunks n s f
    ∙ chunks_ext n (λ k. tab s (λ i. f (k * s + i))) (λ k. tab s (g k)) (λ k l. tab_ext s (λ i. f (k * s + i)) (g k) (λ i m. e k i l m))

-- an element of the second of two lists, the first of length n
pub get_or_second : (a b : List ℕ) (n i k : ℕ) → length a ≡ n → n + i ≡ k → get_or (a ++ b) k 0 ≡ get_or b i 0
get_or_second a b n i k e h = ap (λ (m : ℕ). get_or (a ++ b) m 0) (sym h ∙ ap (λ (m : ℕ). m + i) (sym e)) ∙ get_or-append-add a b i 0

-- m tables of s numbers
module _ (m s : ℕ) (f : ℕ → ℕ → ℕ → ℕ) where
  each : (p : ℕ) → length (tab s (f (p / 8) (p % 8))) ≡ s
  each p = length_tab s (f (p / 8) (p % 8))

  pub length_tables : length (tables m s f) ≡ m * s
  unfolding tables
  length_tables = length_chunks (λ p. tab s (f (p / 8) (p % 8))) s each m

  -- entry n of table 8i + j
  pub get_or_tables : (i j n : ℕ) → j < 8 → 8 * i + j < m → n < s → get_or (tables m s f) (s * (8 * i + j) + n) 0 ≡ f i j n
  unfolding tables
  get_or_tables i j n hj hm hn =
      let a : (8 * i + j) / 8 ≡ i = omega arith in
      let b : (8 * i + j) % 8 ≡ j = omega arith in
      ap (λ (k : ℕ). get_or (chunks m (λ p. tab s (f (p / 8) (p % 8)))) (k + n) 0) (mul_comm s (8 * i + j))
      ∙ get_or_chunks (λ p. tab s (f (p / 8) (p % 8))) s each m (8 * i + j) n hm hn
      ∙ get_or_tab s (f ((8 * i + j) / 8) ((8 * i + j) % 8)) n hn
      ∙ ap₂ (λ (u v : ℕ). f u v n) a b
