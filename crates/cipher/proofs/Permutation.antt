-- Laws of one-to-one functions on the first numbers: there is none into fewer (the pigeonhole principle); so a permutation
-- has every value, and decoding and coding undo each other, both ways round.
use Rattle.std.proofs.Common.{◌≡◌, ℕ, zero, suc, ◌+◌, ◌<◌, ◌≤◌, Bool, true, false, cond, eqb, ◌≢◌, ◌⊎◌}
use Rattle.std.proofs.Common.{List, length, get_or, set, sym, refl, ap, ◌∙◌, ap₂, inl, inr, suc-le-suc, zero-le, le_of_suc-le-suc, not-suc-le-zero, zero-lt-suc, eq-or-lt_of_le, arith, get_or-set_other, get_or-set_same, eqb-true}
use native.Mathlib.Nat.{suc_inj}
use native.Mathlib.Decide.{ℕ_discrete}
use borrow.Author.Tests.{eqb-false}
use Rattle.lists.specs.Tabulation.{tab}
use Rattle.lists.proofs.TabulationLaws.{tab_is}
use Rattle.cipher.specs.Coding.{OneToOne, Permutation, place_of, decode}

-- ---- the pigeonhole principle

-- x, with m replaced by t
moved : (m t x : ℕ) → Dec (x ≡ m) → ℕ
moved m t x (yes e) = t
moved m t x (no e) = x

moved_lt : (m t x : ℕ) (d : Dec (x ≡ m)) → t < suc m → x < suc m → (x ≡ m → t ≢ m) → moved m t x d < m
unfolding moved
moved_lt m t x (yes e) ht hx k = let z = k e in omega arith
moved_lt m t x (no e) ht hx k = omega arith

moved_once : (m t x y : ℕ) (d : Dec (x ≡ m)) (e : Dec (y ≡ m)) → t ≢ x → t ≢ y → moved m t x d ≡ moved m t y e → x ≡ y
unfolding moved
moved_once m t x y (yes d) (yes e) hx hy h = omega arith
moved_once m t x y (yes d) (no e) hx hy h = omega arith
moved_once m t x y (no d) (yes e) hx hy h = omega arith
moved_once m t x y (no d) (no e) hx hy h = h

pub pigeonhole : (m : ℕ) (f : ℕ → ℕ) → OneToOne (suc m) m f → ⊥
pigeonhole zero f h = not-suc-le-zero (h.low zero (zero-lt-suc zero))
pigeonhole (suc m) f h =
    pigeonhole m (λ i. moved m (f zero) (f (suc i)) (ℕ_discrete (f (suc i)) m)) (record {
      low = λ i k. moved_lt m (f zero) (f (suc i)) (ℕ_discrete (f (suc i)) m) (h.low zero (zero-lt-suc (suc m))) (h.low (suc i) (suc-le-suc k))
          (λ e t. apart i k (t ∙ sym e));
      once = λ i j k l e. suc_inj (h.once (suc i) (suc j) (suc-le-suc k) (suc-le-suc l)
          (moved_once m (f zero) (f (suc i)) (f (suc j)) (ℕ_discrete (f (suc i)) m) (ℕ_discrete (f (suc j)) m) (apart i k) (apart j l) e));
    })
  where
    apart : (i : ℕ) → i < suc m → f zero ≢ f (suc i)
    apart i k e = let z = h.once zero (suc i) (zero-lt-suc (suc m)) (suc-le-suc k) e in omega arith

-- ---- the place of a value

place_le : (f : ℕ → ℕ) (n v : ℕ) → place_of f n v ≤ n
unfolding place_of
place_le f zero v = zero-le
place_le f (suc n) v = go (eqb (f zero) v) (place_le (λ i. f (suc i)) n v)
  where
    go : (b : Bool) {r : ℕ} → r ≤ n → cond b zero (suc r) ≤ suc n
    go true h = zero-le
    go false h = suc-le-suc h

-- a place below n has the value
place_found : (f : ℕ → ℕ) (n v : ℕ) → place_of f n v < n → f (place_of f n v) ≡ v
unfolding place_of
place_found f zero v h = absurd (not-suc-le-zero h)
place_found f (suc n) v h = go (eqb (f zero) v) refl (place_found (λ i. f (suc i)) n v) h
  where
    go : (b : Bool) → eqb (f zero) v ≡ b → {r : ℕ} → (r < n → f (suc r) ≡ v) → cond b zero (suc r) < suc n → f (cond b zero (suc r)) ≡ v
    go true e k h = eqb-true (f zero) v e
    go false e k h = k (le_of_suc-le-suc h)

-- and it is the first
place_first : (f : ℕ → ℕ) (n v i : ℕ) → i < n → f i ≡ v → place_of f n v ≤ i
unfolding place_of
place_first f zero v i h e = absurd (not-suc-le-zero h)
place_first f (suc n) v zero h e = go (eqb (f zero) v) refl
  where
    go : (b : Bool) → eqb (f zero) v ≡ b → cond b zero (suc (place_of (λ i. f (suc i)) n v)) ≤ zero
    go true d = zero-le
    go false d = absurd (eqb-false (f zero) v d e)
place_first f (suc n) v (suc i) h e = go (eqb (f zero) v) (place_first (λ i. f (suc i)) n v i (le_of_suc-le-suc h) e)
  where
    go : (b : Bool) {r : ℕ} → r ≤ i → cond b zero (suc r) ≤ suc i
    go true k = zero-le
    go false k = suc-le-suc k

place_ext : (f g : ℕ → ℕ) (n v : ℕ) → ((i : ℕ) → i < n → f i ≡ g i) → place_of f n v ≡ place_of g n v
unfolding place_of
place_ext f g zero v h = refl
place_ext f g (suc n) v h =
    ap₂ (λ (x y : ℕ). cond (eqb x v) zero (suc y)) (h zero (zero-lt-suc n))
    (place_ext (λ i. f (suc i)) (λ i. g (suc i)) n v (λ i k. h (suc i) (suc-le-suc k)))

module _ (n : ℕ) (f : ℕ → ℕ) (h : OneToOne n n f) where
  place_of_lem : (i : ℕ) → i < n → place_of f n (f i) ≡ i
  place_of_lem i k =
      let l = place_first f n (f i) i k refl in
      let b : place_of f n (f i) < n = omega arith in
      h.once (place_of f n (f i)) i b k (place_found f n (f i) b)

  -- were v no value of f, f with v in front would be one to one on n + 1 numbers
  ahead : ℕ → ℕ → ℕ
  ahead v zero = v
  ahead v (suc i) = f i

  ahead_once : (v : ℕ) → v < n → ((i : ℕ) → i < n → f i ≢ v) → OneToOne (suc n) n (ahead v)
  unfolding ahead
  ahead_once v l a = record { low = low; once = once }
    where
      low : (i : ℕ) → i < suc n → ahead v i < n
      low zero k = l
      low (suc i) k = h.low i (le_of_suc-le-suc k)

      once : (i j : ℕ) → i < suc n → j < suc n → ahead v i ≡ ahead v j → i ≡ j
      once zero zero k m e = refl
      once zero (suc j) k m e = absurd (a j (le_of_suc-le-suc m) (sym e))
      once (suc i) zero k m e = absurd (a i (le_of_suc-le-suc k) e)
      once (suc i) (suc j) k m e = ap suc (h.once i j (le_of_suc-le-suc k) (le_of_suc-le-suc m) e)

  -- every number below n is a value
  place_below : (v : ℕ) → v < n → place_of f n v < n
  place_below v l = go (eq-or-lt_of_le (place_le f n v))
    where
      go : (place_of f n v ≡ n) ⊎ (place_of f n v < n) → place_of f n v < n
      go (inr k) = k
      go (inl e) =
          absurd (pigeonhole n (ahead v) (ahead_once v l (λ i k d.
          let q = place_first f n v i k d in
          omega arith)))

-- ---- coding and decoding a half byte

module _ (f : ℕ → ℕ) (h : Permutation f) where
  pub decode_lt : (v : ℕ) → v < 16 → decode f v < 16
  unfolding decode
  decode_lt v k = place_below 16 f h v k

  pub decode_code : (v : ℕ) → v < 16 → decode f (f v) ≡ v
  unfolding decode
  decode_code v k = place_of_lem 16 f h v k

  pub code_decode : (v : ℕ) → v < 16 → f (decode f v) ≡ v
  unfolding decode
  code_decode v k = place_found f 16 v (place_below 16 f h v k)

  -- a list that holds v at the place f v, for every v, is the table of decoded values
  pub inverse_is : (t : List ℕ) → length t ≡ 16 → ((v : ℕ) → v < 16 → get_or t (f v) 0 ≡ v) → tab 16 (decode f) ≡ t
  inverse_is t e a =
      tab_is 16 (decode f) t e (λ k l.
      sym (a (decode f k) (decode_lt k l)) ∙ ap (λ (x : ℕ). get_or t x 0) (code_decode k l))

  -- so a loop that puts each v at the place f v makes that table: one turn
  pub placed_turn : (t : List ℕ) (v x : ℕ) → length t ≡ 16 → v < 16 → x ≡ f v → ((w : ℕ) → w < v → get_or t (f w) 0 ≡ w)
      → (w : ℕ) → w < v + 1 → get_or (set t x v) (f w) 0 ≡ w
  placed_turn t v x e b r a w l = rw r (go (ℕ_discrete w v))
    where
      go : Dec (w ≡ v) → get_or (set t (f v) v) (f w) 0 ≡ w
      go (yes d) = rw d (get_or-set_same t (f v) v 0 (rw e (h.low v b)))
      go (no d) = get_or-set_other t (f v) (f w) v 0 (λ q. d (h.once w v (omega arith) b q)) ∙ a w (omega arith)

-- decoding looks at the values below 16 alone
pub decode_ext : (f g : ℕ → ℕ) (v : ℕ) → ((i : ℕ) → i < 16 → f i ≡ g i) → decode f v ≡ decode g v
unfolding decode
decode_ext f g v h = place_ext f g 16 v h

-- so does being one to one
pub once_ext : (n m : ℕ) (f g : ℕ → ℕ) → ((i : ℕ) → i < n → f i ≡ g i) → OneToOne n m f → OneToOne n m g
once_ext n m f g e h = record {
  low = λ i l. rw (sym (e i l)) (h.low i l);
  once = λ i k l a d. h.once i k l a (e i l ∙ d ∙ sym (e k a));
}
