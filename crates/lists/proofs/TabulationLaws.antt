-- Laws of `tab`: its length, its elements, and when two tabulations, or a tabulation and a list, are equal.
use mathlib.Core.Path.{◌≡◌, refl, sym, ◌∙◌}
use mathlib.Core.Logic.{⊎_elim}
use mathlib.Core.List.{List, [], ◌∷◌, ◌++◌}
use Prim.Native.Nat.{ℕ, zero, suc, ◌+◌, ◌<◌}
use native.Mathlib.Nat.{le_of_suc-le-suc, not-suc-le-zero, eq-or-lt_of_le}
use native.Mathlib.Numerals.{add-one}
use native.Mathlib.Omega.{arith}
use native.Mathlib.Decide.{dec_lt}
use lib.ListN.{length, get_or, replicate, length-append, get_or-append, get_or-eq_default}
use lib.Seq.{get_or_at, ext_get_or}
use Rattle.lists.specs.Tabulation.{tab}
use Rattle.lists.specs.Blocks.{Below}

pub tab_more : (n : ℕ) (f : ℕ → ℕ) → tab (n + 1) f ≡ tab n f ++ (f n ∷ [])
unfolding tab
tab_more n f = rw add-one

pub length_tab : (n : ℕ) (f : ℕ → ℕ) → length (tab n f) ≡ n
unfolding tab
length_tab zero f = refl
length_tab (suc n) f = length-append (tab n f) (f n ∷ []) ∙ rw (length_tab n f) (add-one n)

pub get_or_tab : (n : ℕ) (f : ℕ → ℕ) (k : ℕ) → k < n → get_or (tab n f) k 0 ≡ f k
unfolding tab
get_or_tab zero f k h = absurd (not-suc-le-zero h)
get_or_tab (suc n) f k h =
    ⊎_elim
    (λ (w : k ≡ n). rw w (get_or_at (tab n f) (f n) [] 0 n (length_tab n f)))
    (λ (w : k < n). get_or-append (tab n f) (f n ∷ []) 0 k (rw (length_tab n f) w) ∙ get_or_tab n f k w)
    (eq-or-lt_of_le (le_of_suc-le-suc h))

-- a list is the tabulation of its elements
pub tab_is : (n : ℕ) (f : ℕ → ℕ) (l : List ℕ) → length l ≡ n → ((k : ℕ) → k < n → f k ≡ get_or l k 0) → tab n f ≡ l
tab_is n f l e h =
    ext_get_or 0 (tab n f) l (length_tab n f ∙ sym e) (λ k b.
    let m : k < n = rw (length_tab n f) at b in
    get_or_tab n f k m ∙ h k m)

pub tab_ext : (n : ℕ) (f g : ℕ → ℕ) → ((k : ℕ) → k < n → f k ≡ g k) → tab n f ≡ tab n g
tab_ext n f g h = tab_is n f (tab n g) (length_tab n g) (λ k b. h k b ∙ sym (get_or_tab n g k b))

pub tab_below : (b n : ℕ) (f : ℕ → ℕ) → 0 < b → ((k : ℕ) → k < n → f k < b) → Below b (tab n f)
tab_below b n f p h k = go (dec_lt k n)
  where
    go : Dec (k < n) → get_or (tab n f) k 0 < b
    go (yes m) = rw (get_or_tab n f k m) (h k m)
    go (no m) = rw (get_or-eq_default (tab n f) 0 {n = k} (rw (length_tab n f) (omega arith))) p

-- `d` again and again, past the end too (the library's `get_or-replicate` asks for a place in the list)
pub get_d_replicate : (n d k : ℕ) → get_or (replicate n d) k d ≡ d
get_d_replicate zero d k = refl
get_d_replicate (suc n) d zero = refl
get_d_replicate (suc n) d (suc k) = get_d_replicate n d k

-- behind a list they are not seen
pub get_or_filled : (l : List ℕ) (n d k : ℕ) → get_or (l ++ replicate n d) k d ≡ get_or l k d
get_or_filled [] n d k = get_d_replicate n d k
get_or_filled (x ∷ l) n d zero = refl
get_or_filled (x ∷ l) n d (suc k) = get_or_filled l n d k
