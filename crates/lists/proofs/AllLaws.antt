-- What `all` of an iterator answers, as `every`: over a range of numbers, and over the elements of a slice.
use Rattle.std.proofs.Common.{◌≡◌, ℕ, zero, suc, ◌+◌, Bool, ◌&&◌, List, [], ◌∷◌, length, get_or, refl, sym, ap, ◌∙◌, arith}
use mathlib.Core.Bool.{and-true, and_assoc}
use Rattle.std.specs.List.{list_all, range_with_len}
use Rattle.lists.specs.Every.{every}
use Rattle.lists.proofs.EveryLaws.{every_ext}

-- the first test, and the others
pub every_front : (n : ℕ) (p : ℕ → Bool) → every (suc n) p ≡ p 0 && every n (λ k. p (suc k))
unfolding every
every_front zero p = sym (and-true (p 0))
every_front (suc n) p =
    ap (λ (b : Bool). b && p (suc n)) (every_front n p) ∙ and_assoc (p 0) (every n (λ k. p (suc k))) (p (suc n))

all_range : (n a : ℕ) (p : ℕ → Bool) → list_all p (range_with_len a n) ≡ every n (λ k. p (a + k))
unfolding every
all_range zero a p = refl
all_range (suc n) a p =
    ap (λ (b : Bool). p a && b) (all_range n (a + 1) p ∙ every_ext n (λ k. p (a + 1 + k)) (λ k. p (a + suc k)) (λ i h. ap p (omega arith)))
    ∙ ap (λ (x : ℕ). p x && every n (λ k. p (a + suc k))) (omega arith)
    ∙ sym (every_front n (λ k. p (a + k)))

pub all_below : (n : ℕ) (p : ℕ → Bool) → list_all p (range_with_len 0 n) ≡ every n p
all_below n p = all_range n 0 p ∙ every_ext n (λ k. p (0 + k)) p (λ i h. ap p (omega arith))

pub all_items : (s : List ℕ) (p : ℕ → Bool) → list_all p s ≡ every (length s) (λ k. p (get_or s k 0))
unfolding every
all_items [] p = refl
all_items (x ∷ s) p =
    ap (λ (b : Bool). p x && b) (all_items s p) ∙ sym (every_front (length s) (λ k. p (get_or (x ∷ s) k 0)))
