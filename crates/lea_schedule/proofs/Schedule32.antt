-- The schedule of a key of 32 bytes, its words in a queue: the words in the order in which the steps take them.
use Rattle.std.proofs.Common.{◌≡◌, ℕ, zero, suc, ◌+◌, ◌*◌, ◌%◌, ◌<◌, ◌≤◌, ◌⊎◌, List, [], ◌∷◌, length, get_or, sym, refl, ap, ◌∙◌, inl, inr}
use Rattle.std.proofs.Common.{le_of_suc-le-suc, not-suc-le-zero, eq-or-lt_of_le, arith, length-set, get_or-set_other, get_or-set_same}
use Rattle.lists.specs.Tabulation.{tab}
use Rattle.lists.proofs.TabulationLaws.{tab_is}
use Rattle.lea_schedule.specs.Schedule.{delta_of, mixed, mixed_row, place, mix_at, step32, row32}
use Rattle.lea_schedule.specs.Steps.{turned_delta, queued, StepsBy}
use Rattle.lea_schedule.proofs.ScheduleLaws.{delta_word, all_turned}

-- ---- places

-- the next step begins six places on
place_next : (i m : ℕ) → place i (m + 6) ≡ place (i + 1) m
unfolding place
place_next i m = let e : 6 * i + (m + 6) ≡ 6 * (i + 1) + m = omega arith in ap (λ (n : ℕ). n % 8) e

-- its third word is the first of this step
place_again : (i m : ℕ) → place i m ≡ place (i + 1) (m + 2)
unfolding place
place_again i m = let e : 6 * (i + 1) + (m + 2) ≡ 6 * i + m + 8 = omega arith in rw e (omega arith)

place_small : (i m : ℕ) → place i m < 8
unfolding place
place_small i m = omega arith

place_apart : (i k m : ℕ) → k < m → m < 8 → place i k ≡ place i m → ⊥
unfolding place
place_apart i k m h l e = omega arith

-- ---- one step

-- the first n words of step i mixed
mixes : ℕ → ℕ → List ℕ → List ℕ
mixes i zero t = t
mixes i (suc n) t = mix_at i n (mixes i n t)

mixes_length : (i n : ℕ) (t : List ℕ) → length (mixes i n t) ≡ length t
unfolding mixes mix_at
mixes_length i zero t = refl
mixes_length i (suc n) t = length-set (mixes i n t) (place i n) _ ∙ mixes_length i n t

-- a word that is not mixed yet, and one that is
kept : (i n k : ℕ) (t : List ℕ) → n ≤ k → k < 8 → get_or (mixes i n t) (place i k) 0 ≡ get_or t (place i k) 0
unfolding mixes mix_at
kept i zero k t h l = refl
kept i (suc n) k t h l =
    get_or-set_other (mixes i n t) (place i n) (place i k) _ 0 (λ e. place_apart i n k h l (sym e))
    ∙ kept i n k t (omega arith) l

changed : (i n k : ℕ) (t : List ℕ) → k < n → n ≤ 8 → length t ≡ 8 → get_or (mixes i n t) (place i k) 0 ≡ mixed (delta_of 8 i) i k (get_or t (place i k) 0)
unfolding mixes mix_at
changed i zero k t h l e = absurd (not-suc-le-zero h)
changed i (suc n) k t h l e = go (eq-or-lt_of_le (le_of_suc-le-suc h)) (λ f. changed i n k t f (omega arith) e)
  where
    go : (k ≡ n) ⊎ (k < n) → (k < n → get_or (mixes i n t) (place i k) 0 ≡ mixed (delta_of 8 i) i k (get_or t (place i k) 0))
        → get_or (mixes i (suc n) t) (place i k) 0 ≡ mixed (delta_of 8 i) i k (get_or t (place i k) 0)
    go (inl f) g =
        let b : place i n < length (mixes i n t) = rw (mixes_length i n t, e) (place_small i n) in
        ap (λ (m : ℕ). get_or (mixes i (suc n) t) (place i m) 0) f
        ∙ get_or-set_same (mixes i n t) (place i n) _ 0 b
        ∙ ap (mixed (delta_of 8 i) i n) (kept i n n t (omega arith) l)
        ∙ ap (λ (m : ℕ). mixed (delta_of 8 i) i m (get_or t (place i m) 0)) (sym f)
    go (inr f) g =
        get_or-set_other (mixes i n t) (place i n) (place i k) _ 0 (place_apart i k n f l) ∙ g f

step_length : (i : ℕ) (t : List ℕ) → length (step32 i t) ≡ length t
unfolding step32 mixes
step_length i t = mixes_length i 6 t

-- ---- a step of the queue

module _ (i : ℕ) (t : List ℕ) (size : length t ≡ 8) where
  -- the words at the places of step i, after it, at their places of the next step
  mixed_at : (k : ℕ) → k < 6 → mixed (delta_of 8 i) i k (get_or t (place i k) 0) ≡ get_or (step32 i t) (place (i + 1) (k + 2)) 0
  unfolding step32 mixes
  mixed_at k h = sym (changed i 6 k t h (omega arith) size) ∙ ap (λ (n : ℕ). get_or (step32 i t) n 0) (place_again i k)

  kept_at : (k : ℕ) → k < 2 → get_or t (place i (k + 6)) 0 ≡ get_or (step32 i t) (place (i + 1) k) 0
  unfolding step32 mixes
  kept_at k h = sym (kept i 6 (k + 6) t (omega arith) (omega arith)) ∙ ap (λ (n : ℕ). get_or (step32 i t) n 0) (place_next i k)

  pub queue_more : get_or (queued i t) 6 0 ∷ get_or (queued i t) 7 0 ∷ mixed_row (turned_delta 8 i) 0 (queued i t) ≡ queued (i + 1) (step32 i t)
  unfolding tab queued mixed_row
  queue_more =
      (λ z. get_or t (place i 6) 0 ∷ get_or t (place i 7) 0 ∷ all_turned 6 (delta_of 8 i) i (queued i t) (delta_word 8 i) z)
      ∙ (λ z. kept_at 0 (omega arith) z ∷ kept_at 1 (omega arith) z ∷ mixed_at 0 (omega arith) z ∷ mixed_at 1 (omega arith) z
      ∷ mixed_at 2 (omega arith) z ∷ mixed_at 3 (omega arith) z ∷ mixed_at 4 (omega arith) z ∷ mixed_at 5 (omega arith) z ∷ [])

  -- a word of the row, at its place of this step
  again : (k : ℕ) → get_or (step32 i t) (place (i + 1) (k + 2)) 0 ≡ get_or (step32 i t) (place i k) 0
  again k = ap (λ (n : ℕ). get_or (step32 i t) n 0) (sym (place_again i k))

  row_shown : tab 6 (λ k. get_or (queued (i + 1) (step32 i t)) (k + 2) 0) ≡ row32 i (step32 i t)
  unfolding queued row32 tab
  row_shown = λ z. again 0 z ∷ again 1 z ∷ again 2 z ∷ again 3 z ∷ again 4 z ∷ again 5 z ∷ []

  pub in_order : queued 0 t ≡ t
  unfolding queued place tab
  in_order = tab_is 8 (λ k. get_or t k 0) t size (λ k h. refl)

pub steps_32 : {mixed : ℕ → List ℕ → List ℕ → Type 0} {shown : List ℕ → List ℕ → Type 0}
    → ((d : ℕ) (t v : List ℕ) → mixed d t v → v ≡ get_or t 6 0 ∷ get_or t 7 0 ∷ mixed_row d 0 t)
    → ((v r : List ℕ) → shown v r → r ≡ tab 6 (λ k. get_or v (k + 2) 0))
    → StepsBy 8 mixed shown step32 row32 queued
steps_32 m s = record {
  mixes = λ i t v e p. m _ (queued i t) v p ∙ queue_more i t e;
  shows = λ i t r e p. s _ r p ∙ row_shown i t e;
  keeps = λ i t e. step_length i t ∙ e;
}
