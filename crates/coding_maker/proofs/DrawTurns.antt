-- One turn of each loop that draws, over plain variables.
use mathlib.Core.Path.{◌≡◌, sym, ap, ◌∙◌}
use mathlib.Core.List.{List}
use Prim.Native.Nat.{ℕ, zero, suc, ◌+◌, ◌-◌, ◌%◌, ◌≤◌, ◌<◌}
use native.Mathlib.Numerals.{add-one}
use native.Mathlib.Omega.{arith}
use borrow.Author.Tests.{le-leb, lt-leb}
use lib.ListN.{length, get_or, set, drop, length-drop, drop_of_length-le}
use lib.Seq.{drop-cons, drop-drop, get_or-drop}
use Rattle.coding_maker.specs.Draw.{limit, skipped, drawn, chosen, swapped, shuffled, shuffle_draws}
use Rattle.coding_maker.proofs.DrawCounts.{Within}

-- ---- bytes that are skipped

module _ (s : List ℕ) (k : ℕ) where
  pub taken_here : (at : ℕ) → at < length s → get_or s at 0 < limit k → skipped k (drop at s) ≡ 0
  unfolding skipped
  taken_here at h b = rw (drop-cons s at 0 h, lt-leb (limit k) (get_or s at 0) b)

  pub taken_later : (at : ℕ) → at < length s → limit k ≤ get_or s at 0 → skipped k (drop at s) ≡ suc (skipped k (drop (at + 1) s))
  unfolding skipped
  taken_later at h b = rw (add-one, drop-cons s at 0 h, le-leb (limit k) (get_or s at 0) b)

  pub taken_end : (at : ℕ) → length s ≤ at → skipped k (drop at s) ≡ 0
  unfolding skipped
  taken_end at h = rw (drop_of_length-le s h)

-- ---- a place of a coding

-- the number that the byte at `place` stands for, where this is the byte that is taken
pub chosen_is : (s : List ℕ) (k at place : ℕ) → place ≡ at + skipped k (drop at s) → (b : ℕ) → b ≡ get_or s place 0 → b % (k + 1) ≡ chosen k (drop at s)
chosen_is s k at place e b h = ap (λ (n : ℕ). n % (k + 1)) (h ∙ ap (λ (n : ℕ). get_or s n 0) e ∙ sym (get_or-drop at s (skipped k (drop at s)) 0))

shuffled_less : (k : ℕ) (c s : List ℕ) → 0 < k → shuffled k c s ≡ shuffled (k - 1) (swapped c k (chosen k s)) (drop (drawn k s) s)
unfolding shuffled
shuffled_less zero c s h = absurd (omega arith)
shuffled_less (suc k) c s h = let e : k ≡ suc k - 1 = omega arith in ap (λ (n : ℕ). shuffled n (swapped c (suc k) (chosen (suc k) s)) (drop (drawn (suc k) s) s)) e

draws_less : (k : ℕ) (s : List ℕ) → 0 < k → shuffle_draws k s ≡ drawn k s + shuffle_draws (k - 1) (drop (drawn k s) s)
unfolding shuffle_draws
draws_less zero s h = absurd (omega arith)
draws_less (suc k) s h = let e : k ≡ suc k - 1 = omega arith in ap (λ (n : ℕ). drawn (suc k) s + shuffle_draws n (drop (drawn (suc k) s) s)) e

-- the bytes are left from `next` on behind what is drawn for k
module _ (s : List ℕ) (k at next : ℕ) (h : 0 < k) (e : next ≡ at + drawn k (drop at s)) where
  left_is : drop (drawn k (drop at s)) (drop at s) ≡ drop next s
  left_is = drop-drop (drawn k (drop at s)) at s ∙ ap (λ (n : ℕ). drop n s) (sym e)

  pub draws_turn : (n : ℕ) → at + shuffle_draws k (drop at s) ≡ n → next + shuffle_draws (k - 1) (drop next s) ≡ n
  draws_turn n q =
      let d = draws_less k (drop at s) h in
      let l = ap (shuffle_draws (k - 1)) left_is in
      omega arith

  pub shuffle_turn : (c x : List ℕ) (j : ℕ) → j ≡ chosen k (drop at s) → shuffled k c (drop at s) ≡ x
      → shuffled (k - 1) (set (set c k (get_or c j 0)) j (get_or c k 0)) (drop next s) ≡ x
  unfolding swapped
  shuffle_turn c x j w q =
      (λ i. shuffled (k - 1) (swapped c k (w i)) (sym left_is i)) ∙ sym (shuffled_less k c (drop at s) h) ∙ q

pub no_draws : (k : ℕ) (s : List ℕ) → k ≡ 0 → shuffle_draws k s ≡ 0
unfolding shuffle_draws
no_draws k s e = rw e

pub no_shuffle : (k : ℕ) (c s : List ℕ) → k ≡ 0 → shuffled k c s ≡ c
unfolding shuffled
no_shuffle k c s e = rw e

-- ---- a draw from a place on stays near the bytes that there are
pub near : (m : ℕ) (u : List ℕ → ℕ) → Within m u → (s : List ℕ) (from : ℕ) → from + u (drop from s) ≤ from + (length s - from) + m
near m u h s from =
    let a = h (drop from s) in
    let l = length-drop from s in
    omega arith
