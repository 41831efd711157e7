-- Laws of counts of bytes drawn: of one draw behind another, and of parts drawn in order. No byte behind those that are drawn is looked
-- at; and where the bytes do not suffice, more than those are drawn also if others follow them.
use mathlib.Core.Path.{◌≡◌, refl, ap, ◌∙◌}
use mathlib.Core.Bool.{Bool, true, false, cond}
use mathlib.Core.List.{List, [], ◌∷◌, ◌++◌}
use Prim.Native.Nat.{ℕ, zero, suc, ◌+◌, ◌*◌, ◌%◌, ◌≤◌, ◌<◌, zero-le, suc-le-suc}
use native.Mathlib.Nat.{le_of_suc-le-suc, suc-mul}
use native.Mathlib.Decide.{dec_lt}
use native.Mathlib.Omega.{arith}
use lib.Dec.{leb}
use lib.ListN.{length, get_or, drop, length-drop, get_or-append}
use lib.Seq.{drop-append-le}
use Rattle.coding_maker.specs.Draw.{limit, skipped, drawn, chosen, swapped, shuffled, shuffle_draws, unshuffled, coding_from, coding_draws}
use Rattle.coding_maker.specs.Parts.{begins, left}

-- what u draws is decided by the bytes it draws
pub record Steady (u : List ℕ → ℕ) : Type 0 where
  pub same : (s t : List ℕ) → u s ≤ length s → u (s ++ t) ≡ u s
  pub more : (s t : List ℕ) → length s < u s → length s < u (s ++ t)

-- and so is what m makes of them
abbrev pub Decided : {A : Type 0} → (List ℕ → ℕ) → (List ℕ → A) → Type 0
Decided u m = (s t : List ℕ) → u s ≤ length s → m (s ++ t) ≡ m s

-- ---- one draw behind another

abbrev pub after : (List ℕ → ℕ) → (List ℕ → ℕ) → List ℕ → ℕ
after u w s = u s + w (drop (u s) s)

module _ (u w : List ℕ → ℕ) (hu : Steady u) (hw : Steady w) where
  -- the bytes left behind the first
  rest_same : (s t : List ℕ) → u s ≤ length s → drop (u (s ++ t)) (s ++ t) ≡ drop (u s) s ++ t
  rest_same s t h = ap (λ (n : ℕ). drop n (s ++ t)) (hu.same s t h) ∙ drop-append-le (u s) s t h

  pub steady_after : Steady (after u w)
  steady_after = record {
    same = λ s t h.
        let a : u s ≤ length s = omega arith in
        let b = hw.same (drop (u s) s) t (rw (length-drop (u s) s) (omega arith)) in
        (λ i. hu.same s t a i + w (rest_same s t a i)) ∙ ap (λ (n : ℕ). u s + n) b;
    more = λ s t h. more s t h (dec_lt (length s) (u s));
  }
    where
      more : (s t : List ℕ) → length s < after u w s → Dec (length s < u s) → length s < after u w (s ++ t)
      more s t h (yes d) = omega (arith, hu.more s t d)
      more s t h (no d) =
          let a : u s ≤ length s = omega arith in
          let l = length-drop (u s) s in
          let b = hw.more (drop (u s) s) t (omega arith) in
          let e : w (drop (u (s ++ t)) (s ++ t)) ≡ w (drop (u s) s ++ t) = ap w (rest_same s t a) in
          let f = hu.same s t a in
          omega arith

  pub decided_first : {A : Type 0} (m : List ℕ → A) → Decided u m → Decided (after u w) m
  decided_first m d s t h = d s t (omega arith)

  pub decided_second : {A : Type 0} (m : List ℕ → A) → Decided w m → Decided (after u w) (λ s. m (drop (u s) s))
  decided_second m d s t h =
      let a : u s ≤ length s = omega arith in
      ap m (rest_same s t a) ∙ d (drop (u s) s) t (rw (length-drop (u s) s) (omega arith))

-- ---- one byte

skipped_le : (k : ℕ) (s : List ℕ) → skipped k s ≤ length s
unfolding skipped
skipped_le k [] = zero-le
skipped_le k (b ∷ s) = go (leb (limit k) b) (skipped_le k s)
  where
    go : (v : Bool) → skipped k s ≤ length s → cond v (suc (skipped k s)) zero ≤ suc (length s)
    go true h = suc-le-suc h
    go false h = zero-le

skipped_same : (k : ℕ) (s t : List ℕ) → skipped k s < length s → skipped k (s ++ t) ≡ skipped k s
unfolding skipped
skipped_same k [] t h = absurd (omega arith)
skipped_same k (b ∷ s) t h = go (leb (limit k) b) (skipped_same k s t) h
  where
    go : (v : Bool) → (skipped k s < length s → skipped k (s ++ t) ≡ skipped k s) → cond v (suc (skipped k s)) zero < suc (length s)
        → cond v (suc (skipped k (s ++ t))) zero ≡ cond v (suc (skipped k s)) zero
    go true ih l = ap suc (ih (le_of_suc-le-suc l))
    go false ih l = refl

skipped_more : (k : ℕ) (s t : List ℕ) → length s ≤ skipped k s → length s ≤ skipped k (s ++ t)
unfolding skipped
skipped_more k [] t h = zero-le
skipped_more k (b ∷ s) t h = go (leb (limit k) b) (skipped_more k s t) h
  where
    go : (v : Bool) → (length s ≤ skipped k s → length s ≤ skipped k (s ++ t)) → suc (length s) ≤ cond v (suc (skipped k s)) zero
        → suc (length s) ≤ cond v (suc (skipped k (s ++ t))) zero
    go true ih l = suc-le-suc (ih (le_of_suc-le-suc l))
    go false ih l = absurd (omega arith)

steady_drawn : (k : ℕ) → Steady (drawn k)
steady_drawn k = record {
  same = λ s t h. ap suc (skipped_same k s t h);
  more = λ s t h. suc-le-suc (skipped_more k s t (le_of_suc-le-suc h));
}

chosen_same : (k : ℕ) (s t : List ℕ) → drawn k s ≤ length s → chosen k (s ++ t) ≡ chosen k s
chosen_same k s t h =
    ap (λ (n : ℕ). get_or (s ++ t) n 0 % (k + 1)) (skipped_same k s t h) ∙ ap (λ (n : ℕ). n % (k + 1)) (get_or-append s t 0 (skipped k s) h)

-- ---- a coding

steady_shuffle : (k : ℕ) → Steady (shuffle_draws k)
unfolding shuffle_draws
steady_shuffle zero = record { same = λ s t h. refl; more = λ s t h. absurd (omega arith) }
steady_shuffle (suc k) = steady_after (drawn (suc k)) (shuffle_draws k) (steady_drawn (suc k)) (steady_shuffle k)

shuffled_same : (k : ℕ) (c : List ℕ) → Decided (shuffle_draws k) (shuffled k c)
unfolding shuffle_draws shuffled
shuffled_same zero c s t h = refl
shuffled_same (suc k) c s t h =
    let a : drawn (suc k) s ≤ length s = omega arith in
    (λ i. shuffled k (swapped c (suc k) (chosen_same (suc k) s t a i)) (rest_same (drawn (suc k)) (shuffle_draws k) (steady_drawn (suc k)) (steady_shuffle k) s t a i))
    ∙ shuffled_same k (swapped c (suc k) (chosen (suc k) s)) (drop (drawn (suc k) s) s) t (rw (length-drop (drawn (suc k) s) s) (omega arith))

pub steady_coding : Steady coding_draws
unfolding coding_draws
steady_coding = steady_shuffle 15

pub coding_same : Decided coding_draws coding_from
unfolding coding_draws coding_from
coding_same = shuffled_same 15 unshuffled

-- ---- parts in order

pub steady_begins : (u : ℕ → List ℕ → ℕ) → ((k : ℕ) → Steady (u k)) → (n : ℕ) → Steady (begins u n)
unfolding begins
steady_begins u h zero = record { same = λ s t b. refl; more = λ s t b. absurd (omega arith) }
steady_begins u h (suc n) = steady_after (begins u n) (u n) (steady_begins u h n) (h n)

-- part k of n
pub decided_part : {A : Type 0} (u : ℕ → List ℕ → ℕ) → ((k : ℕ) → Steady (u k)) → (n k : ℕ) → k < n → (m : List ℕ → A) → Decided (u k) m
    → Decided (begins u n) (λ s. m (left u k s))
unfolding begins
decided_part u h zero k l m d = absurd (omega arith)
decided_part u h (suc n) k l m d = go (dec_lt k n) (λ b. decided_part u h n k b m d)
  where
    go : Dec (k < n) → (k < n → Decided (begins u n) (λ s. m (left u k s))) → Decided (after (begins u n) (u n)) (λ s. m (left u k s))
    go (yes b) ih = decided_first (begins u n) (u n) (steady_begins u h n) (h n) (λ s. m (left u k s)) (ih b)
    go (no b) ih =
        let e : k ≡ n = omega arith in
        rw e (decided_second (begins u n) (u n) (steady_begins u h n) (h n) m (rw e at d))

-- ---- bounds: a draw goes at most m bytes past the end

abbrev pub Within : ℕ → (List ℕ → ℕ) → Type 0
Within m u = (s : List ℕ) → u s ≤ length s + m

within_after : (a b : ℕ) (u w : List ℕ → ℕ) → Within a u → Within b w → Within (a + b) (after u w)
within_after a b u w hu hw s =
    let x = hu s in
    let y = hw (drop (u s) s) in
    let l = length-drop (u s) s in
    omega arith

pub within_drawn : (k : ℕ) → Within 1 (drawn k)
within_drawn k s = let h = skipped_le k s in omega arith

pub within_shuffle : (k : ℕ) → Within k (shuffle_draws k)
unfolding shuffle_draws
within_shuffle zero s = zero-le
within_shuffle (suc k) s = let h = within_after 1 k (drawn (suc k)) (shuffle_draws k) (within_drawn (suc k)) (within_shuffle k) s in omega arith

pub within_coding : Within 15 coding_draws
unfolding coding_draws
within_coding = within_shuffle 15

pub within_begins : (m : ℕ) (u : ℕ → List ℕ → ℕ) → ((k : ℕ) → Within m (u k)) → (n : ℕ) → Within (n * m) (begins u n)
unfolding begins
within_begins m u h zero s = zero-le
within_begins m u h (suc n) s =
    let e = suc-mul n m in
    let b = within_after (n * m) m (begins u n) (u n) (within_begins m u h n) (h n) s in
    omega arith
