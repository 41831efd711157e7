-- A source behind what draws from it, and how far past the end that is.
use mathlib.Core.Path.{◌≡◌, refl, sym, ap, ◌∙◌}
use mathlib.Core.List.{List}
use Prim.Native.Nat.{ℕ, ◌+◌, ◌-◌, ◌*◌, ◌<◌}
use native.Mathlib.Numerals.{add-one}
use native.Mathlib.Omega.{arith}
use lib.ListN.{length, get_or, set, drop}
use lib.Seq.{drop-drop}
use Rattle.coding_maker.specs.Draw.{drawn, chosen, shuffled, shuffle_draws}
use Rattle.coding_maker.specs.Parts.{begins, left}
use Rattle.coding_maker.specs.Source.{rest, past, Near}
use Rattle.coding_maker.specs.declared.draw.Source.{Source}
use Rattle.coding_maker.proofs.DrawCounts.{Within, after, within_begins}
use Rattle.coding_maker.proofs.DrawTurns.{near, draws_turn, shuffle_turn, no_draws}

-- the same source at another place
abbrev at_place : Source → ℕ → Source
at_place s n = record { numbers = s.numbers; random = s.random; at = n }

-- what is left behind u
pub rest_past : (u : List ℕ → ℕ) (s : Source) → rest (past u s) ≡ drop (u (rest s)) (rest s)
rest_past u s = sym (drop-drop (u (rest s)) s.at s.random.now)

-- behind u, and then behind w
pub past_past : (u w : List ℕ → ℕ) (s : Source) → past w (past u s) ≡ past (after u w) s
past_past u w s =
    let e = ap w (rest_past u s) in
    ap (at_place s) (omega arith)

pub nothing_past : (u : List ℕ → ℕ) (s : Source) → u (rest s) ≡ 0 → s ≡ past u s
nothing_past u s e = ap (at_place s) (omega (arith, e))

pub past_same : (u w : List ℕ → ℕ) (s : Source) → u (rest s) ≡ w (rest s) → past u s ≡ past w s
past_same u w s e = ap (λ (n : ℕ). at_place s (s.at + n)) e

-- what draws at most m bytes past the end
pub near_past : (m n : ℕ) (u : List ℕ → ℕ) → Within m u → (s : Source) → Near n s → Near (n + m) (past u s)
near_past m n u h s b = let a = near m u h s.random.now s.at in omega arith

pub near_after : (m n : ℕ) (u : List ℕ → ℕ) → Within m u → (s t : Source) → t ≡ past u s → Near n s → Near (n + m) t
near_after m n u h s t e b =
    let a = near_past m n u h s b in
    let p = ap (λ (x : Source). x.at) e in
    let l = ap (λ (x : Source). length x.random.now) e in
    omega arith

-- a source that is behind w only when u is drawn from it
pub near_before : (m n : ℕ) (u w : List ℕ → ℕ) → Within m w → (s s₀ : Source) → past u s ≡ past w s₀ → Near n s₀ → Near (n + m) s
near_before m n u w h s s₀ e b =
    let a = near_past m n w h s₀ b in
    let p = ap (λ (t : Source). t.at) e in
    let l = ap (λ (t : Source). length t.random.now) e in
    omega arith

-- one turn of a loop that draws for k
pub shuffle_past : (k : ℕ) → 0 < k → (s t x : Source) → t ≡ past (drawn k) s → past (shuffle_draws k) s ≡ x → past (shuffle_draws (k - 1)) t ≡ x
shuffle_past k h s t x e q =
    ap (past (shuffle_draws (k - 1))) e
    ∙ ap (at_place s) (draws_turn s.random.now k s.at (s.at + drawn k (rest s)) h refl (s.at + shuffle_draws k (rest s)) refl)
    ∙ q

pub shuffled_past : (k : ℕ) → 0 < k → (s t : Source) → t ≡ past (drawn k) s → (c x : List ℕ) (j : ℕ) → j ≡ chosen k (rest s) → shuffled k c (rest s) ≡ x
    → shuffled (k - 1) (set (set c k (get_or c j 0)) j (get_or c k 0)) (rest t) ≡ x
shuffled_past k h s t e c x j w q =
    ap (λ (u : Source). shuffled (k - 1) (set (set c k (get_or c j 0)) j (get_or c k 0)) (rest u)) e
    ∙ shuffle_turn s.random.now k s.at (s.at + drawn k (rest s)) h refl c x j w q

-- and of the whole loop
pub none_past : (k : ℕ) (s : Source) → k ≡ 0 → past (shuffle_draws k) s ≡ s
none_past k s e = ap (at_place s) (omega (arith, no_draws k (rest s) e))

-- ---- parts in order

module _ (u : ℕ → List ℕ → ℕ) (k : ℕ) (s₀ s : Source) (e : s ≡ past (begins u k) s₀) where
  -- what is left for part k
  pub left_past : rest s ≡ left u k (rest s₀)
  left_past = ap rest e ∙ rest_past (begins u k) s₀

  pub begins_past : (t : Source) → t ≡ past (u k) s → t ≡ past (begins u (k + 1)) s₀
  unfolding begins
  begins_past t q = q ∙ ap (past (u k)) e ∙ past_past (begins u k) (u k) s₀ ∙ ap (λ (n : ℕ). past (begins u n) s₀) (sym (add-one k))

  pub begins_near : (m n : ℕ) → ((j : ℕ) → Within m (u j)) → Near n s₀ → Near (n + k * m) s
  begins_near m n h = near_after (k * m) n (begins u k) (within_begins m u h k) s₀ s e

pub begins_none : (u : ℕ → List ℕ → ℕ) (s : Source) → s ≡ past (begins u 0) s
unfolding begins
begins_none u s = ap (at_place s) (omega arith)
