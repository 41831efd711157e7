-- The bytes that are drawn decide the chain and how many they are: bytes behind them change nothing. And where the draws need more
-- bytes than there are, they need more whatever comes behind.
use mathlib.Core.Path.{◌≡◌, refl, sym, ap, ap₂, ◌∙◌}
use mathlib.Core.Bool.{Bool, true, false, cond}
use mathlib.Core.List.{List, ◌++◌}
use Prim.Native.Nat.{ℕ, ◌+◌, ◌-◌, ◌*◌, ◌≤◌, ◌<◌}
use native.Mathlib.Decide.{dec_lt}
use native.Mathlib.Omega.{arith}
use lib.ListN.{length, take, drop, take-append-drop, get_or-append}
use lib.Seq.{length-take-le}
use Rattle.lists.specs.Tabulation.{tab, chunks}
use Rattle.lists.proofs.TabulationLaws.{tab_ext}
use Rattle.lists.proofs.ChunkLaws.{chunks_ext}
use Rattle.coding_maker.specs.Draw.{coding_from, coding_draws}
use Rattle.maker.specs.Plan.{Plan, TwoWords, fixed_coding, given_coding, undrawn, source}
use Rattle.coding_maker.specs.Parts.{begins, left}
use Rattle.maker.specs.MadeChain.{set_use, free_coding, set_coding, middle_use, middles_draw, middles_from, mask_from, masks_from, round_draws}
use Rattle.maker.specs.MadeChain.{round_from, sets_draw, sets_from, round_use, rounds_draw, rounds_from, chain_draws, chain_made}
use Rattle.coding_maker.proofs.DrawCounts.{Steady, Decided, after, steady_after, decided_first, decided_second, steady_coding, coding_same, steady_begins, decided_part}
use Rattle.maker.proofs.Places.{source_le, free_source}

-- ---- lists of parts

decided_chunks : (u : List ℕ → ℕ) (n : ℕ) (g : List ℕ → ℕ → List ℕ) → ((k : ℕ) → k < n → Decided u (λ s. g s k)) → Decided u (λ s. chunks n (g s))
decided_chunks u n g h s t b = chunks_ext n (g (s ++ t)) (g s) (λ k l. h k l s t b)

decided_tab : (u : List ℕ → ℕ) (n : ℕ) (g : List ℕ → ℕ → ℕ) → ((k : ℕ) → k < n → Decided u (λ s. g s k)) → Decided u (λ s. tab n (g s))
decided_tab u n g h s t b = tab_ext n (g (s ++ t)) (g s) (λ k l. h k l s t b)

decided_append : (u : List ℕ → ℕ) (f g : List ℕ → List ℕ) → Decided u f → Decided u g → Decided u (λ s. f s ++ g s)
decided_append u f g a b s t h = ap₂ {C = List ℕ} (λ (x y : List ℕ). x ++ y) (a s t h) (b s t h)

-- ---- the sets

steady_nothing : Steady (λ s. 0)
steady_nothing = record { same = λ s t h. refl; more = λ s t h. absurd (omega arith) }

module _ (p : Plan) where
  steady_set : (k : ℕ) → Steady (set_use p k)
  unfolding set_use
  steady_set k = go (undrawn p k)
    where
      go : (b : Bool) → Steady (λ s. cond b 0 (coding_draws s))
      go true = steady_nothing
      go false = steady_coding

  free_same : (k : ℕ) → fixed_coding p k ≡ false → Decided (set_use p k) (free_coding p k)
  unfolding set_use free_coding
  free_same k e s t = rw e (go (given_coding p k) s t)
    where
      given : List ℕ
      given = take 16 (drop (16 * (k - 32)) p.given)

      go : (b : Bool) → Decided (λ s. cond b 0 (coding_draws s)) (λ s. cond b given (coding_from s))
      go true s t h = refl
      go false s t h = coding_same s t h

  steady_sets : (r : ℕ) → Steady (sets_draw p r)
  unfolding sets_draw
  steady_sets r = steady_begins (set_use p) steady_set (32 * (r + 2))

  sets_same : TwoWords p.from p.to → (r : ℕ) → Decided (sets_draw p r) (sets_from p r)
  unfolding sets_draw sets_from set_coding
  sets_same w r =
      decided_chunks (begins (set_use p) (32 * (r + 2))) (32 * (r + 2)) (set_coding p) (λ k h.
      let l = source_le p w k in
      decided_part (set_use p) steady_set (32 * (r + 2)) (source p k) (omega arith) (free_coding p (source p k)) (free_same (source p k) (free_source p w k)))

-- ---- a round

steady_middles : Steady middles_draw
unfolding middles_draw
steady_middles = steady_begins middle_use (λ k. steady_coding) 24

middles_same : Decided middles_draw middles_from
unfolding middles_draw middles_from
middles_same =
    decided_chunks (begins middle_use 24) 24 (λ s k. coding_from (left middle_use k s)) (λ k h.
    decided_part middle_use (λ k. steady_coding) 24 k h coding_from coding_same)

steady_masks : Steady (λ s. 24)
steady_masks = record { same = λ s t h. refl; more = λ s t h. h }

masks_same : Decided (λ s. 24) masks_from
unfolding masks_from mask_from
masks_same = decided_tab (λ s. 24) 24 (λ s k. mask_from k s) (λ k h s t b. rw (get_or-append s t 0 k (omega arith)))

steady_round : Steady round_draws
unfolding round_draws
steady_round = steady_after middles_draw (λ s. 24) steady_middles steady_masks

round_same : Decided round_draws round_from
unfolding round_draws round_from
round_same =
    decided_append (after middles_draw (λ s. 24)) middles_from (λ s. masks_from (drop (middles_draw s) s))
    (decided_first middles_draw (λ s. 24) steady_middles steady_masks middles_from middles_same)
    (decided_second middles_draw (λ s. 24) steady_middles steady_masks masks_from masks_same)

-- ---- the chain

module _ (p : Plan) (w : TwoWords p.from p.to) (r : ℕ) where
  steady_rounds : Steady (rounds_draw r)
  unfolding rounds_draw
  steady_rounds = steady_begins round_use (λ l. steady_round) r

  rounds_same : Decided (rounds_draw r) (rounds_from r)
  unfolding rounds_draw rounds_from
  rounds_same =
      decided_chunks (begins round_use r) r (λ s l. round_from (left round_use l s)) (λ l h.
      decided_part round_use (λ l. steady_round) r l h round_from round_same)

  steady_chain : Steady (chain_draws p r)
  unfolding chain_draws
  steady_chain = steady_after (sets_draw p r) (rounds_draw r) (steady_sets p r) steady_rounds

  -- bytes behind those that are drawn change nothing
  pub chain_same : Decided (chain_draws p r) (chain_made p r)
  unfolding chain_draws chain_made
  chain_same =
      decided_append (after (sets_draw p r) (rounds_draw r)) (sets_from p r) (λ s. rounds_from r (drop (sets_draw p r s) s))
      (decided_first (sets_draw p r) (rounds_draw r) (steady_sets p r) steady_rounds (sets_from p r) (sets_same p w r))
      (decided_second (sets_draw p r) (rounds_draw r) (steady_sets p r) steady_rounds (rounds_from r) rounds_same)

  pub draws_same : (s t : List ℕ) → chain_draws p r s ≤ length s → chain_draws p r (s ++ t) ≡ chain_draws p r s
  draws_same = steady_chain.same

  -- where the draws need more bytes than there are, they need more than those whatever stands behind
  pub draws_more : (s t : List ℕ) → length s < chain_draws p r s → length s < chain_draws p r (s ++ t)
  draws_more = steady_chain.more

  -- so a part of the bytes suffices exactly if it holds all that are drawn
  pub fewer_lack : (s : List ℕ) (n : ℕ) → n < chain_draws p r s → n ≤ length s → length (take n s) < chain_draws p r (take n s)
  fewer_lack s n h b = go (dec_lt n (chain_draws p r (take n s)))
    where
      l : length (take n s) ≡ n
      l = length-take-le n s b

      go : Dec (n < chain_draws p r (take n s)) → length (take n s) < chain_draws p r (take n s)
      go (yes d) = omega (arith, l)
      go (no d) =
          let e = ap (chain_draws p r) (sym (take-append-drop n s)) ∙ draws_same (take n s) (drop n s) (omega (arith, l)) in
          absurd (omega arith)

  -- and all that are drawn suffice
  front_suffices : (a q s : List ℕ) → a ++ q ≡ s → length a ≡ chain_draws p r s → Dec (length a < chain_draws p r a)
      → (chain_draws p r a ≡ chain_draws p r s) × (chain_made p r a ≡ chain_made p r s)
  front_suffices a q s f e (yes d) =
      let m = draws_more a q d in
      let g = ap (chain_draws p r) f in
      absurd (omega arith)
  front_suffices a q s f e (no d) =
      (sym (draws_same a q (omega arith)) ∙ ap (chain_draws p r) f, sym (chain_same a q (omega arith)) ∙ ap (chain_made p r) f)

  pub drawn_suffice : (s : List ℕ) → chain_draws p r s ≤ length s
      → (chain_draws p r (take (chain_draws p r s) s) ≡ chain_draws p r s) × (chain_made p r (take (chain_draws p r s) s) ≡ chain_made p r s)
  drawn_suffice s h =
      front_suffices (take (chain_draws p r s) s) (drop (chain_draws p r s) s) s (take-append-drop (chain_draws p r s) s) (length-take-le (chain_draws p r s) s h)
      (dec_lt (length (take (chain_draws p r s) s)) (chain_draws p r (take (chain_draws p r s) s)))
