-- One turn of each loop over the parts of a chain, and what the parts that draw nothing use, over plain variables.
use mathlib.Core.Path.{◌≡◌, refl, sym, ap, ◌∙◌}
use mathlib.Core.Bool.{Bool, true, false, cond}
use mathlib.Core.List.{List, ◌++◌}
use Prim.Native.Nat.{ℕ, ◌+◌, ◌-◌, ◌*◌, ◌%◌, ◌≤◌, ◌<◌}
use native.Mathlib.Nat.{zero-add}
use native.Mathlib.Omega.{arith}
use lib.ListN.{length, get_or, take, drop, length-drop}
use lib.Seq.{get_or-drop, drop-append-le, take-append-le}
use Rattle.lists.specs.Tabulation.{chunks}
use Rattle.lists.proofs.ChunkLaws.{chunks_more, length_chunks, chunk_at}
use Rattle.lists.proofs.PartLaws.{put_more}
use Rattle.coding_maker.specs.Draw.{coding_from, coding_draws}
use Rattle.maker.specs.Plan.{Plan, TwoWords, fixed_coding, source, given_coding, undrawn}
use Rattle.coding_maker.specs.Parts.{begins, left}
use Rattle.maker.specs.MadeChain.{set_use, free_coding, set_coding, middle_use, middles_draw, middles_from, mask_from, masks_from, round_draws}
use Rattle.maker.specs.MadeChain.{round_from, sets_draw, sets_from, rounds_draw, rounds_from, chain_draws, chain_made}
use Rattle.coding_maker.specs.Source.{rest, past}
use Rattle.coding_maker.specs.declared.draw.Source.{Source}
use Rattle.coding_maker.proofs.DrawCounts.{Within, after, within_coding, within_begins}
use Rattle.coding_maker.proofs.SourceLaws.{rest_past, past_past}
use Rattle.maker.proofs.Places.{source_free, source_fixed, source_lt, free_source}
use Rattle.maker.proofs.ChainValid.{coding_of, length_set_coding, set_same}

-- ---- what goes how far past the end

pub within_set : (p : Plan) (k : ℕ) → Within 15 (set_use p k)
unfolding set_use
within_set p k s = go (undrawn p k)
  where
    go : (b : Bool) → cond b 0 (coding_draws s) ≤ length s + 15
    go true = omega arith
    go false = within_coding s

pub within_middles : Within 360 middles_draw
unfolding middles_draw
within_middles = within_begins 15 middle_use (λ k. within_coding) 24

pub within_round : Within 384 round_draws
unfolding round_draws
within_round s = let a = within_middles s in omega arith

-- ---- parts that draw nothing, and parts that do

module _ (p : Plan) (k : ℕ) (s : List ℕ) where
  pub set_use_fixed : fixed_coding p k ≡ true → set_use p k s ≡ 0
  unfolding set_use
  set_use_fixed e = rw e

  pub set_use_given : fixed_coding p k ≡ false → given_coding p k ≡ true → set_use p k s ≡ 0
  unfolding set_use
  set_use_given e f = rw (e, f)

  pub set_use_drawn : fixed_coding p k ≡ false → given_coding p k ≡ false → set_use p k s ≡ coding_draws s
  unfolding set_use
  set_use_drawn e f = rw (e, f)

  pub free_given : given_coding p k ≡ true → free_coding p k s ≡ coding_of p.given (k - 32)
  unfolding free_coding
  free_given e = rw e

  pub free_drawn : given_coding p k ≡ false → free_coding p k s ≡ coding_from s
  unfolding free_coding
  free_drawn e = rw e

-- a mask from its byte
pub mask_drawn : (s : List ℕ) (from k b : ℕ) → b ≡ get_or s (from + k) 0 → b % 2 ≡ mask_from k (drop from s)
unfolding mask_from
mask_drawn s from k b e = ap (λ (n : ℕ). n % 2) (e ∙ sym (get_or-drop from s k 0))

-- ---- codings written one behind another

-- coding j of those that are written so far
written_at : (g : ℕ → List ℕ) → ((k : ℕ) → length (g k) ≡ 16) → (k j : ℕ) (t : List ℕ) → j < k → take 16 (drop (16 * j) (chunks k g ++ t)) ≡ g j
written_at g h k j t l =
    let w = length_chunks g 16 h k in
    let e : 16 * j ≡ j * 16 = omega arith in
    ap (λ (n : ℕ). take 16 (drop n (chunks k g ++ t))) e
    ∙ ap (take 16) (drop-append-le (j * 16) (chunks k g) t (omega arith))
    ∙ take-append-le 16 (drop (j * 16) (chunks k g)) t (rw (length-drop (j * 16) (chunks k g)) (omega arith))
    ∙ chunk_at g 16 h k j l

-- one more
pub written_more : (g : ℕ → List ℕ) → ((k : ℕ) → length (g k) ≡ 16) → (d₀ d q : List ℕ) (k : ℕ) → d ≡ chunks k g ++ drop (16 * k) d₀ → q ≡ g k
    → take (16 * k) d ++ q ++ drop (16 * k + 16) d ≡ chunks (k + 1) g ++ drop (16 * (k + 1)) d₀
written_more g h d₀ d q k e w =
    let l : 16 * (k + 1) ≡ 16 * k + 16 = omega arith in
    ap (λ (x : List ℕ). take (16 * k) d ++ x ++ drop (16 * k + 16) d) w
    ∙ put_more (chunks k g) d₀ d (g k) (16 * k) 16 (length_chunks g 16 h k ∙ omega arith) e
    ∙ rw (l, chunks_more k g)

pub written_none : (g : ℕ → List ℕ) (d : List ℕ) → d ≡ chunks 0 g ++ drop (16 * 0) d
unfolding chunks
written_none g d = refl

module _ (p : Plan) where
  set_free : (s : List ℕ) (k : ℕ) → fixed_coding p k ≡ false → free_coding p k (left (set_use p) k s) ≡ set_coding p s k
  unfolding set_coding
  set_free s k f = ap (λ (j : ℕ). free_coding p j (left (set_use p) j s)) (sym (source_free p k f))

  -- the coding that is free, or taken over from what is written, is that of its place
  pub set_coding_is : TwoWords p.from p.to → (s made d₀ x : List ℕ) (at k : ℕ) → at ≡ begins (set_use p) k s
      → made ≡ chunks k (set_coding p s) ++ drop (16 * k) d₀
      → x ≡ cond (fixed_coding p k) (coding_of made (source p k)) (free_coding p k (drop at s)) → x ≡ set_coding p s k
  set_coding_is w s made d₀ x at k e m q = go (fixed_coding p k) refl q
    where
      go : (b : Bool) → fixed_coding p k ≡ b → x ≡ cond b (coding_of made (source p k)) (free_coding p k (drop at s)) → x ≡ set_coding p s k
      go true f y =
          y
          ∙ ap (λ (z : List ℕ). coding_of z (source p k)) m
          ∙ written_at (set_coding p s) (length_set_coding p s) k (source p k) (drop (16 * k) d₀) (source_lt p w k f)
          ∙ set_same p s (source p k) k (source_free p (source p k) (free_source p w k))
      go false f y = y ∙ ap (λ (n : ℕ). free_coding p k (drop n s)) e ∙ set_free s k f

  -- what stands in the place of coding k, where it is fixed
  module _ (k : ℕ) (out x y : List ℕ) where
    pub place_fixed : fixed_coding p k ≡ true → x ≡ coding_of out (k + 8 * p.from - (32 + 8 * p.to)) → x ≡ cond (fixed_coding p k) (coding_of out (source p k)) y
    place_fixed f e = e ∙ ap (coding_of out) (sym (source_fixed p k f)) ∙ ap (λ (b : Bool). cond b (coding_of out (source p k)) y) (sym f)

-- ---- the whole

-- the masks of a round are drawn behind its middle codings
pub round_past : (s : Source) → past (λ t. 24) (past middles_draw s) ≡ past round_draws s
unfolding round_draws
round_past s = past_past middles_draw (λ t. 24) s

pub round_from_in : (s t : Source) (x y : List ℕ) → t ≡ past middles_draw s → x ≡ middles_from (rest s) → y ≡ masks_from (rest t) → x ++ y ≡ round_from (rest s)
unfolding round_from
round_from_in s t x y e p q = λ i. p i ++ (q ∙ ap masks_from (ap rest e ∙ rest_past middles_draw s)) i

module _ (p : Plan) where
  pub sets_size : (s : List ℕ) (n : ℕ) (x : List ℕ) → x ≡ chunks n (set_coding p s) → length x ≡ n * 16
  sets_size s n x e = ap length e ∙ length_chunks (set_coding p s) 16 (length_set_coding p s) n

  -- the rounds are drawn behind the sets; q is written for r
  module _ (random : List ℕ) (r q : ℕ) (s₀ s₁ : Source) (same : rest s₀ ≡ random) (w : q ≡ r) (e : s₁ ≡ past (begins (set_use p) (32 * (q + 2))) s₀) where
    pub chain_drawn : (s₂ : Source) → s₀.at ≡ 0 → s₂ ≡ past (rounds_draw q) s₁ → s₂.at ≡ chain_draws p r random
    unfolding chain_draws sets_draw
    chain_drawn s₂ none d =
        ap (λ (t : Source). t.at) (d ∙ ap (past (rounds_draw q)) e ∙ past_past (begins (set_use p) (32 * (q + 2))) (rounds_draw q) s₀)
        ∙ ap (λ (n : ℕ). n + after (begins (set_use p) (32 * (q + 2))) (rounds_draw q) (rest s₀)) none
        ∙ zero-add _
        ∙ (λ i. after (begins (set_use p) (32 * (w i + 2))) (rounds_draw (w i)) (same i))

    pub chain_made_lem : (x y : List ℕ) → x ≡ chunks (32 * (q + 2)) (set_coding p (rest s₀)) → y ≡ rounds_from q (rest s₁) → x ++ y ≡ chain_made p r random
    unfolding chain_made sets_draw sets_from
    chain_made_lem x y d o =
        (λ i. d i ++ (o ∙ ap (rounds_from q) (ap rest e ∙ rest_past (begins (set_use p) (32 * (q + 2))) s₀)) i)
        ∙ (λ i. chunks (32 * (w i + 2)) (set_coding p (same i)) ++ rounds_from (w i) (drop (begins (set_use p) (32 * (w i + 2)) (same i)) (same i)))
