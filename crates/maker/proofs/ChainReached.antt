-- Every valid chain comes out of some bytes: of 15 for each coding that is neither fixed nor given and one for each mask, of which none
-- is skipped.
use mathlib.Core.Path.{◌≡◌, refl, sym, ap, ◌∙◌}
use mathlib.Core.Bool.{Bool, true, false, cond}
use mathlib.Core.List.{List, [], ◌++◌, append_assoc}
use Prim.Native.Nat.{ℕ, zero, suc, ◌+◌, ◌-◌, ◌*◌, ◌/◌, ◌%◌, ◌≤◌, ◌<◌}
use native.Mathlib.Nat.{mul-suc, mul-zero}
use native.Mathlib.Decide.{ℕ_discrete}
use native.Mathlib.Omega.{arith}
use lib.Dec.{lit<}
use lib.ListN.{length, get_or, take, drop, length-append, length-drop, take-append-drop, get_or-append}
use lib.Seq.{get_or-drop, get_or-take, drop_at, drop-drop, take_all, take-add, length-take-le, ext_get_or}
use Rattle.lists.specs.Tabulation.{chunks}
use Rattle.lists.specs.Blocks.{Bytes}
use Rattle.lists.specs.Every.{every}
use Rattle.lists.proofs.EveryLaws.{and_true}
use Rattle.lists.proofs.TabulationLaws.{tab_is}
use Rattle.lists.proofs.ChunkLaws.{chunks_ext}
use Rattle.lists.proofs.BlockLaws.{bytes_of_lem, bytes_append}
use Rattle.cipher.specs.KeySize.{rounds}
use Rattle.cipher.specs.Coding.{Permutation, coding_at}
use Rattle.cipher.specs.Chain.{round_bytes, ChainBy, are_permutations, coding_rule_holds}
use Rattle.cipher.specs.declared.size.KeySize.{KeySize}
use Rattle.cipher.proofs.ChainTests.{permutations_tested, tested_codings}
use Rattle.coding_maker.specs.Laws.{IsCoding}
use Rattle.coding_maker.specs.Draw.{coding_from, coding_draws}
use Rattle.maker.specs.Plan.{Plan, TwoWords, fixed_coding, source, given_coding, undrawn}
use Rattle.coding_maker.specs.Parts.{begins, left}
use Rattle.maker.specs.MadeChain.{set_use, free_coding, set_coding, middle_use, middles_draw, middles_from, mask_from, masks_from, round_draws}
use Rattle.maker.specs.MadeChain.{round_from, sets_draw, sets_from, round_use, rounds_draw, rounds_from, chain_draws, chain_made}
use Rattle.coding_maker.proofs.DrawCounts.{after}
use Rattle.coding_maker.proofs.CodingDrawn.{sends, bytes_for, length_bytes, coding_bytes_lem, coding_reached, draws_reached}
use Rattle.maker.proofs.ChainValid.{coding_of}
use Rattle.maker.proofs.Places.{source_free, source_fixed, fixed_known, free_source, source_le}

-- u draws p and no more, whatever stands behind
abbrev Draws : (List ℕ → ℕ) → List ℕ → Type 0
Draws u p = (t : List ℕ) → u (p ++ t) ≡ length p

-- ---- one behind another

module _ (u : List ℕ → ℕ) (p : List ℕ) (h : Draws u p) where
  -- what is left behind p
  rest_is : (q t : List ℕ) → drop (u ((p ++ q) ++ t)) ((p ++ q) ++ t) ≡ q ++ t
  rest_is q t = rw (append_assoc p q t, h (q ++ t)) (drop_at p (q ++ t) (length p) refl)

  draws_after : (w : List ℕ → ℕ) (q : List ℕ) → Draws w q → Draws (after u w) (p ++ q)
  draws_after w q k t =
      (λ i. (ap u (append_assoc p q t) ∙ h (q ++ t)) i + w (rest_is q t i)) ∙ rw (k t) (sym (length-append p q))

-- ---- parts in order

module _ (u : ℕ → List ℕ → ℕ) (g : ℕ → List ℕ) where
  draws_begins : (n : ℕ) → ((k : ℕ) → k < n → Draws (u k) (g k)) → Draws (begins u n) (chunks n g)
  unfolding begins chunks
  draws_begins zero h t = refl
  draws_begins (suc n) h t = draws_after (begins u n) (chunks n g) (draws_begins n (λ k l. h k (omega arith))) (u n) (g n) (h n (omega arith)) t

  -- part k finds its bytes in front
  found : (n : ℕ) → ((k : ℕ) → k < n → Draws (u k) (g k)) → (k : ℕ) → k < n → (t : List ℕ)
      → (x : List ℕ) × (left u k (chunks n g ++ t) ≡ g k ++ x)
  unfolding chunks
  found zero h k l t = absurd (omega arith)
  found (suc n) h k l t = go (ℕ_discrete k n) (λ b. found n (λ i c. h i (omega arith)) k b (g n ++ t))
    where
      go : Dec (k ≡ n) → (k < n → (x : List ℕ) × (left u k (chunks n g ++ (g n ++ t)) ≡ g k ++ x))
          → (x : List ℕ) × (left u k ((chunks n g ++ g n) ++ t) ≡ g k ++ x)
      go (yes e) ih = (t, rw e (rest_is (begins u n) (chunks n g) (draws_begins n (λ i c. h i (omega arith))) (g n) t))
      go (no e) ih = let y = ih (omega arith) in (y.0, ap (left u k) (append_assoc (chunks n g) (g n) t) ∙ y.1)

-- ---- a list cut into pieces

cut_chunks : (m n : ℕ) (l : List ℕ) → chunks n (λ k. take m (drop (m * k) l)) ≡ take (m * n) l
unfolding chunks
cut_chunks m zero l = rw (mul-zero m)
cut_chunks m (suc n) l = rw (mul-suc m n, cut_chunks m n l) (sym (take-add (m * n) m l))

pub coding_at_lem : (l : List ℕ) (k v : ℕ) → v < 16 → sends (coding_of l k) v ≡ coding_at l k v
coding_at_lem l k v h = get_or-take 16 (drop (16 * k) l) v 0 h ∙ get_or-drop (16 * k) l v 0

pub coding_of_lem : (l : List ℕ) (k : ℕ) → 16 * k + 16 ≤ length l → Permutation (coding_at l k) → IsCoding (coding_of l k)
coding_of_lem l k h p = record {
  size = length-take-le 16 (drop (16 * k) l) (rw (length-drop (16 * k) l) (omega arith));
  permutes = record {
    low = λ i a. rw (coding_at_lem l k i a) (p.low i a);
    once = λ i j a b e. p.once i j a b (sym (coding_at_lem l k i a) ∙ e ∙ coding_at_lem l k j b);
  };
}

-- ---- the sets of a chain

-- the bytes for coding k
unfoldable pub place_bytes : Plan → List ℕ → ℕ → List ℕ
place_bytes p l k = cond (undrawn p k) [] (bytes_for (coding_of l k))

module _ (p : Plan) (two : TwoWords p.from p.to) (n : ℕ) (l : List ℕ) (codings : (k : ℕ) → k < n → IsCoding (coding_of l k))
    (kept : (k : ℕ) → k < n → coding_of l (source p k) ≡ coding_of l k)
    (same : (k : ℕ) → k < n → given_coding p k ≡ true → coding_of p.given (k - 32) ≡ coding_of l k) where
  set_draws : (k : ℕ) → k < n → Draws (set_use p k) (place_bytes p l k)
  unfolding set_use place_bytes
  set_draws k h t = go (undrawn p k)
    where
      go : (b : Bool) → cond b 0 (coding_draws (cond b [] (bytes_for (coding_of l k)) ++ t)) ≡ length (cond b [] (bytes_for (coding_of l k)))
      go true = refl
      go false = draws_reached (coding_of l k) (codings k h) t ∙ sym (length_bytes (coding_of l k) (codings k h))

  -- a coding that no rule fixes, from its bytes
  free_reached : (k : ℕ) → k < n → fixed_coding p k ≡ false → (t : List ℕ) → free_coding p k (place_bytes p l k ++ t) ≡ coding_of l k
  unfolding free_coding place_bytes
  free_reached k h f t = rw f (go (given_coding p k) refl)
    where
      go : (b : Bool) → given_coding p k ≡ b → cond b (coding_of p.given (k - 32)) (coding_from (cond b [] (bytes_for (coding_of l k)) ++ t)) ≡ coding_of l k
      go true e = same k h e
      go false e = coding_reached (coding_of l k) (codings k h) t

  set_reached : (t : List ℕ) (k : ℕ) → k < n → set_coding p (chunks n (place_bytes p l) ++ t) k ≡ coding_of l k
  unfolding set_coding
  set_reached t k h =
      let b : source p k < n = omega (arith, source_le p two k) in
      let f = found (set_use p) (place_bytes p l) n set_draws (source p k) b t in
      ap (free_coding p (source p k)) f.1 ∙ free_reached (source p k) b (free_source p two k) f.0 ∙ kept k h

  sets_draw_lem : Draws (begins (set_use p) n) (chunks n (place_bytes p l))
  sets_draw_lem = draws_begins (set_use p) (place_bytes p l) n set_draws

  sets_reached : (t : List ℕ) → chunks n (set_coding p (chunks n (place_bytes p l) ++ t)) ≡ take (16 * n) l
  sets_reached t = chunks_ext n (set_coding p (chunks n (place_bytes p l) ++ t)) (coding_of l) (set_reached t) ∙ cut_chunks 16 n l

-- ---- a round

-- the masks themselves
unfoldable pub mask_bytes : List ℕ → List ℕ
mask_bytes l = take 24 (drop 384 l)

unfoldable pub middle_bytes : List ℕ → ℕ → List ℕ
middle_bytes l k = bytes_for (coding_of l k)

unfoldable pub round_bytes_for : List ℕ → List ℕ
round_bytes_for l = chunks 24 (middle_bytes l) ++ mask_bytes l

-- the bytes of a round, 24 codings and 24 masks
record Round (l : List ℕ) : Type 0 where
  pub size : 408 ≤ length l
  pub codings : (k : ℕ) → k < 24 → IsCoding (coding_of l k)
  pub bits : (k : ℕ) → k < 24 → get_or l (384 + k) 0 < 2

module _ (l : List ℕ) (h : Round l) where
  middle_draws : (k : ℕ) → k < 24 → Draws (middle_use k) (middle_bytes l k)
  unfolding middle_bytes
  middle_draws k b t = draws_reached (coding_of l k) (h.codings k b) t ∙ sym (length_bytes (coding_of l k) (h.codings k b))

  middles_draw_lem : Draws middles_draw (chunks 24 (middle_bytes l))
  unfolding middles_draw
  middles_draw_lem = draws_begins middle_use (middle_bytes l) 24 middle_draws

  middles_reached : (t : List ℕ) → middles_from (chunks 24 (middle_bytes l) ++ t) ≡ take 384 l
  unfolding middles_from middle_bytes
  middles_reached t =
      chunks_ext 24 (λ k. coding_from (left middle_use k (chunks 24 (middle_bytes l) ++ t))) (coding_of l) (λ k b.
      let f = found middle_use (middle_bytes l) 24 middle_draws k b t in
      ap coding_from f.1 ∙ coding_reached (coding_of l k) (h.codings k b) f.0)
      ∙ cut_chunks 16 24 l

  length_mask_bytes : length (mask_bytes l) ≡ 24
  unfolding mask_bytes
  length_mask_bytes = length-take-le 24 (drop 384 l) (rw (length-drop 384 l) (omega (arith, h.size)))

  mask_byte_lem : (k : ℕ) → k < 24 → get_or (mask_bytes l) k 0 ≡ get_or l (384 + k) 0
  unfolding mask_bytes
  mask_byte_lem k b = get_or-take 24 (drop 384 l) k 0 b ∙ get_or-drop 384 l k 0

  masks_reached : (t : List ℕ) → masks_from (mask_bytes l ++ t) ≡ mask_bytes l
  unfolding masks_from mask_from
  masks_reached t =
      tab_is 24 (λ k. mask_from k (mask_bytes l ++ t)) (mask_bytes l) length_mask_bytes (λ k b.
      let e = mask_byte_lem k b in
      let m = h.bits k b in
      rw (get_or-append (mask_bytes l) t 0 k (rw length_mask_bytes b)) (omega arith))

  round_draws_lem : Draws round_draws (round_bytes_for l)
  unfolding round_draws round_bytes_for
  round_draws_lem = draws_after middles_draw (chunks 24 (middle_bytes l)) middles_draw_lem (λ s. 24) (mask_bytes l) (λ t. sym length_mask_bytes)

  round_reached : (t : List ℕ) → round_from (round_bytes_for l ++ t) ≡ take 408 l
  unfolding round_from round_bytes_for mask_bytes
  round_reached t =
      let p = chunks 24 (middle_bytes l) in
      let q = mask_bytes l in
      (λ i. (ap middles_from (append_assoc p q t) ∙ middles_reached (q ++ t)) i ++ (ap masks_from (rest_is middles_draw p middles_draw_lem q t) ∙ masks_reached t) i)
      ∙ sym (take-add 384 24 l)

-- ---- the chain

-- the bytes from which ch is drawn
unfoldable pub chain_bytes : Plan → ℕ → List ℕ → List ℕ
chain_bytes p r ch = chunks (32 * (r + 2)) (place_bytes p ch) ++ chunks r (λ l. round_bytes_for (round_bytes r ch l))

-- a chain by the word rule of a plan, which has what is given
pub record Planned (p : Plan) (z : KeySize) (ch : List ℕ) : Type 0 where
  pub two : TwoWords p.from p.to
  pub valid : ChainBy p.from p.to z ch
  pub same : (k : ℕ) → k < 32 * (rounds z + 2) → given_coding p k ≡ true → coding_of p.given (k - 32) ≡ coding_of ch k

module _ (p : Plan) (z : KeySize) (ch : List ℕ) (planned : Planned p z ch) where
  abbrev r : ℕ
  r = rounds z

  h : ChainBy p.from p.to z ch
  h = planned.valid

  -- coding k of U and the sets permutes
  permutes : (k : ℕ) → k < 32 * (r + 2) → Permutation (coding_at ch k)
  unfolding coding_rule_holds
  permutes =
      permutations_tested (32 * (r + 2)) ch
      (and_true (are_permutations (32 * (r + 2)) ch) (every r (λ l. are_permutations 24 (round_bytes r ch l))) (tested_codings r ch h.codings)).0

  codings : (k : ℕ) → k < 32 * (r + 2) → IsCoding (coding_of ch k)
  codings k l = coding_of_lem ch k (omega (arith, h.size)) (permutes k l)

  -- a fixed coding is its source
  kept : (k : ℕ) → k < 32 * (r + 2) → coding_of ch (source p k) ≡ coding_of ch k
  kept k l = go (fixed_coding p k) refl
    where
      go : (b : Bool) → fixed_coding p k ≡ b → coding_of ch (source p k) ≡ coding_of ch k
      go false e = ap (coding_of ch) (source_free p k e)
      go true e =
          let f = fixed_known p k e in
          let q = k + 8 * p.from - (32 + 8 * p.to) in
          let two = planned.two in
          let b : q < 32 * (r + 2) = omega (arith, two.0, two.1) in
          ap (coding_of ch) (source_fixed p k e)
          ∙ ext_get_or 0 (coding_of ch q) (coding_of ch k) ((codings q b).size ∙ sym (codings k l).size) (λ v c.
          let d : v < 16 = omega (arith, (codings q b).size) in
          let x : 512 * suc (suc (k / 32 - 2)) + (16 * (8 * p.to + k % 8) + v) ≡ 16 * k + v = omega (arith, f.0, f.1) in
          let y : 512 * suc (k / 32 - 2) + (16 * (8 * p.from + k % 8) + v) ≡ 16 * q + v = omega (arith, f.0, f.1, two.0, two.1) in
          coding_at_lem ch q v d
          ∙ ap (λ (i : ℕ). get_or ch i 0) (sym y)
          ∙ sym (get_or-drop (512 * suc (k / 32 - 2)) ch (16 * (8 * p.from + k % 8) + v) 0)
          ∙ sym (h.words (k / 32 - 2) (omega (arith, f.0)) (k % 8) v (omega arith) d)
          ∙ get_or-drop (512 * suc (suc (k / 32 - 2))) ch (16 * (8 * p.to + k % 8) + v) 0
          ∙ ap (λ (i : ℕ). get_or ch i 0) x
          ∙ sym (coding_at_lem ch k v d))

  round_of_lem : (l : ℕ) → l < r → Round (round_bytes r ch l)
  round_of_lem l hl = record {
    size = rw (length-drop (512 * (r + 2) + 408 * l) ch) (omega (arith, h.size));
    codings = λ k b.
        let a : 8 * (k / 8) + k % 8 ≡ k = omega arith in
        let q = h.codings.middles l (k / 8) (k % 8) hl (omega arith) (omega arith) in
        coding_of_lem (round_bytes r ch l) k (rw (length-drop (512 * (r + 2) + 408 * l) ch) (omega (arith, h.size))) (rw a at q);
    bits = λ k b. h.masks l k hl b;
  }

  abbrev round_parts : ℕ → List ℕ
  round_parts l = round_bytes_for (round_bytes r ch l)

  each_round : (l : ℕ) → l < r → Draws (round_use l) (round_parts l)
  each_round l hl = round_draws_lem (round_bytes r ch l) (round_of_lem l hl)

  rounds_draw_lem : Draws (rounds_draw r) (chunks r round_parts)
  unfolding rounds_draw
  rounds_draw_lem = draws_begins round_use round_parts r each_round

  rounds_reached : (t : List ℕ) → rounds_from r (chunks r round_parts ++ t) ≡ drop (512 * (r + 2)) ch
  unfolding rounds_from
  rounds_reached t =
      chunks_ext r (λ l. round_from (left round_use l (chunks r round_parts ++ t))) (λ l. take 408 (drop (408 * l) (drop (512 * (r + 2)) ch))) (λ l hl.
      let f = found round_use round_parts r each_round l hl t in
      ap round_from f.1
      ∙ round_reached (round_bytes r ch l) (round_of_lem l hl) f.0
      ∙ ap (take 408) (sym (drop-drop (408 * l) (512 * (r + 2)) ch)))
      ∙ cut_chunks 408 r (drop (512 * (r + 2)) ch)
      ∙ take_all (408 * r) (drop (512 * (r + 2)) ch) (rw (length-drop (512 * (r + 2)) ch) (omega (arith, h.size)))

  sets_part : Draws (sets_draw p r) (chunks (32 * (r + 2)) (place_bytes p ch))
  unfolding sets_draw
  sets_part = sets_draw_lem p planned.two (32 * (r + 2)) ch codings kept planned.same

  pub chain_draws_lem : (t : List ℕ) → chain_draws p (rounds z) (chain_bytes p (rounds z) ch ++ t) ≡ length (chain_bytes p (rounds z) ch)
  unfolding chain_draws chain_bytes
  chain_draws_lem = draws_after (sets_draw p r) (chunks (32 * (r + 2)) (place_bytes p ch)) sets_part (rounds_draw r) (chunks r round_parts) rounds_draw_lem

  pub chain_reached : (t : List ℕ) → chain_made p (rounds z) (chain_bytes p (rounds z) ch ++ t) ≡ ch
  unfolding chain_made chain_bytes sets_from
  chain_reached t =
      let a = chunks (32 * (r + 2)) (place_bytes p ch) in
      let q = chunks r round_parts in
      let e : 16 * (32 * (r + 2)) ≡ 512 * (r + 2) = omega arith in
      (λ i. (ap (λ (s : List ℕ). chunks (32 * (r + 2)) (set_coding p s)) (append_assoc a q t)
      ∙ sets_reached p planned.two (32 * (r + 2)) ch codings kept planned.same (q ++ t)) i
      ++ (ap (rounds_from r) (rest_is (sets_draw p r) a sets_part q t) ∙ rounds_reached t) i)
      ∙ rw e (take-append-drop (512 * (r + 2)) ch)

-- ---- they are bytes

bytes_chunks : (n : ℕ) (g : ℕ → List ℕ) → ((k : ℕ) → k < n → Bytes (g k)) → Bytes (chunks n g)
unfolding chunks
bytes_chunks zero g h = λ k. lit< tt
bytes_chunks (suc n) g h = bytes_append (chunks n g) (g n) (bytes_chunks n g (λ k l. h k (omega arith))) (h n (omega arith))

set_bytes_lem : (p : Plan) (l : List ℕ) (k : ℕ) → IsCoding (coding_of l k) → Bytes (place_bytes p l k)
unfolding place_bytes
set_bytes_lem p l k h = go (undrawn p k)
  where
    go : (b : Bool) → Bytes (cond b [] (bytes_for (coding_of l k)))
    go true = λ i. lit< tt
    go false = coding_bytes_lem (coding_of l k) h

mask_bytes_lem : (l : List ℕ) → Round l → Bytes (mask_bytes l)
mask_bytes_lem l h = bytes_of_lem (mask_bytes l) (λ k b.
    let m : k < 24 = rw (length_mask_bytes l h) at b in
    let e = mask_byte_lem l h k m in
    omega (arith, h.bits k m))

round_bytes_lem : (l : List ℕ) → Round l → Bytes (round_bytes_for l)
unfolding round_bytes_for middle_bytes
round_bytes_lem l h =
    bytes_append (chunks 24 (middle_bytes l)) (mask_bytes l)
    (bytes_chunks 24 (middle_bytes l) (λ k b. coding_bytes_lem (coding_of l k) (h.codings k b))) (mask_bytes_lem l h)

pub chain_bytes_lem : (p : Plan) (z : KeySize) (ch : List ℕ) → Planned p z ch → Bytes (chain_bytes p (rounds z) ch)
unfolding chain_bytes
chain_bytes_lem p z ch h =
    bytes_append (chunks (32 * (rounds z + 2)) (place_bytes p ch)) (chunks (rounds z) (λ l. round_bytes_for (round_bytes (rounds z) ch l)))
    (bytes_chunks (32 * (rounds z + 2)) (place_bytes p ch) (λ k l. set_bytes_lem p ch k (codings p z ch h k l)))
    (bytes_chunks (rounds z) (λ l. round_bytes_for (round_bytes (rounds z) ch l)) (λ l hl. round_bytes_lem (round_bytes (rounds z) ch l) (round_of_lem p z ch h l hl)))
