-- What is made is always a valid chain (01's term), whatever the bytes.
use mathlib.Core.Path.{◌≡◌, refl, sym, ap, ◌∙◌}
use mathlib.Core.Bool.{Bool, true, false, cond}
use mathlib.Core.List.{List}
use Prim.Native.Nat.{ℕ, suc, ◌+◌, ◌-◌, ◌*◌, ◌/◌, ◌≤◌, ◌<◌}
use native.Mathlib.Omega.{arith}
use lib.ListN.{length, get_or, take, drop, length-append, length-drop, get_or-append}
use lib.Seq.{get_or-drop, length-take-le}
use Rattle.lists.proofs.TabulationLaws.{length_tab, get_or_tab}
use Rattle.lists.proofs.ChunkLaws.{length_chunks, get_or_chunks, get_or_second}
use Rattle.cipher.specs.KeySize.{rounds}
use Rattle.cipher.specs.Coding.{Permutation, coding_at}
use Rattle.cipher.specs.Chain.{message_set, chain_set, round_bytes, middle_set, mask_at, ChainBy}
use Rattle.cipher.proofs.Permutation.{once_ext}
use Rattle.cipher.specs.declared.size.KeySize.{KeySize}
use Rattle.coding_maker.specs.Laws.{IsCoding}
use Rattle.coding_maker.specs.Draw.{coding_from}
use Rattle.maker.specs.Plan.{Plan, TwoWords, source, given_coding}
use Rattle.coding_maker.specs.Parts.{left}
use Rattle.maker.specs.MadeChain.{set_use, free_coding, set_coding, middle_use, middles_draw, middles_from, mask_from, masks_from, round_from, sets_draw, sets_from}
use Rattle.maker.specs.MadeChain.{round_use, rounds_from, chain_made}
use Rattle.coding_maker.proofs.CodingDrawn.{sends, coding_drawn}
use Rattle.maker.proofs.Places.{given_known, source_word}

-- ---- a round

abbrev middle_coding : List ℕ → ℕ → List ℕ
middle_coding s k = coding_from (left middle_use k s)

pub length_middles : (s : List ℕ) → length (middles_from s) ≡ 384
unfolding middles_from
length_middles s = length_chunks (middle_coding s) 16 (λ k. (coding_drawn (left middle_use k s)).size) 24

pub length_masks : (s : List ℕ) → length (masks_from s) ≡ 24
unfolding masks_from
length_masks s = length_tab 24 (λ k. mask_from k s)

pub length_round : (s : List ℕ) → length (round_from s) ≡ 408
unfolding round_from
length_round s = length-append (middles_from s) (masks_from (drop (middles_draw s) s)) ∙ rw (length_middles s, length_masks (drop (middles_draw s) s))

round_coding : (s : List ℕ) (k v : ℕ) → k < 24 → v < 16 → get_or (round_from s) (16 * k + v) 0 ≡ sends (middle_coding s k) v
unfolding round_from middles_from
round_coding s k v hk hv =
    let e : 16 * k + v ≡ k * 16 + v = omega arith in
    get_or-append (middles_from s) (masks_from (drop (middles_draw s) s)) 0 (16 * k + v) (rw (length_middles s) (omega arith))
    ∙ ap (λ (i : ℕ). get_or (middles_from s) i 0) e
    ∙ get_or_chunks (middle_coding s) 16 (λ k. (coding_drawn (left middle_use k s)).size) 24 k v hk hv

round_mask : (s : List ℕ) (k : ℕ) → k < 24 → get_or (round_from s) (384 + k) 0 ≡ mask_from k (drop (middles_draw s) s)
unfolding round_from masks_from
round_mask s k hk =
    get_or_second (middles_from s) (masks_from (drop (middles_draw s) s)) 384 k (384 + k) (length_middles s) refl
    ∙ get_or_tab 24 (λ k. mask_from k (drop (middles_draw s) s)) k hk

mask_lt : (k : ℕ) (s : List ℕ) → mask_from k s < 2
unfolding mask_from
mask_lt k s = omega arith

-- ---- the sets

-- coding k of those in l, one after another
abbrev pub coding_of : List ℕ → ℕ → List ℕ
coding_of l k = take 16 (drop (16 * k) l)

-- a plan by which valid chains are made
pub record Sound (p : Plan) : Type 0 where
  pub words : TwoWords p.from p.to
  pub codings : (k : ℕ) → k < length p.given / 16 → IsCoding (coding_of p.given k)

module _ (p : Plan) where
  length_free : (k : ℕ) (s : List ℕ) → length (free_coding p k s) ≡ 16
  unfolding free_coding
  length_free k s = go (given_coding p k) refl
    where
      go : (b : Bool) → given_coding p k ≡ b → length (cond b (coding_of p.given (k - 32)) (coding_from s)) ≡ 16
      go true e =
          let h = given_known p k e in
          length-take-le 16 (drop (16 * (k - 32)) p.given) (rw (length-drop (16 * (k - 32)) p.given) (omega (arith, h.1)))
      go false e = (coding_drawn s).size

  pub length_set_coding : (s : List ℕ) (k : ℕ) → length (set_coding p s k) ≡ 16
  unfolding set_coding
  length_set_coding s k = length_free (source p k) (left (set_use p) (source p k) s)

  free_permutes : Sound p → (k : ℕ) (s : List ℕ) → Permutation (sends (free_coding p k s))
  unfolding free_coding
  free_permutes h k s = go (given_coding p k) refl
    where
      go : (b : Bool) → given_coding p k ≡ b → Permutation (sends (cond b (coding_of p.given (k - 32)) (coding_from s)))
      go true e = (h.codings (k - 32) (given_known p k e).1).permutes
      go false e = (coding_drawn s).permutes

  set_permutes : Sound p → (s : List ℕ) (k : ℕ) → Permutation (sends (set_coding p s k))
  unfolding set_coding
  set_permutes h s k = free_permutes h (source p k) (left (set_use p) (source p k) s)

  -- what is fixed by the same coding is the same
  pub set_same : (s : List ℕ) (i j : ℕ) → source p i ≡ source p j → set_coding p s i ≡ set_coding p s j
  unfolding set_coding
  set_same s i j e = ap (λ (k : ℕ). free_coding p k (left (set_use p) k s)) e

  module _ (r : ℕ) (s : List ℕ) where
    length_sets : length (sets_from p r s) ≡ 512 * (r + 2)
    unfolding sets_from
    length_sets = length_chunks (set_coding p s) 16 (length_set_coding s) (32 * (r + 2)) ∙ omega arith

pub length_rounds : (r : ℕ) (s : List ℕ) → length (rounds_from r s) ≡ r * 408
unfolding rounds_from
length_rounds r s = length_chunks (λ l. round_from (left round_use l s)) 408 (λ l. length_round (left round_use l s)) r

-- ---- the chain

module _ (p : Plan) (r : ℕ) (s : List ℕ) where
  abbrev ch : List ℕ
  ch = chain_made p r s

  abbrev rest : List ℕ
  rest = drop (sets_draw p r s) s

  pub chain_length_lem : length (chain_made p r s) ≡ 1024 + 920 * r
  unfolding chain_made
  chain_length_lem = length-append (sets_from p r s) (rounds_from r rest) ∙ rw (length_sets p r s, length_rounds r rest) (omega arith)

  pub front : (k v : ℕ) → k < 32 * (r + 2) → v < 16 → coding_at ch k v ≡ sends (set_coding p s k) v
  unfolding chain_made sets_from
  front k v hk hv =
      let e : 16 * k + v ≡ k * 16 + v = omega arith in
      get_or-append (sets_from p r s) (rounds_from r rest) 0 (16 * k + v) (rw (length_sets p r s) (omega arith))
      ∙ ap (λ (i : ℕ). get_or (sets_from p r s) i 0) e
      ∙ get_or_chunks (set_coding p s) 16 (length_set_coding p s) (32 * (r + 2)) k v hk hv

  set_at : (l w j v : ℕ) → l ≤ r → w < 4 → j < 8 → v < 16 → chain_set ch l w j v ≡ sends (set_coding p s (32 * suc l + (8 * w + j))) v
  set_at l w j v hl hw hj hv =
      let e : 512 * suc l + (16 * (8 * w + j) + v) ≡ 16 * (32 * suc l + (8 * w + j)) + v = omega arith in
      get_or-drop (512 * suc l) ch (16 * (8 * w + j) + v) 0
      ∙ ap (λ (i : ℕ). get_or ch i 0) e
      ∙ front (32 * suc l + (8 * w + j)) v (omega arith) hv

  behind : (l o : ℕ) → l < r → o < 408 → get_or (round_bytes r ch l) o 0 ≡ get_or (round_from (left round_use l rest)) o 0
  unfolding chain_made rounds_from
  behind l o hl ho =
      get_or-drop (512 * (r + 2) + 408 * l) ch o 0
      ∙ get_or_second (sets_from p r s) (rounds_from r rest) (512 * (r + 2)) (l * 408 + o) (512 * (r + 2) + 408 * l + o) (length_sets p r s) (omega arith)
      ∙ get_or_chunks (λ l. round_from (left round_use l rest)) 408 (λ l. length_round (left round_use l rest)) r l o hl ho

  middle_at : (l i j v : ℕ) → l < r → i < 3 → j < 8 → v < 16 → middle_set r ch l i j v ≡ sends (middle_coding (left round_use l rest) (8 * i + j)) v
  middle_at l i j v hl hi hj hv =
      behind l (16 * (8 * i + j) + v) hl (omega arith) ∙ round_coding (left round_use l rest) (8 * i + j) v (omega arith) hv

  mask_at_lem : (l k : ℕ) → l < r → k < 24
      → mask_at r ch l k ≡ mask_from k (drop (middles_draw (left round_use l rest)) (left round_use l rest))
  mask_at_lem l k hl hk = behind l (384 + k) hl (omega arith) ∙ round_mask (left round_use l rest) k hk

pub chain_valid : (p : Plan) → Sound p → (z : KeySize) (s : List ℕ) → ChainBy p.from p.to z (chain_made p (rounds z) s)
chain_valid p h z s =
    let r = rounds z in
    let c = chain_made p (rounds z) s in
    let w = h.words in
    record {
      size = chain_length_lem p r s;
      codings = record {
        message = λ w j hw hj. once_ext 16 16 (sends (set_coding p s (8 * w + j))) (message_set c w j)
            (λ v hv. sym (front p r s (8 * w + j) v (omega arith) hv)) (set_permutes p h s (8 * w + j));
        sets = λ l hl w j hw hj. once_ext 16 16 (sends (set_coding p s (32 * suc l + (8 * w + j)))) (chain_set c l w j)
            (λ v hv. sym (set_at p r s l w j v hl hw hj hv)) (set_permutes p h s (32 * suc l + (8 * w + j)));
        middles = λ l i j hl hi hj.
            once_ext 16 16 (sends (middle_coding (left round_use l (rest p r s)) (8 * i + j))) (middle_set r c l i j)
            (λ v hv. sym (middle_at p r s l i j v hl hi hj hv)) (coding_drawn (left middle_use (8 * i + j) (left round_use l (rest p r s)))).permutes;
      };
      words = λ l hl j v hj hv.
          set_at p r s (suc l) p.to j v hl w.1 hj hv
          ∙ ap (λ (x : List ℕ). sends x v) (set_same p s (32 * suc (suc l) + (8 * p.to + j)) (32 * suc l + (8 * p.from + j)) (source_word p w l j hj))
          ∙ sym (set_at p r s l p.from j v (omega arith) w.0 hj hv);
      masks = λ l k hl hk. rw (mask_at_lem p r s l k hl hk) (mask_lt k (drop (middles_draw (left round_use l (rest p r s))) (left round_use l (rest p r s))));
    }
