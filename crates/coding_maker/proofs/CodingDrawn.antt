-- What is drawn as a coding is a permutation, and every permutation comes out of some 15 bytes, of which none is skipped.
use mathlib.Core.Path.{◌≡◌, refl, sym, ap, ◌∙◌}
use mathlib.Core.Logic.{◌≢◌}
use mathlib.Core.List.{List, [], ◌∷◌, ◌++◌}
use Prim.Native.Nat.{ℕ, zero, suc, ◌+◌, ◌%◌, ◌≤◌, ◌<◌}
use native.Mathlib.Nat.{mod-lt, mod-eq_of_lt, zero-lt-suc}
use native.Mathlib.Decide.{ℕ_discrete, dec_lt}
use native.Mathlib.Omega.{arith}
use borrow.Author.Tests.{lt-leb}
use lib.Dec.{lit<}
use lib.ListN.{length, get_or, set, drop, length-set}
use lib.Seq.{get_or-set_same, get_or-set_other, ext_get_or}
use Rattle.lists.specs.Blocks.{Below, Bytes}
use Rattle.lists.proofs.TabulationLaws.{length_tab, get_or_tab}
use Rattle.cipher.specs.Coding.{decode}
use Rattle.cipher.proofs.Permutation.{decode_lt, code_decode}
use Rattle.coding_maker.specs.Laws.{IsCoding}
use Rattle.coding_maker.specs.Draw.{limit, skipped, drawn, chosen, swapped, shuffled, shuffle_draws, unshuffled, coding_from, coding_draws}

-- c sends v to its byte v
abbrev pub sends : List ℕ → ℕ → ℕ
sends c v = get_or c v 0

-- ---- two places that change contents

-- where what stands at i came from
from : (k j i : ℕ) → Dec (i ≡ j) → Dec (i ≡ k) → ℕ
from k j i (yes d) e = k
from k j i (no d) (yes e) = j
from k j i (no d) (no e) = i

from_lt : (n k j i : ℕ) (d : Dec (i ≡ j)) (e : Dec (i ≡ k)) → k < n → j < n → i < n → from k j i d e < n
unfolding from
from_lt n k j i (yes d) e hk hj hi = hk
from_lt n k j i (no d) (yes e) hk hj hi = hj
from_lt n k j i (no d) (no e) hk hj hi = hi

from_once : (k j a b : ℕ) (d : Dec (a ≡ j)) (e : Dec (a ≡ k)) (f : Dec (b ≡ j)) (g : Dec (b ≡ k)) → from k j a d e ≡ from k j b f g → a ≡ b
unfolding from
from_once k j a b (yes d) e (yes f) g h = d ∙ sym f
from_once k j a b (yes d) e (no f) (yes g) h = omega arith
from_once k j a b (yes d) e (no f) (no g) h = omega arith
from_once k j a b (no d) (yes e) (yes f) g h = omega arith
from_once k j a b (no d) (yes e) (no f) (yes g) h = omega arith
from_once k j a b (no d) (yes e) (no f) (no g) h = omega arith
from_once k j a b (no d) (no e) (yes f) g h = omega arith
from_once k j a b (no d) (no e) (no f) (yes g) h = omega arith
from_once k j a b (no d) (no e) (no f) (no g) h = h

module _ (c : List ℕ) (k j : ℕ) (hk : k < length c) (hj : j < length c) where
  swap_at : (i : ℕ) (d : Dec (i ≡ j)) (e : Dec (i ≡ k)) → sends (swapped c k j) i ≡ sends c (from k j i d e)
  unfolding swapped from
  swap_at i (yes d) e = rw d (get_or-set_same (set c k (get_or c j 0)) j (get_or c k 0) 0 (rw (length-set c k (get_or c j 0)) hj))
  swap_at i (no d) (yes e) =
      get_or-set_other (set c k (get_or c j 0)) j i (get_or c k 0) 0 d ∙ rw e (get_or-set_same c k (get_or c j 0) 0 hk)
  swap_at i (no d) (no e) =
      get_or-set_other (set c k (get_or c j 0)) j i (get_or c k 0) 0 d ∙ get_or-set_other c k i (get_or c j 0) 0 e

  -- place k then holds what stood at j
  swap_first : sends (swapped c k j) k ≡ sends c j
  unfolding from
  swap_first = go (ℕ_discrete k j)
    where
      go : Dec (k ≡ j) → sends (swapped c k j) k ≡ sends c j
      go (yes d) = swap_at k (yes d) (yes refl) ∙ ap (sends c) d
      go (no d) = swap_at k (no d) (yes refl)

  swap_other : (i : ℕ) → i ≢ j → i ≢ k → sends (swapped c k j) i ≡ sends c i
  unfolding from
  swap_other i d e = swap_at i (no d) (no e)

swap_coding : (c : List ℕ) (k j : ℕ) → IsCoding c → k < 16 → j < 16 → IsCoding (swapped c k j)
unfolding swapped
swap_coding c k j h hk hj = record {
  size = length-set (set c k (get_or c j 0)) j (get_or c k 0) ∙ length-set c k (get_or c j 0) ∙ h.size;
  permutes = record {
    low = λ i l. rw (at i (ℕ_discrete i j) (ℕ_discrete i k)) (h.permutes.low (from k j i (ℕ_discrete i j) (ℕ_discrete i k)) (from_lt 16 k j i (ℕ_discrete i j) (ℕ_discrete i k) hk hj l));
    once = λ a b la lb e.
        from_once k j a b (ℕ_discrete a j) (ℕ_discrete a k) (ℕ_discrete b j) (ℕ_discrete b k)
        (h.permutes.once (from k j a (ℕ_discrete a j) (ℕ_discrete a k)) (from k j b (ℕ_discrete b j) (ℕ_discrete b k))
        (from_lt 16 k j a (ℕ_discrete a j) (ℕ_discrete a k) hk hj la) (from_lt 16 k j b (ℕ_discrete b j) (ℕ_discrete b k) hk hj lb)
        (sym (at a (ℕ_discrete a j) (ℕ_discrete a k)) ∙ e ∙ at b (ℕ_discrete b j) (ℕ_discrete b k)));
  };
}
  where
    at : (i : ℕ) (d : Dec (i ≡ j)) (e : Dec (i ≡ k)) → sends (swapped c k j) i ≡ sends c (from k j i d e)
    at i d e = swap_at c k j (rw h.size hk) (rw h.size hj) i d e

-- ---- what is drawn is a permutation

pub chosen_lt : (k : ℕ) (s : List ℕ) → chosen k s < k + 1
chosen_lt k s = mod-lt (get_or s (skipped k s) 0) {m = k + 1} (omega arith)

shuffled_coding : (k : ℕ) → k < 16 → (c s : List ℕ) → IsCoding c → IsCoding (shuffled k c s)
unfolding shuffled
shuffled_coding zero hk c s h = h
shuffled_coding (suc k) hk c s h =
    shuffled_coding k (omega arith) (swapped c (suc k) (chosen (suc k) s)) (drop (drawn (suc k) s) s)
    (swap_coding c (suc k) (chosen (suc k) s) h hk (omega (arith, chosen_lt (suc k) s)))

pub unshuffled_coding : IsCoding unshuffled
unfolding unshuffled
unshuffled_coding = record {
  size = length_tab 16 (λ v. v);
  permutes = record {
    low = λ i l. rw (get_or_tab 16 (λ v. v) i l) l;
    once = λ i k l m e. sym (get_or_tab 16 (λ v. v) i l) ∙ e ∙ get_or_tab 16 (λ v. v) k m;
  };
}

pub coding_drawn : (s : List ℕ) → IsCoding (coding_from s)
unfolding coding_from
coding_drawn s = shuffled_coding 15 (lit< tt) unshuffled s unshuffled_coding

-- ---- every permutation is drawn from some bytes

-- the bytes that bring x about from c, by the places from k down to 1: where c has what belongs at k
unfoldable pub bytes_to : ℕ → List ℕ → List ℕ → List ℕ
bytes_to zero c x = []
bytes_to (suc k) c x = decode (sends c) (sends x (suc k)) ∷ bytes_to k (swapped c (suc k) (decode (sends c) (sends x (suc k)))) x

-- two codings that agree behind place k
abbrev Agree : ℕ → List ℕ → List ℕ → Type 0
Agree k c x = (i : ℕ) → k < i → i < 16 → sends c i ≡ sends x i

module _ (x : List ℕ) (hx : IsCoding x) where
  -- what belongs at k does not stand behind it
  place_le : (k : ℕ) (c : List ℕ) → k < 16 → IsCoding c → Agree k c x → decode (sends c) (sends x k) ≤ k
  place_le k c hk hc a = go (dec_lt k (decode (sends c) (sends x k)))
    where
      low : decode (sends c) (sends x k) < 16
      low = decode_lt (sends c) hc.permutes (sends x k) (hx.permutes.low k hk)

      go : Dec (k < decode (sends c) (sends x k)) → decode (sends c) (sends x k) ≤ k
      go (no d) = omega arith
      go (yes d) =
          let e = hx.permutes.once (decode (sends c) (sends x k)) k low hk
          (sym (a (decode (sends c) (sends x k)) d low) ∙ code_decode (sends c) hc.permutes (sends x k) (hx.permutes.low k hk)) in
          absurd (omega arith)

  all_agree : (c : List ℕ) → IsCoding c → Agree 0 c x → c ≡ x
  all_agree c hc a = ext_get_or 0 c x (hc.size ∙ sym hx.size) (λ i l. at i (rw hc.size at l))
    where
      zeroth : sends c 0 ≡ sends x 0
      zeroth =
          let h = place_le 0 c (lit< tt) hc a in
          let e : 0 ≡ decode (sends c) (sends x 0) = omega arith in
          ap (sends c) e ∙ code_decode (sends c) hc.permutes (sends x 0) (hx.permutes.low 0 (lit< tt))

      at : (i : ℕ) → i < 16 → sends c i ≡ sends x i
      at zero l = zeroth
      at (suc i) l = a (suc i) (zero-lt-suc i) l

  not_skipped : (k b : ℕ) (s : List ℕ) → k < 16 → b < 16 → skipped k (b ∷ s) ≡ 0
  unfolding skipped
  not_skipped k b s hk hb =
      let m : 256 % (k + 1) < k + 1 = mod-lt 256 {m = k + 1} (omega arith) in
      rw (lt-leb (limit k) b (omega arith))

  module _ (k : ℕ) (c : List ℕ) (hk : suc k < 16) (hc : IsCoding c) (a : Agree (suc k) c x) where
    abbrev j : ℕ
    j = decode (sends c) (sends x (suc k))

    j_lt : j < 16
    j_lt = decode_lt (sends c) hc.permutes (sends x (suc k)) (hx.permutes.low (suc k) hk)

    j_le : j ≤ suc k
    j_le = place_le (suc k) c hk hc a

    next_coding : IsCoding (swapped c (suc k) j)
    next_coding = swap_coding c (suc k) j hc hk j_lt

    next_agree : Agree k (swapped c (suc k) j) x
    next_agree i l m = go (ℕ_discrete i (suc k))
      where
        size_k : suc k < length c
        size_k = rw hc.size hk

        size_j : j < length c
        size_j = rw hc.size j_lt

        go : Dec (i ≡ suc k) → sends (swapped c (suc k) j) i ≡ sends x i
        go (yes d) =
            ap (sends (swapped c (suc k) j)) d
            ∙ swap_first c (suc k) j size_k size_j
            ∙ code_decode (sends c) hc.permutes (sends x (suc k)) (hx.permutes.low (suc k) hk)
            ∙ ap (sends x) (sym d)
        go (no d) =
            let b = j_le in
            swap_other c (suc k) j size_k size_j i (λ e. d (omega arith)) d ∙ a i (omega arith) m

    chosen_is : (s : List ℕ) → chosen (suc k) (j ∷ s) ≡ j
    chosen_is s =
        let b = j_le in
        ap (λ (n : ℕ). get_or (j ∷ s) n 0 % (suc k + 1)) (not_skipped (suc k) j s hk j_lt) ∙ mod-eq_of_lt {n = j} {m = suc k + 1} (omega arith)

    drawn_is : (s : List ℕ) → drop (drawn (suc k) (j ∷ s)) (j ∷ s) ≡ s
    drawn_is s = ap (λ (n : ℕ). drop (suc n) (j ∷ s)) (not_skipped (suc k) j s hk j_lt)

  reached : (k : ℕ) → k < 16 → (c : List ℕ) → IsCoding c → Agree k c x → (t : List ℕ)
      → (shuffled k c (bytes_to k c x ++ t) ≡ x) × (shuffle_draws k (bytes_to k c x ++ t) ≡ k)
  unfolding shuffled shuffle_draws bytes_to
  reached zero hk c hc a t = (all_agree c hc a, refl)
  reached (suc k) hk c hc a t =
      let y = j k c hk hc a in
      let s = bytes_to k (swapped c (suc k) y) x ++ t in
      let ih = reached k (omega arith) (swapped c (suc k) y) (next_coding k c hk hc a) (next_agree k c hk hc a) t in (
        (λ i. shuffled k (swapped c (suc k) (chosen_is k c hk hc a s i)) (drawn_is k c hk hc a s i)) ∙ ih.0,
        (λ i. suc (not_skipped (suc k) y s hk (j_lt k c hk hc a) i) + shuffle_draws k (drawn_is k c hk hc a s i)) ∙ rw ih.1 (omega arith),
      )

  bytes_length : (k : ℕ) (c : List ℕ) → length (bytes_to k c x) ≡ k
  unfolding bytes_to
  bytes_length zero c = refl
  bytes_length (suc k) c = ap suc (bytes_length k (swapped c (suc k) (decode (sends c) (sends x (suc k)))))

-- 15 bytes from which the coding x is drawn
unfoldable pub bytes_for : List ℕ → List ℕ
bytes_for x = bytes_to 15 unshuffled x

pub length_bytes : (x : List ℕ) → IsCoding x → length (bytes_for x) ≡ 15
unfolding bytes_for
length_bytes x h = bytes_length x h 15 unshuffled

none_behind : (x : List ℕ) → Agree 15 unshuffled x
none_behind x i l m = absurd (omega arith)

-- whatever stands behind them
pub coding_reached : (x : List ℕ) → IsCoding x → (t : List ℕ) → coding_from (bytes_for x ++ t) ≡ x
unfolding coding_from bytes_for
coding_reached x h t = (reached x h 15 (lit< tt) unshuffled unshuffled_coding (none_behind x) t).0

pub draws_reached : (x : List ℕ) → IsCoding x → (t : List ℕ) → coding_draws (bytes_for x ++ t) ≡ 15
unfolding coding_draws bytes_for
draws_reached x h t = (reached x h 15 (lit< tt) unshuffled unshuffled_coding (none_behind x) t).1

-- and they are bytes, below 16 even
bytes_low : (x : List ℕ) → IsCoding x → (k : ℕ) → k < 16 → (c : List ℕ) → IsCoding c → Below 16 (bytes_to k c x)
unfolding bytes_to
bytes_low x hx zero hk c hc i = lit< tt
bytes_low x hx (suc k) hk c hc zero = decode_lt (sends c) hc.permutes (sends x (suc k)) (hx.permutes.low (suc k) hk)
bytes_low x hx (suc k) hk c hc (suc i) =
    bytes_low x hx k (omega arith) (swapped c (suc k) (decode (sends c) (sends x (suc k))))
    (swap_coding c (suc k) (decode (sends c) (sends x (suc k))) hc hk (decode_lt (sends c) hc.permutes (sends x (suc k)) (hx.permutes.low (suc k) hk))) i

low_bytes : (x : List ℕ) → IsCoding x → Below 16 (bytes_for x)
unfolding bytes_for
low_bytes x h = bytes_low x h 15 (lit< tt) unshuffled unshuffled_coding

pub coding_bytes_lem : (x : List ℕ) → IsCoding x → Bytes (bytes_for x)
coding_bytes_lem x h k = let b = low_bytes x h k in omega arith
