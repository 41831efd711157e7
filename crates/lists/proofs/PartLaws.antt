-- A buffer that a loop fills from the front: what is written so far, then what it held before. One law for each way
-- in which one turn of a loop writes more: an element, a part that was lent, an element of an array that held z.
use mathlib.Core.Path.{◌≡◌, refl, sym, ap, ◌∙◌}
use mathlib.Core.List.{List, [], ◌∷◌, ◌++◌, append_assoc, append-nil}
use Prim.Native.Nat.{ℕ, zero, suc, ◌+◌, ◌-◌, ◌*◌, ◌≤◌, ◌<◌}
use native.Mathlib.Nat.{le_of_eq, add-sub_cancel_left}
use native.Mathlib.Numerals.{add-one}
use native.Mathlib.Omega.{arith}
use lib.ListN.{length, take, drop, get_or, set, replicate, length-drop, drop_of_length-le}
use lib.Seq.{get_or-take, get_or-drop, drop-cons, set_at, drop-drop, take_at, drop_at, length-take-le, append_snoc, take_all}
use Rattle.lists.specs.Tabulation.{tab, chunks}
use Rattle.lists.proofs.TabulationLaws.{tab_more, length_tab}
use Rattle.lists.proofs.ChunkLaws.{chunks_more, length_chunks}

-- p is written and the rest of d is as it was: one element more
pub grown : (p d : List ℕ) (n v : ℕ) → length p ≡ n → n < length d → set (p ++ drop n d) n v ≡ (p ++ (v ∷ [])) ++ drop (n + 1) d
grown p d n v e h =
    rw (add-one, drop-cons d n 0) (set_at p (get_or d n 0) (drop (suc n) d) v n e ∙ sym (append_snoc p v (drop (suc n) d)))

-- the part from n on was lent and came back as q and the rest
pub grown_part : (p q d : List ℕ) (n m : ℕ) → length p ≡ n
    → take n (p ++ drop n d) ++ (q ++ drop m (drop n (p ++ drop n d))) ≡ (p ++ q) ++ drop (n + m) d
grown_part p q d n m e =
    rw (take_at p (drop n d) n e, drop_at p (drop n d) n e, drop-drop m n d) (sym (append_assoc p q (drop (n + m) d)))

-- the whole of d is written
pub grown_whole : (p d : List ℕ) (n : ℕ) → length d ≤ n → p ++ drop n d ≡ p
grown_whole p d n h = rw (drop_of_length-le d h) (append-nil p)

-- the part `&l[a..]`, as the borrow checker writes it
pub part_end : (l : List ℕ) (a : ℕ) → take (length l - a) (drop a l) ≡ drop a l
part_end l a = take_all (length l - a) (drop a l) (le_of_eq (length-drop a l))

-- a loop that fills by a rule: a turn, and the end
pub tab_turn : (f : ℕ → ℕ) (d₀ d : List ℕ) (i v : ℕ) → d ≡ tab i f ++ drop i d₀ → v ≡ f i → i < length d₀
    → set d i v ≡ tab (i + 1) f ++ drop (i + 1) d₀
tab_turn f d₀ d i v e w h = rw (e, w, tab_more) (grown (tab i f) d₀ i (f i) (length_tab i f) h)

pub tab_full : (f : ℕ → ℕ) (d₀ d : List ℕ) (n i : ℕ) → d ≡ tab i f ++ drop i d₀ → i ≡ n → length d₀ ≡ n → d ≡ tab n f
tab_full f d₀ d n i e h l = e ∙ rw h (grown_whole (tab n f) d₀ n (le_of_eq l))

-- a loop that lends the next s places, `&mut d[a..a + s]`, whose length the borrow checker writes `a + s - a`: a turn,
-- the length of the part that is lent, and the end
pub chunks_turn : (g : ℕ → List ℕ) (s : ℕ) → ((k : ℕ) → length (g k) ≡ s) → (d₀ d q : List ℕ) (k a : ℕ)
    → d ≡ chunks k g ++ drop a d₀ → a ≡ k * s → q ≡ g k
    → take a d ++ (q ++ drop (a + s - a) (drop a d)) ≡ chunks (k + 1) g ++ drop (a + s) d₀
chunks_turn g s h d₀ d q k a e w v =
    rw (add-sub_cancel_left a s, e, v, chunks_more) (grown_part (chunks k g) (g k) d₀ a s (length_chunks g s h k ∙ sym w))

pub length_part : (d : List ℕ) (a s : ℕ) → a + s ≤ length d → length (take (a + s - a) (drop a d)) ≡ s
length_part d a s h = rw (add-sub_cancel_left a s) (length-take-le s (drop a d) (rw (length-drop a d) (omega arith)))

-- and an element of that part
pub get_or_part : (d : List ℕ) (a s k : ℕ) → k < s → get_or (take (a + s - a) (drop a d)) k 0 ≡ get_or d (a + k) 0
get_or_part d a s k h = rw (add-sub_cancel_left a s) (get_or-take s (drop a d) k 0 h ∙ get_or-drop a d k 0)

pub chunks_full : (g : ℕ → List ℕ) (d₀ d : List ℕ) (n k a : ℕ) → d ≡ chunks k g ++ drop a d₀ → k ≡ n → length d₀ ≤ a → d ≡ chunks n g
chunks_full g d₀ d n k a e h l = e ∙ rw h (grown_whole (chunks n g) d₀ a l)

-- an array of n that held z everywhere, of any elements
pub fill_more : {A : Type 0} (n i : ℕ) (z v : A) (p : List A) → length p ≡ i → i < n
    → set (p ++ replicate (n - i) z) i v ≡ (p ++ (v ∷ [])) ++ replicate (n - (i + 1)) z
fill_more n i z v p e h =
    let k : n - i ≡ suc (n - (i + 1)) = omega arith in
    rw k (set_at p z (replicate (n - (i + 1)) z) v i e ∙ sym (append_snoc p v (replicate (n - (i + 1)) z)))

-- a loop that fills such an array by a rule: a turn, and the end
pub fill_turn : (f : ℕ → ℕ) (n : ℕ) (d : List ℕ) (i v : ℕ) → d ≡ tab i f ++ replicate (n - i) 0 → v ≡ f i → i < n
    → set d i v ≡ tab (i + 1) f ++ replicate (n - (i + 1)) 0
fill_turn f n d i v e w h = rw (e, w, tab_more) (fill_more n i 0 (f i) (tab i f) (length_tab i f) h)

pub fill_full : (f : ℕ → ℕ) (n : ℕ) (d : List ℕ) (i : ℕ) → d ≡ tab i f ++ replicate (n - i) 0 → i ≡ n → d ≡ tab n f
fill_full f n d i e h =
    let k : n - i ≡ 0 = omega arith in
    e ∙ rw (k, append-nil, h)

-- b put over what stands from n on, where p is written so far
pub put_more : (p d out b : List ℕ) (n s : ℕ) → length p ≡ n → out ≡ p ++ drop n d → take n out ++ b ++ drop (n + s) out ≡ (p ++ b) ++ drop (n + s) d
put_more p d out b n s l e =
    ap {B = List ℕ} (λ x. take n x ++ b ++ drop (n + s) x) e
    ∙ rw (take_at p (drop n d) n l, sym (drop-drop s n (p ++ drop n d)), drop_at p (drop n d) n l, drop-drop s n d)

-- a front of a list, by the length that it has
pub take_same : (n m : ℕ) (l : List ℕ) → length (take n l) ≡ m → take m l ≡ take n l
take_same zero zero l e = refl
take_same zero (suc m) l e = absurd (omega arith)
take_same (suc n) zero [] e = refl
take_same (suc n) (suc m) [] e = absurd (omega arith)
take_same (suc n) zero (x ∷ l) e = absurd (omega arith)
take_same (suc n) (suc m) (x ∷ l) e = ap {B = List ℕ} (λ t. x ∷ t) (take_same n m l (omega arith))
