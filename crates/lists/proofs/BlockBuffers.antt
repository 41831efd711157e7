-- Blocks written one after another over a buffer, as a loop goes: the first k are made by the rule f, the rest of d is as it was.
use mathlib.Core.Path.{◌≡◌, refl, sym, ap, ap₂, ◌∙◌}
use mathlib.Core.List.{List, ◌++◌, append_assoc}
use Prim.Native.Nat.{ℕ, zero, suc, ◌+◌, ◌-◌, ◌*◌, ◌≤◌, ◌<◌}
use native.Mathlib.Nat.{add-sub_cancel_left}
use native.Mathlib.Omega.{arith}
use lib.ListN.{length, get_or, take, drop, length-append, length-drop, take-append-drop, get_or-append}
use lib.Seq.{ext_get_or, get_or-take, get_or-drop, drop_at, drop-drop, length-take-le}
use Rattle.lists.specs.Tabulation.{chunks}
use Rattle.lists.specs.Blocks.{block_of}
use Rattle.lists.proofs.ChunkLaws.{chunks_more, length_chunks, get_or_chunks}
use Rattle.lists.proofs.PartLaws.{put_more}

abbrev pub Made : (ℕ → List ℕ) → List ℕ → ℕ → List ℕ → Type 0
Made f d k out = out ≡ chunks k f ++ drop (16 * k) d

-- all blocks of a buffer are there before any is made
pub made_none : (n : ℕ) (d : List ℕ) → 16 * n ≤ length d → Made (block_of d) d n d
unfolding chunks
made_none zero d h = refl
made_none (suc n) d h =
    let e : 16 * suc n ≡ 16 * n + 16 = omega arith in
    made_none n d (omega arith)
    ∙ ap (λ (l : List ℕ). chunks n (block_of d) ++ l) (sym (take-append-drop 16 (drop (16 * n) d)) ∙ ap (λ (l : List ℕ). block_of d n ++ l) (drop-drop 16 (16 * n) d ∙ ap (λ (k : ℕ). drop k d) (sym e)))
    ∙ sym (append_assoc (chunks n (block_of d)) (block_of d n) (drop (16 * suc n) d))

module _ (f : ℕ → List ℕ) (len : (k : ℕ) → length (f k) ≡ 16) (d : List ℕ) where
  made_length : (k : ℕ) → length (chunks k f) ≡ 16 * k
  made_length k = length_chunks f 16 len k ∙ omega arith

  module _ (k : ℕ) (out : List ℕ) (e : Made f d k out) where
    -- the next block is still that of d
    pub made_next : block_of out k ≡ block_of d k
    made_next = ap (λ (l : List ℕ). take 16 (drop (16 * k) l)) e ∙ ap (take 16) (drop_at (chunks k f) (drop (16 * k) d) (16 * k) (made_length k))

    -- one block more
    pub made_more : (y : List ℕ) → y ≡ f k → Made f d (k + 1) (take (16 * k) out ++ y ++ drop (16 * k + 16) out)
    made_more y w =
        let q : 16 * k + 16 ≡ 16 * (k + 1) = omega arith in
        put_more (chunks k f) d out y (16 * k) 16 (made_length k) e
        ∙ ap₂ (λ (a : List ℕ) (n : ℕ). a ++ drop n d) (ap (λ (b : List ℕ). chunks k f ++ b) w ∙ sym (chunks_more k f)) q

    -- the same where the next block is lent, `&mut out[16k..16k + 16]`
    pub made_part : take (16 * k + 16 - 16 * k) (drop (16 * k) out) ≡ block_of d k
    made_part = ap (λ (n : ℕ). take n (drop (16 * k) out)) (add-sub_cancel_left (16 * k) 16) ∙ made_next

    pub made_lent : (y : List ℕ) → y ≡ f k → Made f d (k + 1) (take (16 * k) out ++ (y ++ drop (16 * k + 16 - 16 * k) (drop (16 * k) out)))
    made_lent y w =
        ap (λ (l : List ℕ). take (16 * k) out ++ (y ++ l)) (ap (λ (n : ℕ). drop n (drop (16 * k) out)) (add-sub_cancel_left (16 * k) 16) ∙ drop-drop 16 (16 * k) out)
        ∙ sym (append_assoc (take (16 * k) out) y (drop (16 * k + 16) out))
        ∙ made_more y w

    -- a block that was made
    pub made_block : 16 * k ≤ length d → (i : ℕ) → i < k → block_of out i ≡ f i
    made_block room i h =
        ext_get_or 0 (block_of out i) (f i) (size ∙ sym (len i)) (λ j l.
        let m : j < 16 = rw size at l in
        get_or-take 16 (drop (16 * i) out) j 0 m
        ∙ get_or-drop (16 * i) out j 0
        ∙ ap (λ (l : List ℕ). get_or l (16 * i + j) 0) e
        ∙ get_or-append (chunks k f) (drop (16 * k) d) 0 (16 * i + j) (rw (made_length k) (omega arith))
        ∙ ap (λ (n : ℕ). get_or (chunks k f) n 0) (omega arith)
        ∙ get_or_chunks f 16 len k i j h m)
      where
        whole : length out ≡ length d
        whole = ap length e ∙ length-append (chunks k f) (drop (16 * k) d) ∙ rw (made_length k, length-drop (16 * k) d) (omega arith)

        size : length (block_of out i) ≡ 16
        size = length-take-le 16 (drop (16 * i) out) (rw (length-drop (16 * i) out, whole) (omega arith))
