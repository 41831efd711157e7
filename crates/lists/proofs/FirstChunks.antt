-- The parts of equal length that `as_chunks` makes of a slice, of which all or the first n are gone through.
use Rattle.std.proofs.Common.{◌≡◌, ℕ, zero, suc, ◌*◌, ◌≤◌, ◌<◌, List, [], length, get_or, take, drop, refl, ap, ◌∙◌, arith}
use native.Mathlib.Nat.{mul-zero, mul-suc}
use Rattle.std.proofs.lemmas.List.{length-take, length-take-le}
use lib.Seq.{get_or-take, drop-drop}
use Rattle.std.specs.Simd.{first_chunks}

chunk_at : (s k l : ℕ) (ys : List ℕ) → l < k → get_or (first_chunks s k ys) l [] ≡ take s (drop (s * l) ys)
chunk_at s zero l ys h = absurd (omega arith)
chunk_at s (suc k) zero ys h = rw mul-zero
chunk_at s (suc k) (suc l) ys h =
    chunk_at s k l (drop s ys) (omega arith)
    ∙ ap (take s) (drop-drop (s * l) s ys ∙ ap (λ (m : ℕ). drop m ys) (let e = mul-suc s l in omega arith))

-- one of them
pub chunk_is : (s k l : ℕ) (ys : List ℕ) (cs : List (List ℕ)) → cs ≡ first_chunks s k ys → l < k → get_or cs l [] ≡ take s (drop (s * l) ys)
chunk_is s k l ys cs e h = ap (λ (c : List (List ℕ)). get_or c l []) e ∙ chunk_at s k l ys h

pub chunk_first : (s k : ℕ) (ys : List ℕ) (cs : List (List ℕ)) → cs ≡ first_chunks s k ys → 0 < k → get_or cs 0 [] ≡ take s ys
chunk_first s k ys cs e h = chunk_is s k 0 ys cs e h ∙ rw mul-zero

count : (s k : ℕ) (ys : List ℕ) → length (first_chunks s k ys) ≡ k
count s zero ys = refl
count s (suc k) ys = ap suc (count s k (drop s ys))

-- how many they are
pub chunk_count : (s k : ℕ) (ys : List ℕ) (cs : List (List ℕ)) → cs ≡ first_chunks s k ys → length cs ≡ k
chunk_count s k ys cs e = ap length e ∙ count s k ys

-- of the first n
pub chunk_lent : (s n k l : ℕ) (ys : List ℕ) (cs : List (List ℕ)) → cs ≡ first_chunks s k ys → l < length (take n cs)
    → get_or (take n cs) l [] ≡ take s (drop (s * l) ys)
chunk_lent s n k l ys cs e h =
    let r = length-take n cs in
    let q = chunk_count s k ys cs e in
    get_or-take n cs l [] (omega arith) ∙ chunk_is s k l ys cs e (omega arith)

pub lent_count : (s n k : ℕ) (ys : List ℕ) (cs : List (List ℕ)) → cs ≡ first_chunks s k ys → n ≤ k → length (take n cs) ≡ n
lent_count s n k ys cs e h = length-take-le n cs (rw (e, count s k ys) h)
