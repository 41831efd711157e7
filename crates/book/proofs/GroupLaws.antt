-- The start and the three groups as the builder puts them together.
use mathlib.Core.Path.{◌≡◌, refl, sym, ap₂, ◌∙◌}
use mathlib.Core.List.{List, [], ◌∷◌}
use Prim.Native.Nat.{ℕ, zero, suc, ◌+◌, ◌*◌, ◌/◌, ◌%◌, ◌<◌}
use native.Mathlib.Omega.{arith}
use lib.Dec.{lit<}
use lib.ListN.{get_or}
use Rattle.lists.specs.Tabulation.{tab, chunks}
use Rattle.lists.specs.Blocks.{zeros}
use Rattle.lists.proofs.TabulationLaws.{tab_ext, get_d_replicate}
use Rattle.cipher.specs.Coding.{FirstPermutations, set_of, coded, inverted}
use Rattle.cipher.specs.Book.{group_part}
use Rattle.cipher.proofs.InverseLaws.{coded_byte, coded_bytes}
use Rattle.table_maker.specs.Made.{made_fold, three_keys}
use Rattle.book.proofs.BuildLaws.{group_is}

-- ---- the start

abbrev pub start_byte : List ℕ → ℕ → ℕ
start_byte s k = get_or s (32 * k) 0 + 16 * get_or s (32 * k + 16) 0

pub start_low : (s : List ℕ) → FirstPermutations 32 s → (k : ℕ) → k < 16 → (get_or s (32 * k) 0 < 16) × (get_or s (32 * k + 16) 0 < 16)
start_low s h k hk =
    let a = (h (2 * k) (omega arith)).low 0 (lit< tt) in
    let b = (h (2 * k + 1) (omega arith)).low 0 (lit< tt) in
    let d : 16 * (2 * k) + 0 ≡ 32 * k = omega arith in
    let e : 16 * (2 * k + 1) + 0 ≡ 32 * k + 16 = omega arith in
    (rw d at a, rw e at b)

pub start_is : (s : List ℕ) → tab 16 (start_byte s) ≡ coded (set_of s) zeros
start_is s =
    tab_ext 16 (start_byte s) (coded_byte s zeros) (λ k hk.
    let z : get_or zeros k 0 ≡ 0 = get_d_replicate 16 0 k in
    let d : 32 * k ≡ 32 * k + get_or zeros k 0 % 16 = omega arith in
    let e : 32 * k + 16 ≡ 32 * k + 16 + get_or zeros k 0 / 16 = omega arith in
    ap₂ (λ (x y : ℕ). get_or s x 0 + 16 * get_or s y 0) d e)
    ∙ sym (coded_bytes s zeros (λ k. rw (get_d_replicate 16 0 k) (lit< tt)))

-- ---- the groups

-- the key block of a group, as it stands among the three
three_is : (k1 k2 : List ℕ) (g : ℕ) → g < 3 → get_or (zeros ∷ k1 ∷ k2 ∷ []) g [] ≡ three_keys k1 k2 g
unfolding three_keys
three_is k1 k2 zero h = refl
three_is k1 k2 (suc zero) h = refl
three_is k1 k2 (suc (suc zero)) h = refl
three_is k1 k2 (suc (suc (suc g))) h = absurd (omega arith)

-- fold tables from inverted sets are those of the group
pub group_made : (L M F k1 k2 s u v : List ℕ) (g : ℕ) → s ≡ inverted 32 L → u ≡ inverted 32 M → g < 3
    → v ≡ chunks 32 (made_fold s u F (get_or (zeros ∷ k1 ∷ k2 ∷ []) g [])) → v ≡ group_part (set_of L) (set_of M) (set_of F) (three_keys k1 k2 g)
group_made L M F k1 k2 s u v g es eu hg e =
    e
    ∙ (λ i. chunks 32 (made_fold (es i) (eu i) F (three_is k1 k2 g hg i)))
    ∙ group_is L M F (three_keys k1 k2 g)
