-- Laws of a loop that writes n parts of s bytes one after another: what holds when it has come to part x, at the place at, a turn, and
-- its end. W says of a rule g that every call leaves what g gives; the rule is only named by who asks for the outcome.
use Rattle.std.proofs.Common.{◌≡◌, List, ◌++◌, ℕ, ◌+◌, ◌-◌, ◌*◌, ◌≤◌, ◌<◌, length, take, drop, ap, ◌∙◌, arith, length-append, length-drop}
use native.Mathlib.Nat.{suc-mul, mul-le-mul_right, add-sub_cancel_left}
use native.Mathlib.Numerals.{add-one}
use Rattle.lists.specs.Tabulation.{chunks}
use Rattle.lists.proofs.ChunkLaws.{chunks_more}
use Rattle.lists.proofs.PartLaws.{grown_part}

module _ (W : (ℕ → List ℕ) → Type 0) (s n : ℕ) (out₀ : List ℕ) where
  abbrev pub PartsBy : List ℕ → ℕ → ℕ → Type 0
  PartsBy out at x = (x ≤ n) × (at ≡ x * s) × (length out ≡ length out₀) × ((g : ℕ → List ℕ) → W g → out ≡ chunks x g ++ drop at out₀)

  -- the part that was lent came back as q
  abbrev grown : List ℕ → List ℕ → ℕ → List ℕ
  grown out q at = take at out ++ (q ++ drop (at + s - at) (drop at out))

  -- the next part is in the buffer
  pub part_inside : (at x : ℕ) → at ≡ x * s → x < n → length out₀ ≡ n * s → at + s ≤ length out₀
  part_inside at x e l room = omega (arith, mul-le-mul_right s l, suc-mul x s)

  pub parts_next : (out q : List ℕ) (at x : ℕ) → PartsBy out at x → x < n → length out₀ ≡ n * s → ((g : ℕ → List ℕ) → W g → q ≡ g x)
      → length (grown out q at) ≡ length out → PartsBy (grown out q at) (at + s) (x + 1)
  parts_next out q at x h l room d k = (omega arith, omega (arith, h.1, suc-mul x s, ap (λ (y : ℕ). y * s) (add-one x)), k ∙ h.2, more)
    where
      more : (g : ℕ → List ℕ) → W g → grown out q at ≡ chunks (x + 1) g ++ drop (at + s) out₀
      more g w =
          let e = h.3 g w in
          let inside = part_inside at x h.1 l room in
          let long : length (chunks x g) ≡ at = omega (arith, ap length e, length-append (chunks x g) (drop at out₀), length-drop at out₀, h.2, inside) in
          rw (add-sub_cancel_left at s, e, d g w, chunks_more) (grown_part (chunks x g) (g x) out₀ at s long)
