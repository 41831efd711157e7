-- Laws of bytes over those of a buffer: parts that are put one after another are put as one.
use mathlib.Core.Path.{◌≡◌, sym, ap, ap₂, ◌∙◌}
use mathlib.Core.List.{List, [], ◌++◌, append_assoc, append-nil}
use Prim.Native.Nat.{ℕ, ◌+◌, ◌≤◌}
use native.Mathlib.Omega.{arith}
use lib.ListN.{length, take, drop, length-append, take-append-drop}
use lib.Seq.{length-take-le}
use Rattle.lists.specs.Overlay.{overlaid}
use Rattle.lists.proofs.PartLaws.{put_more}

pub nothing_overlaid : (d : List ℕ) (at : ℕ) (b : List ℕ) → b ≡ [] → d ≡ overlaid d at b
nothing_overlaid d at b e =
    let z : at ≡ at + 0 = omega arith in
    sym (take-append-drop at d) ∙ ap₂ {C = List ℕ} (λ (a c : List ℕ). a ++ c) (sym (append-nil (take at d))) (ap (λ (j : ℕ). drop j d) z) ∙ ap (overlaid d at) (sym e)

module _ (out : List ℕ) (at : ℕ) where
  pub two_overlaid : (x b : List ℕ) (n : ℕ) → n ≡ at + length x → at + length x ≤ length out → overlaid (overlaid out at x) n b ≡ overlaid out at (x ++ b)
  two_overlaid x b n e h =
      let p = take at out ++ x in
      let lp : length p ≡ n = length-append (take at out) x ∙ ap (λ (j : ℕ). j + length x) (length-take-le at out (omega arith)) ∙ sym e in
      let z : n + length b ≡ at + length (x ++ b) = ap (λ (j : ℕ). j + length b) e ∙ (omega (arith, length-append x b)) in
      put_more p out (overlaid out at x) b n (length b) lp (ap (λ (j : ℕ). p ++ drop j out) (sym e))
      ∙ ap₂ {C = List ℕ} (λ (a c : List ℕ). a ++ c) (append_assoc (take at out) x b) (ap (λ (j : ℕ). drop j out) z)

  pub four_overlaid : (b0 b1 b2 b3 o1 o2 o3 o4 : List ℕ) (n1 n2 n3 : ℕ) → o1 ≡ overlaid out at b0 → n1 ≡ at + length b0 → o2 ≡ overlaid o1 n1 b1 → n2 ≡ n1 + length b1
      → o3 ≡ overlaid o2 n2 b2 → n3 ≡ n2 + length b2 → o4 ≡ overlaid o3 n3 b3 → n3 + length b3 ≤ length out
      → o4 ≡ overlaid out at (((b0 ++ b1) ++ b2) ++ b3)
  four_overlaid b0 b1 b2 b3 o1 o2 o3 o4 n1 n2 n3 e1 f1 e2 f2 e3 f3 e4 h =
      let l1 = length-append b0 b1 in
      let l2 = length-append (b0 ++ b1) b2 in
      let g2 : o2 ≡ overlaid out at (b0 ++ b1) = e2 ∙ ap (λ (o : List ℕ). overlaid o n1 b1) e1 ∙ two_overlaid b0 b1 n1 f1 (omega arith) in
      let g3 : o3 ≡ overlaid out at ((b0 ++ b1) ++ b2) = e3 ∙ ap (λ (o : List ℕ). overlaid o n2 b2) g2 ∙ two_overlaid (b0 ++ b1) b2 n2 (omega arith) (omega arith) in
      e4 ∙ ap (λ (o : List ℕ). overlaid o n3 b3) g3 ∙ two_overlaid ((b0 ++ b1) ++ b2) b3 n3 (omega arith) (omega arith)
