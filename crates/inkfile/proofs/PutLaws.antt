-- Writing records into a buffer, and how many bytes they take.
use mathlib.Core.Path.{◌≡◌, sym, ap, ap₂, ◌∙◌}
use mathlib.Core.List.{List, [], ◌∷◌, ◌++◌, append_assoc}
use Prim.Native.Nat.{ℕ, ◌+◌, ◌-◌, ◌*◌, ◌%◌, ◌/◌, ◌≤◌}
use native.Mathlib.Nat.{add-sub_cancel_left}
use native.Mathlib.Omega.{arith}
use lib.ListN.{length, get_or, take, drop, length-append}
use lib.Seq.{length-take-le, drop-drop}
use Rattle.lists.specs.Overlay.{overlaid}
use Rattle.lists.proofs.PartLaws.{put_more}
use Rattle.lists.proofs.OverlayLaws.{four_overlaid}
use Rattle.words.specs.Word.{bytes_of}
use Rattle.inkfile.specs.Format.{Record, mark, head_of, record_of, Fields}
use Rattle.inkfile.specs.WritingSteps.{fixed_bytes, fixed_size}
use Rattle.inkfile.proofs.RecordLaws.{length_record}

-- the bytes of a number go by its lowest 32 bits
low_byte : (m t : ℕ) → (m + 256 * t) % 256 ≡ m % 256
low_byte m t = omega arith

pub low_bytes : (n : ℕ) → bytes_of (n % 4294967296) ≡ bytes_of n
unfolding bytes_of
low_bytes n =
    let m = n % 4294967296 in
    let t = n / 4294967296 in
    let e0 : n ≡ m + 256 * (16777216 * t) = omega arith in
    let e1 : n / 256 ≡ m / 256 + 256 * (65536 * t) = omega arith in
    let e2 : n / 65536 ≡ m / 65536 + 256 * (256 * t) = omega arith in
    let e3 : n / 16777216 ≡ m / 16777216 + 256 * t = omega arith in
    let a : n % 256 ≡ m % 256 = ap (λ (x : ℕ). x % 256) e0 ∙ low_byte m (16777216 * t) in
    let b : n / 256 % 256 ≡ m / 256 % 256 = ap (λ (x : ℕ). x % 256) e1 ∙ low_byte (m / 256) (65536 * t) in
    let c : n / 65536 % 256 ≡ m / 65536 % 256 = ap (λ (x : ℕ). x % 256) e2 ∙ low_byte (m / 65536) (256 * t) in
    let d : n / 16777216 % 256 ≡ m / 16777216 % 256 = ap (λ (x : ℕ). x % 256) e3 ∙ low_byte (m / 16777216) t in
    λ i. sym a i ∷ sym b i ∷ sym c i ∷ sym d i ∷ []

pub head_is : (kind n : ℕ) (b : List ℕ) → b ≡ bytes_of (n % 4294967296) → ◌≡◌ {A = List ℕ} (mark ∷ kind ∷ get_or b 0 0 ∷ get_or b 1 0 ∷ get_or b 2 0 ∷ get_or b 3 0 ∷ []) (head_of kind n)
unfolding bytes_of
head_is kind n b e = ap (λ (l : List ℕ). mark ∷ kind ∷ get_or l 0 0 ∷ get_or l 1 0 ∷ get_or l 2 0 ∷ get_or l 3 0 ∷ []) (e ∙ low_bytes n)

-- a part of a buffer that was made b
pub part_over : (out new b : List ℕ) (at n : ℕ) → new ≡ b → n ≡ length b → take at out ++ (new ++ drop (at + n - at) (drop at out)) ≡ overlaid out at b
part_over out new b at n e w = rw (add-sub_cancel_left at n, e, w, drop-drop (length b) at out) (sym (append_assoc (take at out) b (drop (at + length b) out)))

-- the head, as it is lent, and the bytes behind it
pub record_over : (out o1 o2 h body : List ℕ) (at kind : ℕ) → h ≡ head_of kind (length body) → at + 6 + length body ≤ length out
    → o1 ≡ overlaid out at h → o2 ≡ overlaid o1 (at + 6) body → o2 ≡ overlaid out at (record_of (kind, body))
unfolding record_of bytes_of
record_over out o1 o2 h body at kind eh l e1 e2 =
    let H = head_of kind (length body) in
    let p = take at out ++ H in
    let lp : length p ≡ at + 6 = length-append (take at out) H ∙ ap (λ (j : ℕ). j + 6) (length-take-le at out (omega arith)) in
    let w : o1 ≡ p ++ drop (at + 6) out = e1 ∙ ap (λ (x : List ℕ). overlaid out at x) eh in
    let z : at + 6 + length body ≡ at + (6 + length body) = omega arith in
    let y : 6 + length body ≡ length (record_of (kind, body)) = sym (length_record (kind, body)) in
    e2 ∙ put_more p out o1 body (at + 6) (length body) lp w
    ∙ ap₂ {C = List ℕ} (λ (a b : List ℕ). a ++ b) (append_assoc (take at out) H body) (ap (λ (j : ℕ). drop j out) (z ∙ ap (λ (j : ℕ). at + j) y))

-- ---- the first four records one after another

module _ (f : Fields) where
  abbrev r0 : Record
  r0 = (0x01, f.pad_number)

  abbrev r1 : Record
  r1 = (0x02, f.iv)

  abbrev r2 : Record
  r2 = (0x03, f.sealed)

  abbrev r3 : Record
  r3 = (0x04, f.tag)

  pub fixed_over : (out o1 o2 o3 o4 : List ℕ) (n1 n2 n3 n4 : ℕ)
      → (n1 ≡ 0 + 6 + length f.pad_number) × (o1 ≡ overlaid out 0 (record_of r0)) → (n2 ≡ n1 + 6 + length f.iv) × (o2 ≡ overlaid o1 n1 (record_of r1))
      → (n3 ≡ n2 + 6 + length f.sealed) × (o3 ≡ overlaid o2 n2 (record_of r2)) → (n4 ≡ n3 + 6 + length f.tag) × (o4 ≡ overlaid o3 n3 (record_of r3))
      → fixed_size f ≤ length out → (n4 ≡ fixed_size f) × (o4 ≡ overlaid out 0 (fixed_bytes f))
  unfolding fixed_bytes
  fixed_over out o1 o2 o3 o4 n1 n2 n3 n4 p1 p2 p3 p4 h =
      let l0 = length_record r0 in
      let l1 = length_record r1 in
      let l2 = length_record r2 in
      let l3 = length_record r3 in
      let e1 = p1.0 in
      let e2 = p2.0 in
      let e3 = p3.0 in
      let e4 = p4.0 in (
        omega arith,
        four_overlaid out 0 (record_of r0) (record_of r1) (record_of r2) (record_of r3) o1 o2 o3 o4 n1 n2 n3 p1.1 (omega arith) p2.1 (omega arith) p3.1 (omega arith) p4.1
            (omega arith),
      )

  pub length_fixed : length (fixed_bytes f) ≡ fixed_size f
  unfolding fixed_bytes
  length_fixed =
      let l0 = length_record r0 in
      let l1 = length_record r1 in
      let l2 = length_record r2 in
      let l3 = length_record r3 in
      let a = record_of r0 in
      let b = record_of r1 in
      let c = record_of r2 in
      let d = record_of r3 in
      omega (arith, length-append ((a ++ b) ++ c) d, length-append (a ++ b) c, length-append a b)
