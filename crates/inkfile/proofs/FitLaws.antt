-- Records that may stand one after another, each of a length that its kind allows: fields within the limits are such records, and such
-- records are fields within the limits.
use mathlib.Core.Path.{◌≡◌, refl}
use mathlib.Core.Bool.{true}
use mathlib.Core.List.{List, [], ◌∷◌}
use Prim.Native.Nat.{ℕ, suc, ◌+◌, ◌≤◌, ◌<◌}
use native.Mathlib.Omega.{arith}
use borrow.Author.Tests.{eqb-true}
use lib.Dec.{lit≤, lit<}
use lib.ListN.{length}
use Rattle.inkfile.specs.Kinds.{kind_of, sized}
use Rattle.inkfile.specs.Faults.{DueKind, one_of_four, a_remark, KindLength, of_pad_number, of_iv, of_sealed, of_tag, of_remark, Fitting}
use Rattle.inkfile.specs.Format.{Record, Fields, records_of, AllowedRemark, AllowedRemarks, no_more, one_more, Allowed}
use Rattle.inkfile.proofs.KindLaws.{due_fixed, kind_sized, sized_blocks}

-- from record k on
pub data Fit : ℕ → List Record → Type 0 where
  none : {k : ℕ} → Fit k []
  more : {k : ℕ} {r : Record} {rs : List Record} → Fitting k r.0 (length r.1) → Fit (suc k) rs → Fit k (r ∷ rs)

-- ---- fields within the limits fit

remarks_fit : (k : ℕ) (rs : List Record) → 4 ≤ k → k + length rs ≤ 8 → AllowedRemarks rs → Fit k rs
remarks_fit k [] l h no_more = none
remarks_fit k (r ∷ rs) l h (one_more a b) =
    let w : Fitting k r.0 (length r.1) = record { placed = a_remark l (omega arith) a.low a.high; measured = of_remark a.low a.high a.short } in
    more {k = k} {r = r} w (remarks_fit (suc k) rs (omega arith) (omega arith) b)

pub allowed_fit : (f : Fields) → Allowed f → Fit 0 (records_of f)
allowed_fit f a =
    more (record { placed = one_of_four (lit< tt) refl; measured = of_pad_number refl a.pad_number })
    (more (record { placed = one_of_four (lit< tt) refl; measured = of_iv refl a.iv })
    (more (record { placed = one_of_four (lit< tt) refl; measured = of_sealed refl a.least a.most a.whole })
    (more (record { placed = one_of_four (lit< tt) refl; measured = of_tag refl a.tag })
    (remarks_fit 4 f.remarks (lit≤ tt) (let h = a.few in omega arith) a.remarks))))

-- ---- and the other way

fit_remark : (k : ℕ) (r : Record) → 4 ≤ k → DueKind k r.0 → KindLength r.0 (length r.1) → AllowedRemark r × (k < 8)
fit_remark k r l (one_of_four h e) m = absurd (omega arith)
fit_remark k r l (a_remark h u low high) (of_pad_number e m) = absurd (omega arith)
fit_remark k r l (a_remark h u low high) (of_iv e m) = absurd (omega arith)
fit_remark k r l (a_remark h u low high) (of_sealed e a b c) = absurd (omega arith)
fit_remark k r l (a_remark h u low high) (of_tag e m) = absurd (omega arith)
fit_remark k r l (a_remark h u low high) (of_remark a b short) = (record { low = low; high = high; short = short }, u)

fit_remarks : (k : ℕ) (rs : List Record) → 4 ≤ k → Fit k rs → AllowedRemarks rs × (k ≤ 8 → k + length rs ≤ 8)
fit_remarks k [] l none = (no_more, λ h. omega arith)
fit_remarks k (r ∷ rs) l (more f h) =
    let w = fit_remark k r l f.placed f.measured in
    let b = w.1 in
    let v = fit_remarks (suc k) rs (omega arith) h in
    (one_more w.0 v.0, λ m. let u = v.1 (omega arith) in omega arith)

-- the kind bytes of four records that fit, and what they and those behind them are as fields
pub record Shaped (a b c d : Record) (rs : List Record) : Type 0 where
  pub kind0 : a.0 ≡ 0x01
  pub kind1 : b.0 ≡ 0x02
  pub kind2 : c.0 ≡ 0x03
  pub kind3 : d.0 ≡ 0x04
  pub allowed : Allowed (record { pad_number = a.1; iv = b.1; sealed = c.1; tag = d.1; remarks = rs })

pub fit_shaped : (a b c d : Record) (rs : List Record) → Fit 0 (a ∷ b ∷ c ∷ d ∷ rs) → Shaped a b c d rs
unfolding kind_of sized
fit_shaped a b c d rs (more f0 (more f1 (more f2 (more f3 h)))) =
    let e0 : a.0 ≡ 1 = due_fixed a.0 0 (lit< tt) f0.placed in
    let e1 : b.0 ≡ 2 = due_fixed b.0 1 (lit< tt) f1.placed in
    let e2 : c.0 ≡ 3 = due_fixed c.0 2 (lit< tt) f2.placed in
    let e3 : d.0 ≡ 4 = due_fixed d.0 3 (lit< tt) f3.placed in
    let z0 : sized (kind_of 1) (length a.1) ≡ true = rw e0 at (kind_sized a.0 (length a.1) f0.measured) in
    let z1 : sized (kind_of 2) (length b.1) ≡ true = rw e1 at (kind_sized b.0 (length b.1) f1.measured) in
    let z2 : sized (kind_of 3) (length c.1) ≡ true = rw e2 at (kind_sized c.0 (length c.1) f2.measured) in
    let z3 : sized (kind_of 4) (length d.1) ≡ true = rw e3 at (kind_sized d.0 (length d.1) f3.measured) in
    let v = sized_blocks (length c.1) z2 in
    let w = fit_remarks 4 rs (lit≤ tt) h in
    record {
      kind0 = e0;
      kind1 = e1;
      kind2 = e2;
      kind3 = e3;
      allowed = record {
        pad_number = eqb-true (length a.1) 8 z0;
        iv = eqb-true (length b.1) 16 z1;
        least = v.0;
        most = v.1;
        whole = v.2;
        tag = eqb-true (length d.1) 16 z3;
        few = (let u = w.1 (lit≤ tt) in omega arith);
        remarks = w.0;
      };
    }
