-- The walk over the records of a file: it accepts the bytes of records that fit, and finds them; and what it accepts are the bytes of
-- records that fit.
use mathlib.Core.Path.{◌≡◌, refl, sym, ap, ◌∙◌}
use mathlib.Core.Bool.{Bool, true, false, cond, and-false}
use mathlib.Core.List.{List, [], ◌∷◌, ◌++◌}
use Prim.Native.Nat.{ℕ, zero, suc, ◌+◌, ◌≤◌, ◌<◌}
use native.Mathlib.Omega.{arith}
use borrow.Author.Tests.{leb-true, eqb-true, le-leb, eq-eqb, ne_eqb}
use lib.Dec.{eqb, leb}
use lib.ListN.{length, drop, length-drop, drop_of_length-le}
use lib.Seq.{length-take-le}
use Rattle.lists.specs.Blocks.{Bytes}
use Rattle.lists.specs.Refusals.{first}
use Rattle.lists.proofs.EveryLaws.{and_true}
use Rattle.inkfile.specs.Format.{Record, record_of, run_of}
use Rattle.inkfile.specs.Reading.{kind_at, length_at, start_of, record_tests, ends, walk, part}
use Rattle.inkfile.specs.Faults.{Fitting, Sound, RecordFault}
use Rattle.inkfile.proofs.KindLaws.{length_most}
use Rattle.inkfile.proofs.RecordLaws.{mark_at, kind_at_lem, length_at_lem, body_at, rest_at, room_at, record_at}
use Rattle.inkfile.proofs.TestLaws.{Judged, faulty, fine, record_sound, record_judged, record_number}
use Rattle.inkfile.proofs.FitLaws.{Fit, none, more}

-- record i of a file, by its place, and n of them from k on
unfoldable pub record_in : List ℕ → ℕ → Record
record_in file i = (kind_at file (start_of file i), part file (start_of file i + 6) (length_at file (start_of file i)))

unfoldable pub records_from : List ℕ → ℕ → ℕ → List Record
records_from file k zero = []
records_from file k (suc n) = record_in file k ∷ records_from file (suc k) n

module _ (file : List ℕ) where
  -- ---- one step of the walk

  pub walk_end : (n k : ℕ) → ends file k ≡ true → walk file n k ≡ (0, k)
  unfolding walk
  walk_end zero k e = rw e
  walk_end (suc n) k e = rw e

  pub walk_on : (n k : ℕ) → ends file k ≡ false → Sound file k (start_of file k) → walk file (suc n) k ≡ walk file n (suc k)
  unfolding walk
  walk_on n k e s = rw e (record_sound (λ q. (q, 0)) (walk file n (suc k)) file k (start_of file k) s)

  pub ended : (k : ℕ) → 4 ≤ k → start_of file k ≡ length file → ends file k ≡ true
  unfolding ends
  ended k l e = rw (le-leb 4 k l, eq-eqb (start_of file k) (length file) e)

  pub not_ended : (k : ℕ) → (start_of file k ≡ length file → ⊥) → ends file k ≡ false
  unfolding ends
  not_ended k h = rw (ne_eqb (start_of file k) (length file) h) (and-false (leb 4 k))

  -- it does not end where a record is
  pub sound_on : (k : ℕ) → Sound file k (start_of file k) → ends file k ≡ false
  sound_on k s = not_ended k (λ e. omega (arith, s.head))

  -- ---- written records are read

  pub next_start : (k : ℕ) → start_of file (suc k) ≡ start_of file k + 6 + length_at file (start_of file k)
  unfolding start_of
  next_start k = refl

  one_record : (k : ℕ) (r : Record) → kind_at file (start_of file k) ≡ r.0 → part file (start_of file k + 6) (length_at file (start_of file k)) ≡ r.1 → record_in file k ≡ r
  unfolding record_in
  one_record k r a b i = (a i, b i)

  pub record Read (n k : ℕ) (rs : List Record) : Type 0 where
    pub taken : walk file n k ≡ (0, k + length rs)
    pub found : records_from file k (length rs) ≡ rs

  pub written_read : (n k : ℕ) (rs : List Record) → Fit k rs → drop (start_of file k) file ≡ run_of rs → start_of file k ≤ length file
      → length rs ≤ n → 4 ≤ k + length rs → Read n k rs
  unfolding run_of records_from
  written_read n k [] none e l m f =
      let d : start_of file k ≡ length file = omega (arith, sym (length-drop (start_of file k) file) ∙ ap length e) in
      let z : k ≡ k + 0 = omega arith in
      record { taken = walk_end n k (ended k (omega arith) d) ∙ ap (λ (j : ℕ). (0, j)) z; found = refl }
  written_read zero k (r ∷ rs) (more w h) e l m f = absurd (omega arith)
  written_read (suc n) k (r ∷ rs) (more f h) e l m p =
      let at = start_of file k in
      let w = length_most r.0 (length r.1) f.measured in
      let ek : kind_at file at ≡ r.0 = kind_at_lem file at r (run_of rs) e in
      let el : length_at file at ≡ length r.1 = length_at_lem file at r (run_of rs) e (omega arith) in
      let room = room_at file at r (run_of rs) e in
      let fits : Fitting k (kind_at file at) (length_at file at) = rw (ek, el) f in
      let sound : Sound file k at = record { head = omega arith; marked = mark_at file at r (run_of rs) e; fitting = fits; room = omega arith } in
      let next : start_of file (suc k) ≡ at + 6 + length r.1 = next_start k ∙ ap (λ (j : ℕ). at + 6 + j) el in
      let v = written_read n (suc k) rs h (rw next (rest_at file at r (run_of rs) e)) (omega arith) (omega arith) (omega arith) in
      let z : suc k + length rs ≡ k + suc (length rs) = omega arith in
      let one : record_in file k ≡ r = one_record k r ek (ap (part file (at + 6)) el ∙ body_at file at r (run_of rs) e) in
      record {
        taken = walk_on n k (sound_on k sound) sound ∙ v.taken ∙ ap (λ (j : ℕ). (0, j)) z;
        found = λ i. one i ∷ v.found i;
      }

  -- ---- what is read was written

  -- where the walk goes on from record k and accepts c records
  pub record Kept (k c : ℕ) : Type 0 where
    pub count : ℕ
    pub sum : k + count ≡ c
    pub four : 4 ≤ c
    pub fit : Fit k (records_from file k count)
    pub whole : drop (start_of file k) file ≡ run_of (records_from file k count)

  -- a record that was let through had no fault
  pub sound_of : {A : Type 0} (number : A → ℕ) (refuse : ℕ → A) (go : A) → ((q : ℕ) → number (refuse q) ≡ q) → (k at : ℕ)
      → number (first (record_tests file k at) refuse go) ≡ 0 → Sound file k at
  sound_of {A} number refuse go num k at e = each (first (record_tests file k at) refuse go) e (record_judged refuse go file k at)
    where
      each : (x : A) → number x ≡ 0 → Judged (RecordFault file k at) (Sound file k at) refuse go x → Sound file k at
      each x e (faulty q f r) = let z = sym (num q) ∙ ap number (sym r) ∙ e in let p = record_number file k at q f in absurd (omega arith)
      each x e (fine s r) = s

  -- and one that was refused has its fault
  pub fault_of_lem : (k at q : ℕ) → 0 < q → (first {A = ℕ × ℕ × ℕ} (record_tests file k at) (λ q. (q, 0, 0)) (0, kind_at file at, length_at file at)).0 ≡ q → RecordFault file k at q
  fault_of_lem k at q p h =
      each (first (record_tests file k at) (λ q. (q, 0, 0)) (0, kind_at file at, length_at file at)) h (record_judged (λ q. (q, 0, 0)) (0, kind_at file at, length_at file at) file k at)
    where
      number : ℕ × ℕ × ℕ → ℕ
      number a = a.0

      each : (x : ℕ × ℕ × ℕ) → x.0 ≡ q → Judged (RecordFault file k at) (Sound file k at) (λ q. (q, 0, 0)) (0, kind_at file at, length_at file at) x → RecordFault file k at q
      each x h (faulty j f r) = let z : j ≡ q = sym (ap number r) ∙ h in rw z at f
      each x h (fine s r) = let z : 0 ≡ q = sym (ap number r) ∙ h in absurd (omega arith)

  through : (n k c : ℕ) → first (record_tests file k (start_of file k)) (λ q. (q, 0)) (walk file n (suc k)) ≡ (0, c) → Sound file k (start_of file k) × (walk file n (suc k) ≡ (0, c))
  through n k c h =
      let s = sound_of {A = ℕ × ℕ} (λ p. p.0) (λ q. (q, 0)) (walk file n (suc k)) (λ q. refl) k (start_of file k) (ap (λ (p : ℕ × ℕ). p.0) h) in
      (s, sym (record_sound (λ q. (q, 0)) (walk file n (suc k)) file k (start_of file k) s) ∙ h)

  kept_end : (k c : ℕ) → ends file k ≡ true → k ≡ c → Kept k c
  unfolding ends records_from run_of
  kept_end k c e z =
      let b = and_true (leb 4 k) (eqb (start_of file k) (length file)) e in
      let f = leb-true 4 k b.0 in
      let d = eqb-true (start_of file k) (length file) b.1 in
      record { count = 0; sum = omega arith; four = omega arith; fit = none; whole = drop_of_length-le file {i = start_of file k} (omega arith) }

  kept_more : (k c : ℕ) → Bytes file → Sound file k (start_of file k) → Kept (suc k) c → Kept k c
  unfolding records_from record_in run_of start_of
  kept_more k c hb s v =
      let at = start_of file k in
      let n = length_at file at in
      let l : length (part file (at + 6) n) ≡ n = length-take-le n (drop (at + 6) file) (rw (length-drop (at + 6) file) (omega (arith, s.room))) in
      let h = v.sum in
      record {
        count = suc v.count;
        sum = omega arith;
        four = v.four;
        fit = more {k = k} {r = (kind_at file at, part file (at + 6) n)} (rw l s.fitting) v.fit;
        whole = record_at file at hb s.marked s.room ∙ ap {B = List ℕ} (λ t. record_of (kind_at file at, part file (at + 6) n) ++ t) v.whole;
      }

  pub read_written : (n k c : ℕ) → Bytes file → start_of file k ≤ length file → walk file n k ≡ (0, c) → Kept k c
  unfolding walk
  read_written zero k c hb l = go (ends file k) refl
    where
      go : (t : Bool) → ends file k ≡ t → cond {A = ℕ × ℕ} t (0, k) (30, 0) ≡ (0, c) → Kept k c
      go true e h = kept_end k c e (ap (λ (p : ℕ × ℕ). p.1) h)
      go false e h = let z = ap (λ (p : ℕ × ℕ). p.0) h in absurd (omega arith)
  read_written (suc n) k c hb l = go (λ s. read_written n (suc k) c hb (rw next_start s.room)) (ends file k) refl
    where
      go : (Sound file k (start_of file k) → walk file n (suc k) ≡ (0, c) → Kept (suc k) c)
          → (t : Bool) → ends file k ≡ t → cond t (0, k) (first (record_tests file k (start_of file k)) (λ q. (q, 0)) (walk file n (suc k))) ≡ (0, c) → Kept k c
      go f true e h = kept_end k c e (ap (λ (p : ℕ × ℕ). p.1) h)
      go f false e h = let v = through n k c h in kept_more k c hb v.0 (f v.0 v.1)
