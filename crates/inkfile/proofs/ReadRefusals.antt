-- Why a reader refuses: its number is that of the first fault in the file, and where there is a fault it refuses.
use mathlib.Core.Path.{◌≡◌, refl, sym, ap, ◌∙◌}
use mathlib.Core.Logic.{◌↔◌}
use mathlib.Core.Bool.{Bool, true, false, cond}
use mathlib.Core.List.{List, []}
use Prim.Native.Nat.{ℕ, zero, suc, ◌+◌, ◌<◌}
use native.Mathlib.Omega.{arith}
use Rattle.lists.specs.Tabulation.{tab}
use Rattle.lists.specs.Refusals.{first}
use Rattle.inkfile.specs.Reading.{kind_at, start_of, record_tests, ends, walk, records_read, kinds_to, offsets_to, lengths_to, told_of, read_ink_answer}
use Rattle.inkfile.specs.Faults.{undue, unsized, Sound, RecordFault, cut_short, unmarked, by_kind, past_end, ReadFault, here, later}
use Rattle.inkfile.proofs.KindLaws.{due_few}
use Rattle.inkfile.proofs.TestLaws.{Judged, faulty, fine, record_fault, record_judged}
use Rattle.inkfile.proofs.WalkLaws.{walk_on, sound_on}

module _ (file : List ℕ) where
  -- a ninth record has no other fault than 30, and is never sound
  ninth_fault : (k at q : ℕ) → k ≡ 8 → RecordFault file k at q → q ≡ 30
  ninth_fault k at q e (cut_short h) = refl
  ninth_fault k at q e (unmarked h m) = refl
  ninth_fault k at q e (by_kind h m (undue d)) = refl
  ninth_fault k at q e (by_kind h m (unsized d s)) = let l = due_few (kind_at file at) k d in absurd (omega arith)
  ninth_fault k at q e (past_end h m f l) = let w = due_few (kind_at file at) k f.placed in absurd (omega arith)

  pub few_sound : (k at : ℕ) → Sound file k at → k < 8
  few_sound k at s = due_few (kind_at file at) k s.fitting.placed

  -- ---- a fault is refused

  pub fault_refused : (n k q : ℕ) → k + n ≡ 8 → ReadFault file k q → walk file n k ≡ (q, 0)
  unfolding walk
  fault_refused zero k q e (here on f) =
      let w : q ≡ 30 = ninth_fault k (start_of file k) q (omega arith) f in
      rw on (ap {B = ℕ × ℕ} (λ j. (j, 0)) (sym w))
  fault_refused (suc n) k q e (here on f) = rw on (record_fault (λ q. (q, 0)) (walk file n (suc k)) file k (start_of file k) q f)
  fault_refused zero k q e (later s f) = let l = few_sound k (start_of file k) s in absurd (omega arith)
  fault_refused (suc n) k q e (later s f) = walk_on file n k (sound_on file k s) s ∙ fault_refused n (suc k) q (omega arith) f

  -- ---- a refusal has its fault

  pub refused_fault : (n k q : ℕ) → k + n ≡ 8 → 0 < q → (walk file n k).0 ≡ q → ReadFault file k q
  unfolding walk
  refused_fault zero k q e p = go (ends file k) refl
    where
      ninth : ends file k ≡ false → 30 ≡ q → (x : ℕ) → Judged {A = ℕ} (RecordFault file k (start_of file k)) (Sound file k (start_of file k)) (λ q. q) 0 x → ReadFault file k q
      ninth on h x (faulty j f r) =
          let w : j ≡ q = ninth_fault k (start_of file k) j (omega arith) f ∙ h in
          let y : ReadFault file k j = here on f in
          rw w at y
      ninth on h x (fine s r) = let l = few_sound k (start_of file k) s in absurd (omega arith)

      go : (t : Bool) → ends file k ≡ t → (cond {A = ℕ × ℕ} t (0, k) (30, 0)).0 ≡ q → ReadFault file k q
      go true on h = absurd (omega arith)
      go false on h = ninth on h (first (record_tests file k (start_of file k)) (λ q. q) 0) (record_judged (λ q. q) 0 file k (start_of file k))
  refused_fault (suc n) k q e p = go (λ h. refused_fault n (suc k) q (omega arith) p h) (ends file k) refl
    where
      judged : ((walk file n (suc k)).0 ≡ q → ReadFault file (suc k) q) → ends file k ≡ false → (x : ℕ × ℕ) → x.0 ≡ q
          → Judged (RecordFault file k (start_of file k)) (Sound file k (start_of file k)) (λ q. (q, 0)) (walk file n (suc k)) x → ReadFault file k q
      judged rest on x h (faulty j f r) = let z : j ≡ q = sym (ap (λ (a : ℕ × ℕ). a.0) r) ∙ h in let y : ReadFault file k j = here on f in rw z at y
      judged rest on x h (fine s r) = later s (rest (sym (ap (λ (a : ℕ × ℕ). a.0) r) ∙ h))

      go : ((walk file n (suc k)).0 ≡ q → ReadFault file (suc k) q) → (t : Bool) → ends file k ≡ t
          → (cond t (0, k) (first (record_tests file k (start_of file k)) (λ q. (q, 0)) (walk file n (suc k)))).0 ≡ q → ReadFault file k q
      go rest true on h = absurd (omega arith)
      go rest false on h =
          let a = start_of file k in
          judged rest on (first (record_tests file k a) (λ q. (q, 0)) (walk file n (suc k))) h (record_judged (λ q. (q, 0)) (walk file n (suc k)) file k a)

pub read_refused : (file : List ℕ) (q : ℕ) → 0 < q → ((read_ink_answer file).refusal ≡ q) ↔ ReadFault file 0 q
unfolding read_ink_answer told_of records_read
read_refused file q p = (refused_fault file 8 0 q refl p, λ f. ap (λ (a : ℕ × ℕ). a.0) (fault_refused file 8 0 q refl f))

-- and nothing is told besides the number
pub nothing_told : (file : List ℕ) (q : ℕ) → ReadFault file 0 q → read_ink_answer file ≡ told_of q 0 [] [] []
unfolding read_ink_answer records_read tab
nothing_told file q f =
    ap (λ (a : ℕ × ℕ). told_of a.0 a.1 (kinds_to file a.1) (offsets_to file a.1) (lengths_to file a.1)) (fault_refused file 8 0 q refl f)
