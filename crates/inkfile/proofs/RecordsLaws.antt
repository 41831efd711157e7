-- The loop over the records of a file: how it ends, how it is refused, and one turn.
use mathlib.Core.Path.{◌≡◌, refl, sym, ap, ◌∙◌}
use mathlib.Core.Bool.{Bool, true, false, not, ◌&&◌}
use mathlib.Core.List.{List}
use Prim.Native.Nat.{ℕ, suc, ◌+◌, ◌-◌, ◌≤◌, ◌<◌}
use native.Mathlib.Numerals.{add-one}
use native.Mathlib.Decide.{ℕ_discrete}
use native.Mathlib.Omega.{arith}
use borrow.Author.Tests.{eq-eqb, ne_eqb, not-true, not-false}
use lib.Dec.{eqb, leb}
use lib.ListN.{length, set, replicate}
use Rattle.lists.specs.Tabulation.{tab}
use Rattle.lists.specs.Refusals.{first}
use Rattle.lists.proofs.PartLaws.{fill_turn}
use Rattle.cipher.specs.declared.refusal.Refusal.{Refusal}
use Rattle.cipher.specs.Refusal.{number_of}
use Rattle.cipher.proofs.AnswerLaws.{number_more}
use Rattle.inkfile.specs.Reading.{kind_at, length_at, start_of, record_tests, ends, walk, records_read, kinds_to, offsets_to, lengths_to}
use Rattle.inkfile.specs.Faults.{Sound, RecordFault, here}
use Rattle.inkfile.specs.ReadingSteps.{seen_answer, goes_on, records_of_walk, records_answer, no_records, filled_up}
use Rattle.inkfile.proofs.TestLaws.{record_sound}
use Rattle.inkfile.proofs.WalkLaws.{sound_of, fault_of_lem, walk_end, walk_on, next_start}
use Rattle.inkfile.proofs.ReadRefusals.{few_sound, fault_refused}

-- nothing is left at the end
left_none : (n at : ℕ) → at ≤ n → eqb (n - at) 0 ≡ eqb at n
left_none n at l = go (ℕ_discrete at n)
  where
    go : Dec (at ≡ n) → eqb (n - at) 0 ≡ eqb at n
    go (yes e) = eq-eqb (n - at) 0 (omega arith) ∙ sym (eq-eqb at n e)
    go (no d) = ne_eqb (n - at) 0 (λ z. d (omega arith)) ∙ sym (ne_eqb at n d)

module _ (file : List ℕ) where
  on_ends : (k at : ℕ) → at ≡ start_of file k → at ≤ length file → goes_on (length file - at) k ≡ not (ends file k)
  unfolding goes_on ends
  on_ends k at e l = ap (λ (b : Bool). not (leb 4 k && b)) (left_none (length file) at l) ∙ ap (λ (j : ℕ). not (leb 4 k && eqb j (length file))) e

  pub read_begins : records_read file ≡ walk file 8 0
  unfolding records_read
  read_begins = refl

  pub start_zero : 0 ≡ start_of file 0
  unfolding start_of
  start_zero = refl

  -- behind k records, the next at a place
  pub record Behind (k at : ℕ) : Type 0 where
    pub few : k ≤ 8
    pub place : at ≡ start_of file k
    pub room : at ≤ length file
    pub walked : records_read file ≡ walk file (8 - k) k

  pub begins : Behind 0 0
  begins = record { few = omega arith; place = start_zero; room = omega arith; walked = read_begins }

  module _ (k at : ℕ) (b : Behind k at) where
    -- the end
    pub records_done : ends file k ≡ true → (ks os ls : List ℕ) → ks ≡ filled_up (kinds_to file k) k → os ≡ filled_up (offsets_to file k) k → ls ≡ filled_up (lengths_to file k) k
        → (0, k, ks, os, ls) ≡ records_answer file
    unfolding records_of_walk
    records_done d ks os ls ek eo el =
        (λ i. (0, k, ek i, eo i, el i)) ∙ sym (ap (records_of_walk file) (b.walked ∙ walk_end file (8 - k) k d))

    -- by the test whether the file goes on
    module _ (t : Bool) (et : t ≡ goes_on (length file - at) k) where
      pub records_ended : t ≡ false → ends file k ≡ true
      records_ended h = not-false (ends file k) (sym (on_ends k at b.place b.room) ∙ sym et ∙ h)

      records_on : t ≡ true → ends file k ≡ false
      records_on h = not-true (ends file k) (sym (on_ends k at b.place b.room) ∙ sym et ∙ h)

      -- and what is seen of the record there
      module _ (ht : t ≡ true) where
        seen_number : (a : ℕ × ℕ × ℕ) → a ≡ seen_answer file k at → (first {A = ℕ × ℕ × ℕ} (record_tests file k at) (λ q. (q, 0, 0)) (0, kind_at file at, length_at file at)).0 ≡ a.0
        unfolding seen_answer
        seen_number a e = sym (ap (λ (p : ℕ × ℕ × ℕ). p.0) e)

        -- a fault
        pub records_refused : (q : Refusal) → (number_of q, 0, 0) ≡ seen_answer file k at → no_records q ≡ records_answer file
        unfolding records_of_walk tab
        records_refused q e =
            let f : RecordFault file k at (number_of q) = fault_of_lem file k at (number_of q) (number_more q) (seen_number (number_of q, 0, 0) e) in
            let g : RecordFault file k (start_of file k) (number_of q) = rw b.place at f in
            let w = fault_refused file (8 - k) k (number_of q) (let l = b.few in omega arith) (here (records_on ht) g) in
            sym (ap (records_of_walk file) (b.walked ∙ w))

        -- a turn
        module _ (kind n : ℕ) (es : (0, kind, n) ≡ seen_answer file k at) where
          sound : Sound file k at
          sound = sound_of file {A = ℕ × ℕ × ℕ} (λ p. p.0) (λ q. (q, 0, 0)) (0, kind_at file at, length_at file at) (λ q. refl) k at (seen_number (0, kind, n) es)

          seen_is : ◌≡◌ {A = ℕ × ℕ × ℕ} (0, kind, n) (0, kind_at file at, length_at file at)
          unfolding seen_answer
          seen_is = es ∙ record_sound (λ q. (q, 0, 0)) (0, kind_at file at, length_at file at) file k at sound

          kind_is : kind ≡ kind_at file (start_of file k)
          kind_is = ap (λ (p : ℕ × ℕ × ℕ). p.1) seen_is ∙ ap (kind_at file) b.place

          length_is : n ≡ length_at file (start_of file k)
          length_is = ap (λ (p : ℕ × ℕ × ℕ). p.2) seen_is ∙ ap (length_at file) b.place

          few_more : k < 8
          few_more = few_sound file k at sound

          -- what it leaves: there was room for the record, and the lists with it
          pub record Turn : Type 0 where
            pub few : k < 8
            pub room : at + 6 + n ≤ length file
            pub behind : Behind (k + 1) (at + 6 + n)
            pub kinds : (ks : List ℕ) → ks ≡ filled_up (kinds_to file k) k → set ks k kind ≡ filled_up (kinds_to file (k + 1)) (k + 1)
            pub offsets : (os : List ℕ) → os ≡ filled_up (offsets_to file k) k → set os k (at + 6) ≡ filled_up (offsets_to file (k + 1)) (k + 1)
            pub lengths : (ls : List ℕ) → ls ≡ filled_up (lengths_to file k) k → set ls k n ≡ filled_up (lengths_to file (k + 1)) (k + 1)

          room_more : at + 6 + n ≤ length file
          room_more = let r = sound.room in let e = ap (λ (p : ℕ × ℕ × ℕ). p.2) seen_is in omega arith

          pub turn : Turn
          turn =
              let l = few_more in
              let s : k + 1 ≡ suc k = add-one k in
              let step : 8 - k ≡ suc (8 - (k + 1)) = omega arith in
              record {
                few = l;
                room = room_more;
                behind = record {
                  few = omega arith;
                  place = (λ i. b.place i + 6 + length_is i) ∙ sym (next_start file k) ∙ ap (start_of file) (sym s);
                  room = room_more;
                  walked = b.walked ∙ ap (λ (j : ℕ). walk file j k) step ∙ walk_on file (8 - (k + 1)) k (records_on ht) (rw (sym b.place) sound) ∙ ap (walk file (8 - (k + 1))) (sym s);
                };
                kinds = λ ks e. fill_turn (λ i. kind_at file (start_of file i)) 8 ks k kind e kind_is l;
                offsets = λ os e. fill_turn (λ i. start_of file i + 6) 8 os k (at + 6) e (ap (λ (j : ℕ). j + 6) b.place) l;
                lengths = λ ls e. fill_turn (λ i. length_at file (start_of file i)) 8 ls k n e length_is l;
              }

-- nothing is filled yet
pub none_yet : (f : ℕ → ℕ) → replicate 8 0 ≡ filled_up (tab 0 f) 0
unfolding tab
none_yet f = refl
