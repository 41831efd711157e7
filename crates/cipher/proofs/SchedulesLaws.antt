-- Laws of the two schedules: which numbers are refused, what a number and a key tell together, and that the round keys of both are
-- words.
use Rattle.std.proofs.Common.{◌≡◌, ℕ, Bool, true, false, cond, not, ◌||◌, eqb, List, length, Option, Some, None, Result, Ok, Err, refl, sym, ap, ◌∙◌, arith, eq-eqb, ne_eqb}
use Rattle.std.specs.Option.{ok_or}
use Rattle.lists.specs.Blocks.{Bytes}
use Rattle.words.specs.Rows.{RowsOfWords}
use Rattle.lea_schedule.proofs.ScheduleLaws.{words_16, words_24, words_32}
use Rattle.wf_lea.proofs.RowLaws.{rows_words}
use Rattle.cipher.specs.KeySize.{rounds, size_of_key}
use Rattle.cipher.specs.Schedules.{schedule_found, numbered, Named, key_of, key_read, schedule, key_rows}
use Rattle.cipher.specs.Answers.{schedule_of}
use Rattle.cipher.proofs.PassedLaws.{or_none, or_some}
use Rattle.cipher.specs.declared.size.KeySize.{KeySize}
use Rattle.cipher.specs.declared.size.KeySize.TheVariants.{Bytes16, Bytes24, Bytes32}
use Rattle.cipher.specs.declared.refusal.Refusal.{Refusal}
use Rattle.cipher.specs.declared.refusal.Refusal.TheVariants.{KeyLength, ScheduleNumber}
use Rattle.cipher.specs.declared.schedules.Schedule.{Schedule}
use Rattle.cipher.specs.declared.schedules.Schedule.TheVariants.{Lea, WfLea}

-- the three answers of a number, by the tests that the code makes
module _ (n : ℕ) where
  pub numbered_0 : n ≡ 0 → schedule_found n ≡ Some Lea
  unfolding schedule_found
  numbered_0 e = rw (eq-eqb n 0 e)

  module _ (a : n ≡ 0 → ⊥) where
    pub numbered_1 : n ≡ 1 → schedule_found n ≡ Some WfLea
    unfolding schedule_found
    numbered_1 e = rw (ne_eqb n 0 a, eq-eqb n 1 e)

    pub unnumbered : (n ≡ 1 → ⊥) → schedule_found n ≡ None
    unfolding schedule_found
    unnumbered b = rw (ne_eqb n 0 a, ne_eqb n 1 b)

  -- the found schedule is the one of a number that is not refused, and where none is found the number is refused
  pub number_refused : schedule_found n ≡ None → not (eqb n 0 || eqb n 1) ≡ true
  unfolding schedule_found
  number_refused = go (eqb n 0) (eqb n 1)
    where
      go : (a b : Bool) → cond a (Some Lea) (cond b (Some WfLea) None) ≡ None → not (a || b) ≡ true
      go false false e = refl
      go true b e = let w : ◌≡◌ {A = ℕ} 0 1 = cc in absurd (omega arith)
      go false true e = let w : ◌≡◌ {A = ℕ} 0 1 = cc in absurd (omega arith)

  pub number_taken : (k : Schedule) → schedule_found n ≡ Some k → (not (eqb n 0 || eqb n 1) ≡ false) × (schedule_of n ≡ k)
  unfolding schedule_found schedule_of
  number_taken k = go (eqb n 0) (eqb n 1)
    where
      go : (a b : Bool) → cond a (Some Lea) (cond b (Some WfLea) None) ≡ Some k → (not (a || b) ≡ false) × (cond a Lea WfLea ≡ k)
      go true b e = (refl, cc)
      go false true e = (refl, cc)
      go false false e = let w : ◌≡◌ {A = ℕ} 0 1 = cc in absurd (omega arith)

-- the schedule of a number that is not refused
pub number_known : (n : ℕ) → not (eqb n 0 || eqb n 1) ≡ false → schedule_found n ≡ Some (schedule_of n)
unfolding schedule_found schedule_of
number_known n = go (eqb n 0) (eqb n 1)
  where
    go : (a b : Bool) → not (a || b) ≡ false → cond a (Some Lea) (cond b (Some WfLea) None) ≡ Some (cond a Lea WfLea)
    go true b e = refl
    go false true e = refl
    go false false e = let w : ◌≡◌ {A = ℕ} 0 1 = cc in absurd (omega arith)

-- ---- what is told of a number and a key together

module _ (s : ℕ) (key : List ℕ) where
  pub kind_unnumbered : (q : Refusal) → Err q ≡ numbered s → Err q ≡ key_read s key
  unfolding numbered key_of
  kind_unnumbered q e = let n = or_none (schedule_found s) ScheduleNumber q e in rw (n.0, n.1)

  module _ (k : Schedule) (e : Ok k ≡ numbered s) where
    pub kind_unsized : (q : Refusal) → Err q ≡ ok_or (size_of_key (length key)) KeyLength → Err q ≡ key_read s key
    unfolding numbered key_of
    kind_unsized q f = let n = or_none (size_of_key (length key)) KeyLength q f in rw (or_some (schedule_found s) ScheduleNumber k e, n.0, n.1)

    pub kind_whole : (z : KeySize) → Ok z ≡ ok_or (size_of_key (length key)) KeyLength → Ok (k, z, key) ≡ key_read s key
    unfolding numbered key_of
    kind_whole z f = rw (or_some (schedule_found s) ScheduleNumber k e, or_some (size_of_key (length key)) KeyLength z f)

-- what was read of number and key is theirs
module _ (s : ℕ) (key : List ℕ) {b : List ℕ} {k : Schedule} {z : KeySize} where
  of_both : Ok (k, z, b) ≡ key_read s key → Named s key k z × (b ≡ key)
  unfolding key_of
  of_both = go (schedule_found s) refl (size_of_key (length key)) refl
    where
      same : {j : Schedule} {y : KeySize} → ◌≡◌ {A = Result (Schedule × KeySize × List ℕ) Refusal} (Ok (k, z, b)) (Ok (j, y, key))
          → (k ≡ j) × (z ≡ y) × (b ≡ key)
      same {j} {y} e =
          let w : ◌≡◌ {A = Schedule × KeySize × List ℕ} (k, z, b) (j, y, key) = cc in
          (ap (λ p. p.0) w, ap (λ p. p.1) w, ap (λ p. p.2) w)

      go : (o : Option Schedule) → schedule_found s ≡ o → (i : Option KeySize) → size_of_key (length key) ≡ i → Ok (k, z, b) ≡ key_of o i key
          → Named s key k z × (b ≡ key)
      go None p i q e = let w : ◌≡◌ {A = ℕ} 0 1 = cc in absurd (omega arith)
      go (Some j) p None q e = let w : ◌≡◌ {A = ℕ} 0 1 = cc in absurd (omega arith)
      go (Some j) p (Some y) q e = let w = same e in ((p ∙ ap (λ (x : Schedule). Some x) (sym w.0), q ∙ ap (λ (x : KeySize). Some x) (sym w.1)), w.2)

  pub key_named : Ok (k, z, b) ≡ key_read s key → Named s key k z
  key_named e = (of_both e).0

  -- and so are the rows
  pub rows_named : {rows : List (List ℕ)} → Ok (k, z, b) ≡ key_read s key → rows ≡ key_rows k z b → rows ≡ key_rows k z key
  rows_named e r = r ∙ ap (key_rows k z) (of_both e).1

-- every round key is a word
pub key_words : (k : Schedule) (z : KeySize) (key : List ℕ) → Bytes key → RowsOfWords (key_rows k z key)
unfolding key_rows schedule
key_words Lea Bytes16 key h = words_16 key h
key_words Lea Bytes24 key h = words_24 key h
key_words Lea Bytes32 key h = words_32 key h
key_words WfLea z key h = rows_words key (rounds z)
