-- How the code takes the steps of a schedule, for a key of n words: each δ is turned by its step's count before the step, and
-- the words stand in the order in which the steps take them.
use Rattle.std.specs.Prelude.{◌≡◌, ℕ, ◌+◌, List, [], ◌∷◌, length, slice_index}
use Rattle.lists.specs.Tabulation.{tab}
use Rattle.words.specs.Word.{rol}
use Rattle.lea_schedule.specs.Schedule.{delta_of, place, filled}

-- δ of step i, turned, and the queue of the n steps from step i on
abbrev pub turned_delta : ℕ → ℕ → ℕ
turned_delta n i = rol i (delta_of n i)

abbrev pub deltas : ℕ → ℕ → List ℕ
deltas n i = tab n (λ k. turned_delta n (i + k))

-- 32 bytes: the words that step i takes, then the two that it leaves
unfoldable pub queued : ℕ → List ℕ → List ℕ
queued i t =
    slice_index t (place i 0)
    ∷ slice_index t (place i 1)
    ∷ slice_index t (place i 2)
    ∷ slice_index t (place i 3)
    ∷ slice_index t (place i 4)
    ∷ slice_index t (place i 5)
    ∷ slice_index t (place i 6)
    ∷ slice_index t (place i 7)
    ∷ []

-- steps as the code makes them, of a key of n words: `mixed d w v`, v is what it makes of w by d, and `shown v r`, r is the row that it
-- makes of v. They are those of a definition, whose words w and v have in an order of their own, if d is the step's δ, turned
pub record StepsBy {W : Type 0} (n : ℕ) (mixed : ℕ → W → W → Type 0) (shown : W → List ℕ → Type 0) (step row : ℕ → List ℕ → List ℕ) (order : ℕ → List ℕ → W) : Type 0 where
  pub mixes : (i : ℕ) (t : List ℕ) (v : W) → length t ≡ n → mixed (turned_delta n i) (order i t) v → v ≡ order (i + 1) (step i t)
  pub shows : (i : ℕ) (t r : List ℕ) → length t ≡ n → shown (order (i + 1) (step i t)) r → r ≡ row i (step i t)
  pub keeps : (i : ℕ) (t : List ℕ) → length t ≡ n → length (step i t) ≡ n

-- rows that i such steps fill, the first of them at w: those of every definition whose steps they are
abbrev pub FilledBy : {W : Type 0} → ℕ → (ℕ → W → W → Type 0) → (W → List ℕ → Type 0) → ℕ → W → List (List ℕ) → Type 0
FilledBy {W} n mixed shown i w rows =
    (step row : ℕ → List ℕ → List ℕ) (order : ℕ → List ℕ → W) (t : List ℕ) → length t ≡ n → w ≡ order 0 t → StepsBy n mixed shown step row order
    → rows ≡ filled step row i t
