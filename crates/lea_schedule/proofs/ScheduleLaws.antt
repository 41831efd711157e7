-- Laws of the key schedule: one step and one row more in a loop that fills the rows, that every round key is a word, and
-- the queue of δ that the code takes its steps' constants from.
use Rattle.std.proofs.Common.{◌≡◌, ℕ, zero, suc, ◌+◌, ◌-◌, ◌%◌, ◌^◌, ◌<◌, ◌≤◌, List, [], ◌∷◌, ◌++◌, length, drop, get_or, replicate, set, sym, refl}
use Rattle.std.proofs.Common.{ap, ◌∙◌, subst, zero-add, add-one, arith, lit<}
use mathlib.Core.Logic.{⊎_elim}
use native.Mathlib.Nat.{add-mod_right, mod-eq_of_lt}
use Rattle.std.proofs.lemmas.List.{set-append_left}
use lib.ListN.{length-append, length-drop, get_or-append}
use lib.Seq.{get_or_at, get_or-drop}
use Rattle.std.proofs.lemmas.Bool.{cases_lt}
use Rattle.lists.specs.Blocks.{Bytes}
use Rattle.lists.specs.Tabulation.{tab}
use Rattle.lists.proofs.TabulationLaws.{length_tab, get_or_tab, tab_is, tab_ext}
use Rattle.words.specs.Word.{add, rol, turn_left, words4}
use Rattle.words.specs.Rows.{blank, first_rows, RowsOfWords}
use Rattle.lea_schedule.specs.Schedule.{delta, delta_of, turns, mixed, mixed_four, mixed_row, step16, row16, step24, row24, place, mix_at, step32}
use Rattle.lea_schedule.specs.Schedule.{row32, words6, words8}
use Rattle.lea_schedule.specs.Schedule.{stepped, filled}
use Rattle.lea_schedule.specs.Steps.{turned_delta, deltas, StepsBy}
use Rattle.words.proofs.WordLaws.{left_word, add_word}
use Rattle.words.proofs.RowLaws.{Words, none, more, below, joined, set_words, row_stored, rows_words, word_at_word, words4_words}
use Rattle.lea_schedule.proofs.TurnSums.{rol_sum}

-- ---- one step and one row more

pub stepped_more : (step : ℕ → List ℕ → List ℕ) (i : ℕ) (t : List ℕ) → stepped step (i + 1) t ≡ step i (stepped step i t)
unfolding stepped
stepped_more step i t = rw add-one

module _ (step row : ℕ → List ℕ → List ℕ) where
  -- the row of step i stored at place i of the first i rows
  pub stored : (i : ℕ) (t : List ℕ) (rows : List (List ℕ)) (r : List ℕ) → i < 32 → rows ≡ filled step row i t
      → r ≡ row i (stepped step (i + 1) t) → set rows i r ≡ filled step row (i + 1) t
  stored i t rows r h er e = row_stored _ i rows r h er (e ∙ ap (λ (n : ℕ). row i (stepped step n t)) (add-one i))

-- ---- every round key is a word

mixed_word : (d i m t : ℕ) → mixed d i m t < 2 ^ 32
unfolding mixed
mixed_word d i m t = left_word (get_or turns m 0 % 32) _ (omega arith) (add_word t _)

words6_words : (b : List ℕ) → Bytes b → Words (words6 b)
unfolding words6
words6_words b h = joined (words4_words b h) (more (word_at_word b 16 h) (more (word_at_word b 20 h) none))

words8_words : (b : List ℕ) → Bytes b → Words (words8 b)
unfolding words8
words8_words b h =
    joined (words4_words b h)
    (more (word_at_word b 16 h) (more (word_at_word b 20 h) (more (word_at_word b 24 h) (more (word_at_word b 28 h) none))))

mixed_four_words : (d i : ℕ) (t : List ℕ) → Words (mixed_four d i t)
unfolding mixed_four
mixed_four_words d i t = more (mixed_word d i 0 _) (more (mixed_word d i 1 _) (more (mixed_word d i 2 _) (more (mixed_word d i 3 _) none)))

row16_words : (i : ℕ) (t : List ℕ) → Words t → Words (row16 i t)
unfolding row16
row16_words i t h = more (below h 0) (more (below h 1) (more (below h 2) (more (below h 1) (more (below h 3) (more (below h 1) none)))))

mixed_row_words : (d i : ℕ) (t : List ℕ) → Words (mixed_row d i t)
unfolding mixed_row
mixed_row_words d i t =
    more (mixed_word d i 0 _)
    (more (mixed_word d i 1 _)
    (more (mixed_word d i 2 _) (more (mixed_word d i 3 _) (more (mixed_word d i 4 _) (more (mixed_word d i 5 _) none)))))

mix_at_words : (i m : ℕ) (t : List ℕ) → Words t → Words (mix_at i m t)
unfolding mix_at
mix_at_words i m t h = set_words (place i m) _ (mixed_word (delta_of 8 i) i m _) h

step32_words : (i : ℕ) (t : List ℕ) → Words t → Words (step32 i t)
unfolding step32
step32_words i t h =
    mix_at_words i 5 _ (mix_at_words i 4 _ (mix_at_words i 3 _ (mix_at_words i 2 _ (mix_at_words i 1 _ (mix_at_words i 0 t h)))))

row32_words : (i : ℕ) (t : List ℕ) → Words t → Words (row32 i t)
unfolding row32
row32_words i t h =
    more (below h (place i 0)) (more (below h (place i 1)) (more (below h (place i 2)) (more (below h (place i 3)) (more (below h (place i 4)) (more (below h (place i 5)) none)))))

module _ (step row : ℕ → List ℕ → List ℕ) (hs : (i : ℕ) (t : List ℕ) → Words t → Words (step i t))
    (hr : (i : ℕ) (t : List ℕ) → Words t → Words (row i t)) (t : List ℕ) (ht : Words t) where
  stepped_words : (i : ℕ) → Words (stepped step i t)
  unfolding stepped
  stepped_words zero = ht
  stepped_words (suc i) = hs i _ (stepped_words i)

  filled_words : (n : ℕ) → RowsOfWords (filled step row n t)
  filled_words n = rows_words _ (λ i. hr i _ (stepped_words (suc i))) n

-- the rows of each size
module _ (key : List ℕ) (h : Bytes key) where
  pub words_16 : RowsOfWords (filled step16 row16 24 (words4 key))
  words_16 = filled_words step16 row16 (λ i t w. mixed_four_words (delta_of 4 i) i t) row16_words (words4 key) (words4_words key h) 24

  pub words_24 : RowsOfWords (filled step24 row24 28 (words6 key))
  words_24 = filled_words step24 row24 (λ i t w. mixed_row_words (delta_of 6 i) i t) (λ i t w. w) (words6 key) (words6_words key h) 28

  pub words_32 : RowsOfWords (filled step32 row32 32 (words8 key))
  words_32 = filled_words step32 row32 step32_words row32_words (words8 key) (words8_words key h) 32

-- ---- the queue of δ

delta_words : Words delta
delta_words =
    more (lit< tt) (more (lit< tt) (more (lit< tt) (more (lit< tt) (more (lit< tt) (more (lit< tt) (more (lit< tt) (more (lit< tt) none)))))))

pub delta_word : (n i : ℕ) → delta_of n i < 2 ^ 32
delta_word n i = below delta_words (i % n)

-- the first n of the constants as the code has them, each turned by its number
pub delta_first : (n k : ℕ) → n ≤ 8 → k < n
    → get_or (0xc3efe9db ∷ 0x88c4d604 ∷ 0xe789f229 ∷ 0xc6f98763 ∷ 0x15ea49e7 ∷ 0xf0bb4158 ∷ 0x13bc8ab8 ∷ 0xe204abf2 ∷ []) k 0 ≡ turned_delta n (0 + k)
unfolding tab turn_left
delta_first n k h l =
    let z : 0 + k ≡ k = omega arith in
    get_or_tab 8 (λ j. rol j (get_or delta j 0)) k (omega arith)
    ∙ ap (λ (j : ℕ). rol k (get_or delta j 0)) (sym (mod-eq_of_lt l))
    ∙ ap (turned_delta n) (sym z)

-- a queue of n whose first went to the end as x: its places, and the last of them
module _ (n x k : ℕ) (d : List ℕ) (size : length d ≡ n) where
  length_rest : length (drop 1 d) ≡ n - 1
  length_rest = length-drop 1 d ∙ ap (λ (m : ℕ). m - 1) size

  queue_place : k + 1 < n → get_or (drop 1 d ++ (x ∷ [])) k 0 ≡ get_or d (k + 1) 0
  queue_place h =
      let b : k < length (drop 1 d) = rw length_rest (omega arith) in
      let e : 1 + k ≡ k + 1 = omega arith in
      get_or-append (drop 1 d) (x ∷ []) 0 k b ∙ get_or-drop 1 d k 0 ∙ ap (λ (j : ℕ). get_or d j 0) e

  queue_last : k + 1 ≡ n → get_or (drop 1 d ++ (x ∷ [])) k 0 ≡ x
  queue_last h = get_or_at (drop 1 d) x [] 0 k (length_rest ∙ omega arith)

  queue_length : 0 < n → length (drop 1 d ++ (x ∷ [])) ≡ n
  queue_length h = length-append (drop 1 d) (x ∷ []) ∙ ap (λ (m : ℕ). m + 1) length_rest ∙ omega arith

  pub queue_at : (y : ℕ) → k < n → (k + 1 < n → y ≡ get_or d (k + 1) 0) → (k + 1 ≡ n → y ≡ x) → y ≡ get_or (drop 1 d ++ (x ∷ [])) k 0
  queue_at y h inside end =
      ⊎_elim
      (λ (w : k + 1 < n). inside w ∙ sym (queue_place w))
      (λ (w : n ≤ k + 1). let e : k + 1 ≡ n = omega arith in end e ∙ sym (queue_last e))
      (cases_lt (k + 1) n)

pub queue_is : (n x : ℕ) (d : List ℕ) → length d ≡ n → 0 < n → tab n (λ k. get_or (drop 1 d ++ (x ∷ [])) k 0) ≡ drop 1 d ++ (x ∷ [])
queue_is n x d size some = tab_is n _ (drop 1 d ++ (x ∷ [])) (queue_length n x 0 d size some) (λ k h. refl)

module _ (n i : ℕ) (some : 0 < n) (d : List ℕ) (e : d ≡ deltas n i) where
  -- the front of the queue is the δ of step i
  pub deltas_front : get_or d 0 0 ≡ turned_delta n i
  deltas_front =
      let f : i + 0 ≡ i = omega arith in
      ap (λ (l : List ℕ). get_or l 0 0) e ∙ get_or_tab n (λ k. turned_delta n (i + k)) 0 some ∙ ap (turned_delta n) f

  -- δ comes back after as many steps as there are words
  delta_back : rol n (get_or d 0 0) ≡ turned_delta n (i + n)
  delta_back =
      ap (rol n) deltas_front
      ∙ rol_sum n i (delta_of n i) (delta_word n i)
      ∙ ap (λ (j : ℕ). rol (i + n) (get_or delta j 0)) (sym (add-mod_right i n))

  -- the front put at the end, turned
  pub deltas_more : drop 1 d ++ (rol n (get_or d 0 0) ∷ []) ≡ deltas n (i + 1)
  deltas_more =
      let x = rol n (get_or d 0 0) in
      let size : length d ≡ n = ap length e ∙ length_tab n _ in
      sym (tab_ext n (λ k. turned_delta n (i + 1 + k)) (λ k. get_or (drop 1 d ++ (x ∷ [])) k 0) (λ k h.
      queue_at n x k d size (turned_delta n (i + 1 + k)) h
      (λ w.
      let f : i + 1 + k ≡ i + (k + 1) = omega arith in
      ap (turned_delta n) f ∙ sym (ap (λ (l : List ℕ). get_or l (k + 1) 0) e ∙ get_or_tab n (λ k. turned_delta n (i + k)) (k + 1) w))
      (λ w.
      let f : i + 1 + k ≡ i + n = omega arith in
      ap (turned_delta n) f ∙ sym delta_back)) ∙ queue_is n x d size some)

-- ---- one turn of the loop

-- a word mixed with a δ that is turned already
mixed_turned : (d i m t : ℕ) → d < 2 ^ 32 → mixed (rol i d) 0 m t ≡ mixed d i m t
unfolding mixed
mixed_turned d i m t h =
    ap (λ (x : ℕ). rol (get_or turns m 0) (add t x)) (ap (λ (n : ℕ). rol n (rol i d)) (zero-add m) ∙ rol_sum m i d h)

pub all_turned : (n d i : ℕ) (t : List ℕ) → d < 2 ^ 32 → tab n (λ m. mixed (rol i d) 0 m (get_or t m 0)) ≡ tab n (λ m. mixed d i m (get_or t m 0))
all_turned n d i t h = tab_ext n _ _ (λ m l. mixed_turned d i m (get_or t m 0) h)

-- steps keep the count of the words
sizes : (n : ℕ) (step : ℕ → List ℕ → List ℕ) → ((k : ℕ) (l : List ℕ) → length l ≡ n → length (step k l) ≡ n) → (t : List ℕ) → length t ≡ n
    → (k : ℕ) → length (stepped step k t) ≡ n
unfolding stepped
sizes n step keeps t size zero = size
sizes n step keeps t size (suc k) = keeps k (stepped step k t) (sizes n step keeps t size k)

-- steps that begin at w₀: after i of them the words are those of the definition, in the order of the next step, and the first
-- i rows are made, whichever steps and rows the code's are
module _ {W : Type 0} (n : ℕ) (mixed : ℕ → W → W → Type 0) (shown : W → List ℕ → Type 0) (w₀ : W) where
  abbrev pub Made : ℕ → W → List (List ℕ) → Type 0
  Made i w rows =
      (step row : ℕ → List ℕ → List ℕ) (order : ℕ → List ℕ → W) (t : List ℕ) → length t ≡ n → w₀ ≡ order 0 t → StepsBy n mixed shown step row order
      → (w ≡ order i (stepped step i t)) × (rows ≡ filled step row i t)

  pub made_none : (rows : List (List ℕ)) → rows ≡ replicate 32 blank → Made 0 w₀ rows
  unfolding stepped first_rows
  made_none rows e step row order t size begins steps = (begins, e)

  -- r is stored in the first of the rows, of which the others are left out
  pub made_more : (i : ℕ) (d : List ℕ) (w v : W) (rows left : List (List ℕ)) (r : List ℕ) → 0 < n → d ≡ deltas n i → i < 32 → i < length rows
      → Made i w (rows ++ left) → mixed (get_or d 0 0) w v → shown v r → Made (i + 1) v (set rows i r ++ left)
  made_more i d w v rows left r some ed few room made m s step row order t size begins steps =
      let now = made step row order t size begins steps in
      let next = stepped_more step i t in
      let long = sizes n step steps.keeps t size i in
      let front = subst (λ (x : ℕ). mixed x w v) (deltas_front n i some d ed) m in
      let words : v ≡ order (i + 1) (stepped step (i + 1) t) =
      steps.mixes i (stepped step i t) v long (subst (λ (u : W). mixed (turned_delta n i) u v) now.0 front) ∙ ap (order (i + 1)) (sym next) in
      let shows : r ≡ row i (stepped step (i + 1) t) =
      steps.shows i (stepped step i t) r long (subst (λ (u : W). shown u r) (words ∙ ap (order (i + 1)) next) s) ∙ ap (row i) (sym next) in
      (words, sym (set-append_left rows left i r room) ∙ stored step row i t (rows ++ left) r few now.1 shows)

-- 16 and 24 bytes
module _ {mixed : ℕ → List ℕ → List ℕ → Type 0} {shown : List ℕ → List ℕ → Type 0} where
  pub steps_16 : ((d : ℕ) (t v : List ℕ) → mixed d t v → v ≡ mixed_four d 0 t) → ((v r : List ℕ) → shown v r → r ≡ row16 0 v)
      → StepsBy 4 mixed shown step16 row16 (λ i t. t)
  unfolding tab row16 mixed_four
  steps_16 m s = record {
    mixes = λ i t v e p. m _ t v p ∙ all_turned 4 (delta_of 4 i) i t (delta_word 4 i);
    shows = λ i t r e p. s _ r p;
    keeps = λ i t e. refl;
  }

  pub steps_24 : ((d : ℕ) (t v : List ℕ) → mixed d t v → v ≡ mixed_row d 0 t) → ((v r : List ℕ) → shown v r → r ≡ v)
      → StepsBy 6 mixed shown step24 row24 (λ i t. t)
  unfolding tab mixed_row
  steps_24 m s = record {
    mixes = λ i t v e p. m _ t v p ∙ all_turned 6 (delta_of 6 i) i t (delta_word 6 i);
    shows = λ i t r e p. s _ r p;
    keeps = λ i t e. refl;
  }
