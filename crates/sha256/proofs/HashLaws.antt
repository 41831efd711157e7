-- Laws of the hash value: one round more, one word of the message schedule more, and the hash value of a message of one block.
use Rattle.std.proofs.Common.{◌≡◌, ℕ, zero, suc, ◌+◌, ◌/◌, ◌<◌, ◌≤◌, List, [], ◌∷◌, ◌++◌, length, get_or, take, drop, set, replicate, sym, refl, ap, ◌∙◌, add-one, arith, length-append, length-take-le, take_at}
use lib.ListN.{get_or-append}
use Rattle.lists.proofs.PartLaws.{grown, grown_whole}
use Rattle.lists.proofs.TabulationLaws.{length_tab}
use Rattle.sha256.specs.Sha256.{constants, initial, padded, block, schedule_word, next_word, message_schedule}
use Rattle.sha256.specs.Sha256.{round, rounds, sums, compress, hash_value, hash}
use Rattle.sha256.proofs.PaddingLaws.{padded_length}

pub rounds_more : (w s₀ s r : List ℕ) (i j : ℕ) → j ≡ suc i → s ≡ rounds w i s₀ → r ≡ round (get_or constants i 0) (get_or w i 0) s → r ≡ rounds w j s₀
unfolding rounds
rounds_more w s₀ s r i j k e h = h ∙ ap (round (get_or constants i 0) (get_or w i 0)) e ∙ ap (λ (n : ℕ). rounds w n s₀) (sym k)

-- ---- the message schedule

schedule_length : (n : ℕ) (m : List ℕ) → length m ≡ 16 → length (message_schedule n m) ≡ n + 16
unfolding message_schedule
schedule_length zero m e = e
schedule_length (suc n) m e =
    let h : length (message_schedule n m) ≡ n + 16 = schedule_length n m e in
    length-append (message_schedule n m) _ ∙ omega arith

-- a word more, read from and stored into the list w that holds the words so far
module _ (m w : List ℕ) (n : ℕ) (l : length m ≡ 64) (h : n < 48) (e : w ≡ message_schedule n (take 16 m) ++ drop (n + 16) m) where
  abbrev so_far : List ℕ
  so_far = message_schedule n (take 16 m)

  known : length so_far ≡ n + 16
  known = schedule_length n (take 16 m) (length-take-le 16 m (omega arith))

  at : (j : ℕ) → j < n + 16 → get_or w j 0 ≡ get_or so_far j 0
  at j b = ap (λ (x : List ℕ). get_or x j 0) e ∙ get_or-append so_far (drop (n + 16) m) 0 j (rw known b)

  pub schedule_turn : (v : ℕ) → v ≡ schedule_word (get_or w (n + 14) 0) (get_or w (n + 9) 0) (get_or w (n + 1) 0) (get_or w n 0)
      → set w (n + 16) v ≡ message_schedule (n + 1) (take 16 m) ++ drop (n + 1 + 16) m
  unfolding message_schedule next_word
  schedule_turn v f =
      let g : n + 16 + 1 ≡ n + 1 + 16 = omega arith in
      let read : v ≡ next_word so_far n
      = f ∙ (λ i. schedule_word (at (n + 14) (omega arith) i) (at (n + 9) (omega arith) i) (at (n + 1) (omega arith) i) (at n (omega arith) i)) in
      (λ i. set (e i) (n + 16) (read i))
      ∙ grown so_far m (n + 16) (next_word so_far n) known (omega arith)
      ∙ ap (λ (k : ℕ). (so_far ++ (next_word so_far n ∷ [])) ++ drop k m) g
      ∙ ap (λ (k : ℕ). message_schedule k (take 16 m) ++ drop (n + 1 + 16) m) (sym (add-one n))

pub schedule_full : (m w : List ℕ) (n : ℕ) → length m ≡ 64 → n ≡ 48 → w ≡ message_schedule n (take 16 m) ++ drop (n + 16) m
    → w ≡ message_schedule 48 (take 16 m)
schedule_full m w n l h e =
    e ∙ ap (λ (k : ℕ). message_schedule k (take 16 m) ++ drop (k + 16) m) h ∙ grown_whole (message_schedule 48 (take 16 m)) m 64 (omega arith)

-- ---- a message of at most 55 bytes

hash_short : (m : List ℕ) → length m ≤ 55 → hash m ≡ compress (block (padded m) 0) initial
unfolding hash hash_value
hash_short m h = ap (λ (k : ℕ). hash_value (padded m) (k / 64)) (padded_length m (length m) refl h)

block_length_lem : (p : List ℕ) (n : ℕ) → length (block p n) ≡ 16
unfolding block
block_length_lem p n = length_tab 16 _

-- what the code makes of it, part by part
pub hash_parts : (m v w s r : List ℕ) → length m ≤ 55 → v ≡ block (padded m) 0 ++ replicate 48 0 → w ≡ message_schedule 48 (take 16 v)
    → s ≡ rounds w 64 initial → r ≡ sums initial s → r ≡ hash m
unfolding compress
hash_parts m v w s r h ev ew es er =
    let f : take 16 v ≡ block (padded m) 0 = ap (take 16) ev ∙ take_at (block (padded m) 0) (replicate 48 0) 16 (block_length_lem (padded m) 0) in
    er
    ∙ ap (sums initial) (es ∙ ap (λ (x : List ℕ). rounds x 64 initial) (ew ∙ ap (message_schedule 48) f))
    ∙ sym (hash_short m h)
