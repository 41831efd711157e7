-- Laws of LEA over any rows of words: a round is undone, so are the first n rounds, and deciphering and enciphering a
-- block undo each other, both ways round.
use Rattle.std.proofs.Common.{◌≡◌, ℕ, zero, suc, ◌+◌, ◌*◌, ◌^◌, ◌<◌, ◌≤◌, List, [], ◌∷◌, ◌++◌, get_or, refl, ap, ◌∙◌, add-one, arith, lit<, lit≤}
use lib.Bits.{bit_xor}
use Rattle.words.proofs.RowLaws.{word_at_word}
use Rattle.lists.specs.Tabulation.{tab}
use Rattle.lists.specs.Blocks.{Below, Bytes, Block, zeros, xor_block}
use Rattle.lists.proofs.BlockLaws.{xor_at}
use Rattle.lists.proofs.TabulationLaws.{tab_is}
use Rattle.words.specs.Word.{add, sub, xor, turn_left, turn_right, word, bytes_of, word_at, xor_words, words4, bytes}
use Rattle.cipher.specs.KeySize.{rounds}
use Rattle.words.specs.Rows.{RowsOfWords}
use Rattle.cipher.specs.Schedules.{key_rows}
use Rattle.cipher.specs.Lea.{keyed, unkeyed, round, unround, forward, backward, first_rounds, undone_rounds, encipher, decipher}
use Rattle.cipher.specs.declared.size.KeySize.{KeySize}
use Rattle.cipher.specs.declared.schedules.Schedule.{Schedule}
use Rattle.words.proofs.WordLaws.{right_left, left_right, add_word, sub_word, left_word, right_word, xor_word, sub_add, add_sub, xor_xor, bytes_word, word_bytes, word_xor}
use Rattle.cipher.proofs.SchedulesLaws.{key_words}

-- four words
pub data Four : List ℕ → Type 0 where
  four : {a b c d : ℕ} → a < 2 ^ 32 → b < 2 ^ 32 → c < 2 ^ 32 → d < 2 ^ 32 → Four (a ∷ b ∷ c ∷ d ∷ [])

-- ---- the round

keyed_word : (x k y l : ℕ) → keyed x k y l < 2 ^ 32
unfolding keyed
keyed_word x k y l = add_word (xor x k) (xor y l)

pub unkeyed_word : (s x k l : ℕ) → l < 2 ^ 32 → unkeyed s x k l < 2 ^ 32
unfolding unkeyed
unkeyed_word s x k l h = xor_word (sub s (xor x k)) l (sub_word s (xor x k)) h

unkeyed_keyed : (x k y l : ℕ) → x < 2 ^ 32 → k < 2 ^ 32 → y < 2 ^ 32 → l < 2 ^ 32 → unkeyed (keyed x k y l) x k l ≡ y
unfolding keyed unkeyed
unkeyed_keyed x k y l hx hk hy hl =
    ap (λ (z : ℕ). xor z l) (sub_add (xor x k) (xor y l) (xor_word x k hx hk) (xor_word y l hy hl)) ∙ xor_xor y l

keyed_unkeyed : (s x k l : ℕ) → s < 2 ^ 32 → x < 2 ^ 32 → k < 2 ^ 32 → keyed x k (unkeyed s x k l) l ≡ s
unfolding keyed unkeyed
keyed_unkeyed s x k l hs hx hk = ap (add (xor x k)) (xor_xor (sub s (xor x k)) l) ∙ add_sub s (xor x k) hs (xor_word x k hx hk)

round_words : (k : List ℕ) {x : List ℕ} → Four x → Four (round k x)
unfolding round
round_words k (four ha hb hc hd) =
    four
    (left_word 9 _ (omega arith) (keyed_word _ _ _ _))
    (right_word 5 _ (omega arith) (keyed_word _ _ _ _))
    (right_word 3 _ (omega arith) (keyed_word _ _ _ _))
    ha

unround_words : (k : List ℕ) {y : List ℕ} → Below (2 ^ 32) k → Four y → Four (unround k y)
unfolding unround
unround_words k hk (four ha hb hc hd) =
    four hd (unkeyed_word _ _ _ _ (hk 1)) (unkeyed_word _ _ _ _ (hk 3)) (unkeyed_word _ _ _ _ (hk 5))

-- a turned sum, turned back and with the other word taken off
module _ (n x k y l : ℕ) (hn : n ≤ 32) (hx : x < 2 ^ 32) (hk : k < 2 ^ 32) (hy : y < 2 ^ 32) (hl : l < 2 ^ 32) where
  back_left : unkeyed (turn_right n (turn_left n (keyed x k y l))) x k l ≡ y
  back_left = ap (λ (z : ℕ). unkeyed z x k l) (right_left n _ hn (keyed_word x k y l)) ∙ unkeyed_keyed x k y l hx hk hy hl

  back_right : unkeyed (turn_left n (turn_right n (keyed x k y l))) x k l ≡ y
  back_right = ap (λ (z : ℕ). unkeyed z x k l) (left_right n _ hn (keyed_word x k y l)) ∙ unkeyed_keyed x k y l hx hk hy hl

pub unround_round : (k : List ℕ) {x : List ℕ} → Below (2 ^ 32) k → Four x → unround k (round k x) ≡ x
unfolding round unround
unround_round k hk (four {a = a} {b = b} {c = c} {d = d} ha hb hc hd) =
    let e = back_left 9 a (get_or k 0 0) b (get_or k 1 0) (omega arith) ha (hk 0) hb (hk 1) in
    let f = back_right 5 b (get_or k 2 0) c (get_or k 3 0) (omega arith) hb (hk 2) hc (hk 3) in
    let g = back_right 3 c (get_or k 4 0) d (get_or k 5 0) (omega arith) hc (hk 4) hd (hk 5) in
    cc

-- a word turned back, the other word taken off, summed and turned again
module _ (n s x k l : ℕ) (hn : n ≤ 32) (hs : s < 2 ^ 32) (hx : x < 2 ^ 32) (hk : k < 2 ^ 32) where
  again_left : turn_left n (keyed x k (unkeyed (turn_right n s) x k l) l) ≡ s
  again_left = ap (turn_left n) (keyed_unkeyed (turn_right n s) x k l (right_word n s hn hs) hx hk) ∙ left_right n s hn hs

  again_right : turn_right n (keyed x k (unkeyed (turn_left n s) x k l) l) ≡ s
  again_right = ap (turn_right n) (keyed_unkeyed (turn_left n s) x k l (left_word n s hn hs) hx hk) ∙ right_left n s hn hs

pub round_unround : (k : List ℕ) {y : List ℕ} → Below (2 ^ 32) k → Four y → round k (unround k y) ≡ y
unfolding round unround
round_unround k hk (four {a = a} {b = b} {c = c} {d = d} ha hb hc hd) =
    let p = unkeyed (turn_right 9 a) d (get_or k 0 0) (get_or k 1 0) in
    let q = unkeyed (turn_left 5 b) p (get_or k 2 0) (get_or k 3 0) in
    let e = again_left 9 a d (get_or k 0 0) (get_or k 1 0) (omega arith) ha hd (hk 0) in
    let f = again_right 5 b p (get_or k 2 0) (get_or k 3 0) (omega arith) hb (unkeyed_word _ _ _ _ (hk 1)) (hk 2) in
    let g = again_right 3 c q (get_or k 4 0) (get_or k 5 0) (omega arith) hc (unkeyed_word _ _ _ _ (hk 3)) (hk 4) in
    λ i. e i ∷ f i ∷ g i ∷ d ∷ []

-- ---- the rounds

pub forward_words : (rows : List (List ℕ)) (n : ℕ) {x : List ℕ} → Four x → Four (forward rows n x)
unfolding forward
forward_words rows zero h = h
forward_words rows (suc n) h = round_words (get_or rows n []) (forward_words rows n h)

module _ (rows : List (List ℕ)) (hr : RowsOfWords rows) where
  pub backward_words : (n : ℕ) {x : List ℕ} → Four x → Four (backward rows n x)
  unfolding backward
  backward_words zero h = h
  backward_words (suc n) h = backward_words n (unround_words (get_or rows n []) (hr n) h)

  -- the first n rounds undone
  pub backward_forward : (n : ℕ) {x : List ℕ} → Four x → backward rows n (forward rows n x) ≡ x
  unfolding forward backward
  backward_forward zero h = refl
  backward_forward (suc n) h =
      ap (backward rows n) (unround_round (get_or rows n []) (hr n) (forward_words rows n h)) ∙ backward_forward n h

  pub forward_backward : (n : ℕ) {x : List ℕ} → Four x → forward rows n (backward rows n x) ≡ x
  unfolding forward backward
  forward_backward zero h = refl
  forward_backward (suc n) {x} h =
      let u = unround_words (get_or rows n []) (hr n) h in
      ap (round (get_or rows n [])) (forward_backward n u) ∙ round_unround (get_or rows n []) (hr n) h

-- ---- words and bytes

pub words_bytes : {x : List ℕ} → Four x → words4 (bytes x) ≡ x
unfolding words4 bytes word_at bytes_of
words_bytes (four {a = a} {b = b} {c = c} {d = d} ha hb hc hd) = cc (word_bytes a ha, word_bytes b hb, word_bytes c hc, word_bytes d hd)

pub bytes_words : {b : List ℕ} → Block b → bytes (words4 b) ≡ b
unfolding words4 bytes word_at tab
bytes_words {b} h =
    let at : (i : ℕ) → bytes_of (word (get_or b i 0) (get_or b (i + 1) 0) (get_or b (i + 2) 0) (get_or b (i + 3) 0))
    ≡ get_or b i 0 ∷ get_or b (i + 1) 0 ∷ get_or b (i + 2) 0 ∷ get_or b (i + 3) 0 ∷ []
    = λ i. bytes_word _ _ _ _ (h.bytes i) (h.bytes (i + 1)) (h.bytes (i + 2)) (h.bytes (i + 3)) in
    rw (at 0, at 4, at 8, at 12) (tab_is 16 (λ k. get_or b k 0) b h.size (λ k l. refl))

pub words_four : (b : List ℕ) → Bytes b → Four (words4 b)
unfolding words4
words_four b h = four (word_at_word b 0 h) (word_at_word b 4 h) (word_at_word b 8 h) (word_at_word b 12 h)

-- xor of blocks, in words
pub words_xor : (a b : List ℕ) → Bytes a → Bytes b → words4 (xor_block a b) ≡ xor_words (words4 a) (words4 b)
unfolding words4 word_at xor_words
words_xor a b ha hb = λ i. at 0 (lit≤ tt) i ∷ at 4 (lit≤ tt) i ∷ at 8 (lit≤ tt) i ∷ at 12 (lit≤ tt) i ∷ []
  where
    at : (k : ℕ) → k + 4 ≤ 16 → word_at (xor_block a b) k ≡ xor (word_at a k) (word_at b k)
    at k h =
        let e : (j : ℕ) → j < 4 → get_or (xor_block a b) (k + j) 0 ≡ bit_xor (get_or a (k + j) 0) (get_or b (k + j) 0) = λ j l. xor_at a b (k + j) (omega arith) in
        (λ i. word (xor_at a b k (omega arith) i) (e 1 (lit< tt) i) (e 2 (lit< tt) i) (e 3 (lit< tt) i))
        ∙ word_xor (get_or a k 0) (get_or a (k + 1) 0) (get_or a (k + 2) 0) (get_or a (k + 3) 0)
        (get_or b k 0) (get_or b (k + 1) 0) (get_or b (k + 2) 0) (get_or b (k + 3) 0) (ha k) (ha (k + 1)) (ha (k + 2)) (hb k) (hb (k + 1)) (hb (k + 2))

-- the words of the zero block
pub words_zeros : words4 zeros ≡ 0 ∷ 0 ∷ 0 ∷ 0 ∷ []
unfolding words4 word_at word
words_zeros = refl

bytes_below : (w : ℕ) → Below 256 (bytes_of w)
unfolding bytes_of
bytes_below w zero = omega arith
bytes_below w (suc zero) = omega arith
bytes_below w (suc (suc zero)) = omega arith
bytes_below w (suc (suc (suc zero))) = omega arith
bytes_below w (suc (suc (suc (suc k)))) = lit< tt

-- whatever four words are, their bytes are a block
pub block_bytes : (x : List ℕ) → Block (bytes x)
unfolding bytes bytes_of
block_bytes x = record { size = refl; bytes = at }
  where
    joined : (a : ℕ) (l : List ℕ) → Bytes l → Bytes (bytes_of a ++ l)
    joined a l h zero = bytes_below a 0
    joined a l h (suc zero) = bytes_below a 1
    joined a l h (suc (suc zero)) = bytes_below a 2
    joined a l h (suc (suc (suc zero))) = bytes_below a 3
    joined a l h (suc (suc (suc (suc k)))) = h k

    at : Bytes (bytes x)
    at =
        joined (get_or x 0 0) (bytes_of (get_or x 1 0) ++ bytes_of (get_or x 2 0) ++ bytes_of (get_or x 3 0))
        (joined (get_or x 1 0) (bytes_of (get_or x 2 0) ++ bytes_of (get_or x 3 0)) (joined (get_or x 2 0) (bytes_of (get_or x 3 0)) (bytes_below (get_or x 3 0))))

-- ---- the block

pub block_rounds : (rows : List (List ℕ)) (n : ℕ) (b : List ℕ) → Block (first_rounds rows n b)
unfolding first_rounds
block_rounds rows n b = block_bytes (forward rows n (words4 b))

pub block_undone : (rows : List (List ℕ)) (n : ℕ) (b : List ℕ) → Block (undone_rounds rows n b)
unfolding undone_rounds
block_undone rows n b = block_bytes (backward rows n (words4 b))

module _ (rows : List (List ℕ)) (hr : RowsOfWords rows) (n : ℕ) {b : List ℕ} (h : Block b) where
  pub rounds_undone : undone_rounds rows n (first_rounds rows n b) ≡ b
  unfolding first_rounds undone_rounds
  rounds_undone =
      let w = words_four b h.bytes in
      ap (λ (x : List ℕ). bytes (backward rows n x)) (words_bytes (forward_words rows n w))
      ∙ ap bytes (backward_forward rows hr n w)
      ∙ bytes_words h

  pub undone_rounds_lem : first_rounds rows n (undone_rounds rows n b) ≡ b
  unfolding first_rounds undone_rounds
  undone_rounds_lem =
      let w = words_four b h.bytes in
      ap (λ (x : List ℕ). bytes (forward rows n x)) (words_bytes (backward_words rows hr n w))
      ∙ ap bytes (forward_backward rows hr n w)
      ∙ bytes_words h

-- under a key: deciphering undoes enciphering, and the other way round
module _ (k : Schedule) (z : KeySize) (key : List ℕ) {b : List ℕ} (hk : Bytes key) (h : Block b) where
  pub decipher_encipher : decipher k z key (encipher k z key b) ≡ b
  decipher_encipher = rounds_undone (key_rows k z key) (key_words k z key hk) (rounds z) h

  pub encipher_decipher : encipher k z key (decipher k z key b) ≡ b
  encipher_decipher = undone_rounds_lem (key_rows k z key) (key_words k z key hk) (rounds z) h

-- ---- one turn of a loop more: a round, or four

pub forward_more : (rows : List (List ℕ)) (n : ℕ) (x : List ℕ) → forward rows (n + 1) x ≡ round (get_or rows n []) (forward rows n x)
unfolding forward
forward_more rows n x = rw add-one

-- rows 4q to 4q + 3, as the code counts them
module _ (rows : List (List ℕ)) (q : ℕ) (x : List ℕ) where
  next : 4 * (q + 1) ≡ suc (suc (suc (suc (4 * q))))
  next = omega arith

  one : 4 * q + 1 ≡ suc (4 * q)
  one = omega arith

  two : 4 * q + 2 ≡ suc (suc (4 * q))
  two = omega arith

  three : 4 * q + 3 ≡ suc (suc (suc (4 * q)))
  three = omega arith

  pub forward_four : forward rows (4 * (q + 1)) x
      ≡ round (get_or rows (4 * q + 3) []) (round (get_or rows (4 * q + 2) []) (round (get_or rows (4 * q + 1) []) (round (get_or rows (4 * q) []) (forward rows (4 * q) x))))
  unfolding forward
  forward_four = rw (next, three, two, one)

  pub backward_four : backward rows (4 * (q + 1)) x
      ≡ backward rows (4 * q)
      (unround (get_or rows (4 * q) []) (unround (get_or rows (4 * q + 1) []) (unround (get_or rows (4 * q + 2) []) (unround (get_or rows (4 * q + 3) []) x))))
  unfolding backward
  backward_four = rw (next, three, two, one)
