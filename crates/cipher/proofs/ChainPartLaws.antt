-- A chain put together from its parts: its length, what stands in each place of it, that it is valid exactly where its parts are as
-- they must be; and every chain is the one that is put together from what it has.
use Rattle.std.proofs.Common.{◌≡◌, ℕ, suc, ◌+◌, ◌-◌, ◌*◌, ◌/◌, ◌%◌, ◌<◌, ◌≤◌, List, ◌++◌, length, get_or, drop, sym, ◌∙◌, subst, arith, length-append, get_or-drop, ext_get_or}
use native.Mathlib.Decide.{dec_lt}
use lib.ListN.{get_or-append}
use Rattle.lists.specs.Tabulation.{tab, chunks, tables}
use Rattle.lists.proofs.TabulationLaws.{length_tab, get_or_tab}
use Rattle.lists.proofs.ChunkLaws.{length_chunks, get_or_chunks, get_or_second, length_tables, get_or_tables}
use Rattle.cipher.specs.KeySize.{rounds}
use Rattle.cipher.specs.Lengths.{coding_length, set_length, middles_length, round_codings_length}
use Rattle.cipher.specs.Coding.{Set, SameWord}
use Rattle.cipher.specs.Chain.{message_set, chain_set, round_bytes, middle_set, mask_at, CodingRule, SameWords, MaskRule, ChainBy}
use Rattle.cipher.specs.ChainParts.{set_bytes, coding_bytes, chain_from, ValidParts}
use Rattle.cipher.specs.declared.size.KeySize.{KeySize}
use Rattle.cipher.proofs.Permutation.{once_ext}

-- ---- lengths

length_of_set : (S : Set) → length (set_bytes S) ≡ set_length
unfolding set_bytes
length_of_set S = length_tables 32 coding_length S

coding_length_lem : (G : Set) (m : ℕ → ℕ) → length (coding_bytes G m) ≡ round_codings_length
unfolding coding_bytes
coding_length_lem G m = length-append (tables 24 coding_length G) (tab 24 m) ∙ rw (length_tables 24 coding_length G, length_tab 24 m)

module _ (r : ℕ) (U : Set) (S G : ℕ → Set) (M : ℕ → ℕ → ℕ) where
  abbrev made : List ℕ
  made = chain_from r U S G M

  sets : List ℕ
  sets = chunks (suc r) (λ l. set_bytes (S l))

  rest : List ℕ
  rest = chunks r (λ l. coding_bytes (G l) (M l))

  sets_length : length sets ≡ suc r * set_length
  unfolding sets
  sets_length = length_chunks (λ l. set_bytes (S l)) set_length (λ l. length_of_set (S l)) (suc r)

  rest_length : length rest ≡ r * round_codings_length
  unfolding rest
  rest_length = length_chunks (λ l. coding_bytes (G l) (M l)) round_codings_length (λ l. coding_length_lem (G l) (M l)) r

  pub from_length : length made ≡ set_length * (r + 2) + round_codings_length * r
  unfolding chain_from sets rest
  from_length =
      length-append (set_bytes U) (sets ++ rest)
      ∙ rw (length_of_set U, length-append sets rest, sets_length, rest_length) (omega arith)

  -- ---- what stands in each place
  pub message_read : (w j v : ℕ) → w < 4 → j < 8 → v < 16 → message_set made w j v ≡ U w j v
  unfolding chain_from set_bytes sets rest
  message_read w j v hw hj hv =
      get_or-append (set_bytes U) (sets ++ rest) 0 (coding_length * (8 * w + j) + v) (rw (length_of_set U) (omega arith))
      ∙ get_or_tables 32 coding_length U w j v hj (omega arith) hv

  pub set_read : (l w j v : ℕ) → l ≤ r → w < 4 → j < 8 → v < 16 → chain_set made l w j v ≡ S l w j v
  unfolding chain_from set_bytes sets rest
  set_read l w j v hl hw hj hv =
      let k = coding_length * (8 * w + j) + v in
      get_or-drop (set_length * suc l) made k 0
      ∙ get_or_second (set_bytes U) (sets ++ rest) set_length (l * set_length + k) (set_length * suc l + k) (length_of_set U) (omega arith)
      ∙ get_or-append sets rest 0 (l * set_length + k) (rw sets_length (omega arith))
      ∙ get_or_chunks (λ l. set_bytes (S l)) set_length (λ l. length_of_set (S l)) (suc r) l k (omega arith) (omega arith)
      ∙ get_or_tables 32 coding_length (S l) w j v hj (omega arith) hv

  round_read : (l o : ℕ) → l < r → o < round_codings_length → get_or (round_bytes r made l) o 0 ≡ get_or (coding_bytes (G l) (M l)) o 0
  unfolding chain_from sets rest
  round_read l o hl ho =
      let at = set_length * (r + 2) + round_codings_length * l in
      let n = suc r * set_length + (l * round_codings_length + o) in
      get_or-drop at made o 0
      ∙ get_or_second (set_bytes U) (sets ++ rest) set_length n (at + o) (length_of_set U) (omega arith)
      ∙ get_or_second sets rest (suc r * set_length) (l * round_codings_length + o) n sets_length (omega arith)
      ∙ get_or_chunks (λ l. coding_bytes (G l) (M l)) round_codings_length (λ l. coding_length_lem (G l) (M l)) r l o hl ho

  pub middle_read : (l i j v : ℕ) → l < r → i < 3 → j < 8 → v < 16 → middle_set r made l i j v ≡ G l i j v
  unfolding coding_bytes
  middle_read l i j v hl hi hj hv =
      let k = coding_length * (8 * i + j) + v in
      round_read l k hl (omega arith)
      ∙ get_or-append (tables 24 coding_length (G l)) (tab 24 (M l)) 0 k (rw (length_tables 24 coding_length (G l)) (omega arith))
      ∙ get_or_tables 24 coding_length (G l) i j v hj (omega arith) hv

  pub mask_read : (l k : ℕ) → l < r → k < 24 → mask_at r made l k ≡ M l k
  unfolding coding_bytes
  mask_read l k hl hk =
      round_read l (middles_length + k) hl (omega arith)
      ∙ get_or_second (tables 24 coding_length (G l)) (tab 24 (M l)) middles_length k (middles_length + k) (length_tables 24 coding_length (G l)) (omega arith)
      ∙ get_or_tab 24 (M l) k hk

  -- ---- the rules, each by itself; a word rule for any two words
  pub from_codings : (from to : ℕ) → ValidParts from to r U S G M → CodingRule r made
  from_codings from to h = record {
    message = λ w j hw hj. once_ext 16 16 (U w j) (message_set made w j) (λ v hv. sym (message_read w j v hw hj hv)) (h.message w j hw hj);
    sets = λ l hl w j hw hj. once_ext 16 16 (S l w j) (chain_set made l w j) (λ v hv. sym (set_read l w j v hl hw hj hv)) (h.sets l hl w j hw hj);
    middles = λ l i j hl hi hj. once_ext 16 16 (G l i j) (middle_set r made l i j) (λ v hv. sym (middle_read l i j v hl hi hj hv))
        (h.middles l i j hl hi hj);
  }

  module _ (from to : ℕ) (hf : from < 4) (ht : to < 4) where
    pub from_words : ((l : ℕ) → l < r → SameWord from to (S l) (S (suc l))) → SameWords from to r made
    from_words h l hl j v hj hv =
        set_read (suc l) to j v hl ht hj hv ∙ h l hl j v hj hv ∙ sym (set_read l from j v (omega arith) hf hj hv)

    pub words_from : SameWords from to r made → (l : ℕ) → l < r → SameWord from to (S l) (S (suc l))
    words_from h l hl j v hj hv =
        sym (set_read (suc l) to j v hl ht hj hv) ∙ h l hl j v hj hv ∙ set_read l from j v (omega arith) hf hj hv

  pub from_masks : ((l k : ℕ) → l < r → k < 24 → M l k < 2) → MaskRule r made
  from_masks b l k hl hk = rw (mask_read l k hl hk) (b l k hl hk)

-- ---- it is valid exactly where its parts are

module _ (from to : ℕ) (hf : from < 4) (ht : to < 4) (z : KeySize) (U : Set) (S G : ℕ → Set) (M : ℕ → ℕ → ℕ) where
  abbrev r : ℕ
  r = rounds z

  pub from_valid : ValidParts from to r U S G M → ChainBy from to z (chain_from r U S G M)
  from_valid h = record {
    size = from_length r U S G M ∙ omega arith;
    codings = from_codings r U S G M from to h;
    words = from_words r U S G M from to hf ht h.words;
    masks = from_masks r U S G M h.bits;
  }

  pub valid_from : ChainBy from to z (chain_from r U S G M) → ValidParts from to r U S G M
  valid_from h = record {
    message = λ w j hw hj. once_ext 16 16 (message_set (chain_from r U S G M) w j) (U w j) (λ v hv. message_read r U S G M w j v hw hj hv)
        (h.codings.message w j hw hj);
    sets = λ l hl w j hw hj. once_ext 16 16 (chain_set (chain_from r U S G M) l w j) (S l w j) (λ v hv. set_read r U S G M l w j v hl hw hj hv)
        (h.codings.sets l hl w j hw hj);
    middles = λ l i j hl hi hj. once_ext 16 16 (middle_set r (chain_from r U S G M) l i j) (G l i j)
        (λ v hv. middle_read r U S G M l i j v hl hi hj hv) (h.codings.middles l i j hl hi hj);
    words = words_from r U S G M from to hf ht h.words;
    bits = λ l k hl hk. rw (sym (mask_read r U S G M l k hl hk)) (h.masks l k hl hk);
  }

-- ---- a chain has nothing besides its parts: what is so of each byte of these is so of all

module _ (r : ℕ) (P : ℕ → Type 0) (message : (w j v : ℕ) → w < 4 → j < 8 → v < 16 → P (coding_length * (8 * w + j) + v))
    (sets : (l w j v : ℕ) → l ≤ r → w < 4 → j < 8 → v < 16 → P (set_length * suc l + (coding_length * (8 * w + j) + v)))
    (middles : (l i j v : ℕ) → l < r → i < 3 → j < 8 → v < 16 → P (set_length * (r + 2) + round_codings_length * l + (coding_length * (8 * i + j) + v)))
    (masks : (l k : ℕ) → l < r → k < 24 → P (set_length * (r + 2) + round_codings_length * l + (middles_length + k))) where
  -- at k, which is the offset o
  moved : (k o : ℕ) → o ≡ k → P o → P k
  moved k o e d = subst P e d

  in_message : (k : ℕ) → k < set_length → P k
  in_message k h =
      moved k (coding_length * (8 * (k / 128) + k / 16 % 8) + k % 16) (omega arith) (message (k / 128) (k / 16 % 8) (k % 16) (omega arith) (omega arith) (omega arith))

  in_set : (l o : ℕ) → l ≤ r → o < set_length → P (set_length * suc l + o)
  in_set l o hl ho =
      moved (set_length * suc l + o) (set_length * suc l + (coding_length * (8 * (o / 128) + o / 16 % 8) + o % 16)) (omega arith)
      (sets l (o / 128) (o / 16 % 8) (o % 16) hl (omega arith) (omega arith) (omega arith))

  in_round : (l o : ℕ) → l < r → o < round_codings_length → Dec (o < middles_length) → P (set_length * (r + 2) + round_codings_length * l + o)
  in_round l o hl ho (yes d) =
      let n = set_length * (r + 2) + round_codings_length * l in
      moved (n + o) (n + (coding_length * (8 * (o / 128) + o / 16 % 8) + o % 16)) (omega arith)
      (middles l (o / 128) (o / 16 % 8) (o % 16) hl (omega arith) (omega arith) (omega arith))
  in_round l o hl ho (no d) =
      let n = set_length * (r + 2) + round_codings_length * l in
      moved (n + o) (n + (middles_length + (o - middles_length))) (omega arith) (masks l (o - middles_length) hl (omega arith))

  at : (k : ℕ) → k < set_length * (r + 2) + round_codings_length * r → Dec (k < set_length) → Dec (k < set_length * (r + 2)) → P k
  at k b (yes d) e = in_message k d
  at k b (no d) (yes e) =
      let l = (k - set_length) / set_length in
      moved k (set_length * suc l + k % set_length) (omega arith) (in_set l (k % set_length) (omega arith) (omega arith))
  at k b (no d) (no e) =
      let q = k - set_length * (r + 2) in
      let l = q / round_codings_length in
      let o = q % round_codings_length in
      moved k (set_length * (r + 2) + round_codings_length * l + o) (omega arith) (in_round l o (omega arith) (omega arith) (dec_lt o middles_length))

  pub every_byte : (k : ℕ) → k < set_length * (r + 2) + round_codings_length * r → P k
  every_byte k b = at k b (dec_lt k set_length) (dec_lt k (set_length * (r + 2)))

-- byte o behind n of two lists
pub behind : (a b : List ℕ) (n o : ℕ) → get_or (drop n a) o 0 ≡ get_or (drop n b) o 0 → get_or a (n + o) 0 ≡ get_or b (n + o) 0
behind a b n o d = sym (get_or-drop n a o 0) ∙ d ∙ get_or-drop n b o 0

module _ (r : ℕ) (ch ch' : List ℕ) (size : length ch ≡ set_length * (r + 2) + round_codings_length * r) (size' : length ch' ≡ length ch)
    (message : (w j v : ℕ) → w < 4 → j < 8 → v < 16 → message_set ch w j v ≡ message_set ch' w j v)
    (sets : (l w j v : ℕ) → l ≤ r → w < 4 → j < 8 → v < 16 → chain_set ch l w j v ≡ chain_set ch' l w j v)
    (middles : (l i j v : ℕ) → l < r → i < 3 → j < 8 → v < 16 → middle_set r ch l i j v ≡ middle_set r ch' l i j v)
    (masks : (l k : ℕ) → l < r → k < 24 → mask_at r ch l k ≡ mask_at r ch' l k) where
  pub chain_only : ch ≡ ch'
  chain_only =
      ext_get_or 0 ch ch' (sym size') (λ k b.
      let m : k < set_length * (r + 2) + round_codings_length * r = rw size at b in
      every_byte r (λ k. get_or ch k 0 ≡ get_or ch' k 0) message
      (λ l w j v hl hw hj hv. behind ch ch' (set_length * suc l) (coding_length * (8 * w + j) + v) (sets l w j v hl hw hj hv))
      (λ l i j v hl hi hj hv. behind ch ch' (set_length * (r + 2) + round_codings_length * l) (coding_length * (8 * i + j) + v) (middles l i j v hl hi hj hv))
      (λ l k hl hk. behind ch ch' (set_length * (r + 2) + round_codings_length * l) (middles_length + k) (masks l k hl hk)) k m)

pub parts_whole : (r : ℕ) (ch : List ℕ) → length ch ≡ set_length * (r + 2) + round_codings_length * r
    → chain_from r (message_set ch) (chain_set ch) (middle_set r ch) (mask_at r ch) ≡ ch
parts_whole r ch e =
    let U = message_set ch in
    let S = chain_set ch in
    let G = middle_set r ch in
    let M = mask_at r ch in
    let n = from_length r U S G M in
    chain_only r (chain_from r U S G M) ch n (e ∙ sym n) (message_read r U S G M) (set_read r U S G M) (middle_read r U S G M) (mask_read r U S G M)
