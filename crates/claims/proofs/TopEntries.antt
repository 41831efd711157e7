-- Two chains that differ in masks at half byte 0 alone (document 02, 2026-06) make the same entries everywhere but in the tables of the top
-- half bytes, and there the same lower four bits; sealing and reading, with any rows of round keys.
use mathlib.Core.Path.{◌≡◌, refl, sym, ap, ap₂, ◌∙◌, subst}
use mathlib.Core.List.{List, []}
use Prim.Native.Nat.{ℕ, zero, suc, ◌+◌, ◌-◌, ◌*◌, ◌/◌, ◌%◌, ◌≤◌, ◌<◌, zero-le}
use native.Mathlib.Decide.{dec_lt, ℕ_discrete}
use native.Mathlib.Nat.{le_refl}
use native.Mathlib.Omega.{arith}
use lib.Arith.{digits_mod}
use lib.Bits.{bit_xor, xor_lt}
use lib.ListN.{length, get_or, drop, get_or-eq_default}
use lib.Seq.{get_or-drop}
use Rattle.lists.specs.Blocks.{zeros}
use Rattle.lists.specs.HalfBytes.{half_byte}
use Rattle.lists.proofs.HalfByteLaws.{half_lt}
use Rattle.cipher.specs.Lengths.{set_length, middles_length, round_codings_length, round_length, rounds_start}
use Rattle.cipher.specs.KeySize.{rounds}
use Rattle.cipher.specs.Lea.{first_rounds}
use Rattle.cipher.specs.Coding.{Set, Permutations, decode, block_half}
use Rattle.cipher.specs.Tables.{turned, add_sum, add_entry, turn_entry, fold_entry, RoundCodings, add_table, upper, lower, turn_table, fold_table}
use Rattle.cipher.specs.Chain.{message_set, chain_set, middle_set, mask_at, mask_in, round_codings, CodingRule}
use Rattle.cipher.specs.ChainParts.{chain_from}
use Rattle.cipher.specs.Book.{start_part, group_key, book_of, whole_book}
use Rattle.cipher.specs.declared.size.KeySize.{KeySize}
use Rattle.cipher.proofs.Permutation.{decode_ext, decode_lt}
use Rattle.cipher.proofs.CodingLaws.{Agree, block_half_lt, coded_agree}
use Rattle.cipher.proofs.TableLaws.{turned_lt, upper_lt, lower_lt}
use Rattle.cipher.proofs.ChainPartLaws.{from_length, message_read, set_read, middle_read, mask_read, every_byte, behind}
use Rattle.cipher.proofs.BookLaw.{book_size, book_made, byte_of_start, byte_of_fold, byte_of_add, byte_of_turn, every_offset}
use Rattle.reading.specs.Tables.{difference, subtract_entry, upper_back, lower_back, turn_back_table, subtract_table}
use Rattle.reading.specs.Book.{row_back, reading_book_of}
use Rattle.reading.specs.LikeSealing.{cut_of}
use Rattle.reading.proofs.TurnsBack as Turns
use Rattle.reading.proofs.ReadingTableLaws.{turn_back_is}
use Rattle.reading.proofs.ReadingBookLaw as Back
use Rattle.claims.specs.TopMasks.{top_mask_at, TopMask, TopEntry, TopReadingEntry, ButTopMasks, SameLow, ButTops}

-- ---- what a chain gives to a round

-- two rounds' codings are the same, and their masks but for the carries out of the top half bytes
pub record Alike (c c' : RoundCodings) : Type 0 where
  pub before : Agree c.before c'.before
  pub after : Agree c.after c'.after
  pub middle : (i j v : ℕ) → i < 3 → j < 8 → v < 16 → c.middle i j v ≡ c'.middle i j v
  pub ins : (i j : ℕ) → i < 3 → j < 8 → c.mask_in i j ≡ c'.mask_in i j
  pub outs : (i j : ℕ) → i < 3 → j < 7 → c.mask_out i j ≡ c'.mask_out i j

-- what is left of a number by m
pub same_rest : (m p q a b : ℕ) → a < m → b < m → p * m + a ≡ q * m + b → a ≡ b
same_rest m p q a b ha hb e = sym (digits_mod p ha) ∙ ap (λ (n : ℕ). n % m) e ∙ digits_mod q hb

-- no such mask is at k
clear : (r k : ℕ) → ((l i : ℕ) → l < r → i < 3 → k ≡ top_mask_at r l i → ⊥) → TopMask r k → ⊥
clear r k h t = h t.0 t.1 t.2 t.3 t.4

module _ (r : ℕ) (ch ch' : List ℕ) (d : ButTopMasks r ch ch') where
  -- the same byte o behind n
  part : (n o : ℕ) → (TopMask r (n + o) → ⊥) → get_or (drop n ch) o 0 ≡ get_or (drop n ch') o 0
  part n o h = get_or-drop n ch o 0 ∙ d (n + o) h ∙ sym (get_or-drop n ch' o 0)

  messages_agree : Agree (message_set ch) (message_set ch')
  messages_agree w j v hw hj hv = d (16 * (8 * w + j) + v) (clear r (16 * (8 * w + j) + v) (λ m i hm hi e. omega arith))

  sets_agree : (l : ℕ) → l ≤ r → Agree (chain_set ch l) (chain_set ch' l)
  sets_agree l hl w j v hw hj hv =
      part (set_length * suc l) (16 * (8 * w + j) + v) (clear r (set_length * suc l + (16 * (8 * w + j) + v)) (λ m i hm hi e. omega arith))

  middles_agree : (l i j v : ℕ) → i < 3 → j < 8 → v < 16 → middle_set r ch l i j v ≡ middle_set r ch' l i j v
  middles_agree l i j v hi hj hv =
      let n = set_length * (r + 2) + round_codings_length * l in
      part n (16 * (8 * i + j) + v) (clear r (n + (16 * (8 * i + j) + v)) (λ m i' hm hi' e.
      let s = same_rest round_codings_length l m (16 * (8 * i + j) + v) (middles_length + 8 * i') (omega arith) (omega arith) (omega arith) in
      omega arith))

  masks_agree : (l i j : ℕ) → i < 3 → j < 7 → mask_at r ch l (8 * i + suc j) ≡ mask_at r ch' l (8 * i + suc j)
  masks_agree l i j hi hj =
      let n = set_length * (r + 2) + round_codings_length * l in
      part n (middles_length + (8 * i + suc j)) (clear r (n + (middles_length + (8 * i + suc j))) (λ m i' hm hi' e. omega arith))

  pub alike : (l : ℕ) → l < r → Alike (round_codings r ch l) (round_codings r ch' l)
  unfolding round_codings
  alike l hl = record {
    before = sets_agree l (omega arith);
    after = sets_agree (suc l) hl;
    middle = middles_agree l;
    ins = into;
    outs = λ i j hi hj.
        let e : suc j % 8 ≡ suc j = omega arith in
        rw e (masks_agree l i j hi hj);
  }
    where
      into : (i j : ℕ) → i < 3 → j < 8 → mask_in r ch l i j ≡ mask_in r ch' l i j
      into i zero hi hj = refl
      into i (suc j) hi hj = masks_agree l i j hi (omega arith)

-- two chains of the same codings whose masks are the same but at half byte 0
module _ (r : ℕ) (U : Set) (S G : ℕ → Set) (M M' : ℕ → ℕ → ℕ) (same : (l k : ℕ) → l < r → k < 24 → (k % 8 ≡ 0 → ⊥) → M l k ≡ M' l k) where
  abbrev made : List ℕ
  made = chain_from r U S G M

  abbrev made' : List ℕ
  made' = chain_from r U S G M'

  pub parts_differ : ButTopMasks r (chain_from r U S G M) (chain_from r U S G M')
  parts_differ k = go (dec_lt k (set_length * (r + 2) + round_codings_length * r))
    where
      mask : (l p : ℕ) → l < r → p < 24 → Dec (p % 8 ≡ 0) → (TopMask r (set_length * (r + 2) + round_codings_length * l + (middles_length + p)) → ⊥)
          → get_or made (set_length * (r + 2) + round_codings_length * l + (middles_length + p)) 0 ≡ get_or made' (set_length * (r + 2) + round_codings_length * l + (middles_length + p)) 0
      mask l p hl hp (yes e) t = absurd (t (l, p / 8, hl, omega arith, omega arith))
      mask l p hl hp (no e) t =
          behind made made' (set_length * (r + 2) + round_codings_length * l) (middles_length + p) (mask_read r U S G M l p hl hp ∙ same l p hl hp e ∙ sym (mask_read r U S G M' l p hl hp))

      go : Dec (k < set_length * (r + 2) + round_codings_length * r) → (TopMask r k → ⊥) → get_or made k 0 ≡ get_or made' k 0
      go (yes l) t =
          every_byte r (λ k. (TopMask r k → ⊥) → get_or made k 0 ≡ get_or made' k 0)
          (λ w j v hw hj hv t. message_read r U S G M w j v hw hj hv ∙ sym (message_read r U S G M' w j v hw hj hv))
          (λ l w j v hl hw hj hv t. behind made made' (set_length * suc l) _ (set_read r U S G M l w j v hl hw hj hv ∙ sym (set_read r U S G M' l w j v hl hw hj hv)))
          (λ l i j v hl hi hj hv t. behind made made' (set_length * (r + 2) + round_codings_length * l) _ (middle_read r U S G M l i j v hl hi hj hv ∙ sym (middle_read r U S G M' l i j v hl hi hj hv)))
          (λ l p hl hp. mask l p hl hp (ℕ_discrete (p % 8) 0)) k l t
      go (no l) t =
          get_or-eq_default made 0 (omega (arith, from_length r U S G M)) ∙ sym (get_or-eq_default made' 0 (omega (arith, from_length r U S G M')))

-- ---- the entries of a round

pub low : {x y : ℕ} → x ≡ y → SameLow x y
low {x} e = subst (λ (v : ℕ). SameLow x v) e refl

-- an entry is made of a carry u under a mask and a coded half byte x
module _ (h h' : ℕ → ℕ) (e : (v : ℕ) → v < 16 → h v ≡ h' v) (u m m' x : ℕ) (hx : x < 16) where
  entry_low : SameLow (16 * bit_xor u m + h x) (16 * bit_xor u m' + h' x)
  entry_low = let d = e x hx in omega arith

  entry_same : m ≡ m' → 16 * bit_xor u m + h x ≡ 16 * bit_xor u m' + h' x
  entry_same d = rw (d, e x hx)

module _ (c c' : RoundCodings) (a : Alike c c') (k : List ℕ) (i j n : ℕ) (hi : i < 3) (hj : j < 8) where
  -- add tables
  abbrev sum_by : RoundCodings → ℕ
  sum_by c = add_sum (c.before i j) (c.before (suc i) j) (half_byte (get_or k (2 * i) 0) j) (half_byte (get_or k (2 * i + 1) 0) j) (c.mask_in i j) n

  sum_same : sum_by c ≡ sum_by c'
  unfolding add_sum
  sum_same =
      rw (
        decode_ext (c.before i j) (c'.before i j) (n / 16 % 16) (λ v l. a.before i j v (omega arith) hj l),
        decode_ext (c.before (suc i) j) (c'.before (suc i) j) (n % 16) (λ v l. a.before (suc i) j v (omega arith) hj l),
        a.ins i j hi hj,
      )

  abbrev add_of : ℕ → ℕ
  add_of s = 16 * bit_xor (s / 16) (c.mask_out i j) + c.middle i j (s % 16)

  pub add_low : SameLow (add_table c k i j n) (add_table c' k i j n)
  unfolding add_table add_entry
  add_low =
      low (ap add_of sum_same)
      ∙ entry_low (c.middle i j) (c'.middle i j) (λ v. a.middle i j v hi hj) (sum_by c' / 16) (c.mask_out i j) (c'.mask_out i j) (sum_by c' % 16) (omega arith)

  pub add_same : j < 7 → add_table c k i j n ≡ add_table c' k i j n
  unfolding add_table add_entry
  add_same h =
      ap add_of sum_same
      ∙ entry_same (c.middle i j) (c'.middle i j) (λ v. a.middle i j v hi hj) (sum_by c' / 16) (c.mask_out i j) (c'.mask_out i j) (sum_by c' % 16) (omega arith)
      (a.outs i j hi h)

  -- subtract tables
  abbrev left_by : RoundCodings → ℕ
  left_by c = difference (c.middle i j) (c.after i j) (half_byte (get_or k (2 * i) 0) j) (c.mask_in i j) n

  left_same : left_by c ≡ left_by c'
  unfolding difference
  left_same =
      rw (
        decode_ext (c.middle i j) (c'.middle i j) (n / 16 % 16) (λ v l. a.middle i j v hi hj l),
        decode_ext (c.after i j) (c'.after i j) (n % 16) (λ v l. a.after i j v (omega arith) hj l),
        a.ins i j hi hj,
      )

  abbrev key : ℕ
  key = half_byte (get_or k (2 * i + 1) 0) j

  keyed_lt : (d : ℕ) → bit_xor (d % 16) key < 16
  keyed_lt d = xor_lt 4 (d % 16) key (omega arith) (half_lt (get_or k (2 * i + 1) 0) j)

  abbrev subtract_of : ℕ → ℕ
  subtract_of d = 16 * bit_xor (1 - d / 16) (c.mask_out i j) + c.after (suc i) j (bit_xor (d % 16) key)

  pub subtract_low : SameLow (subtract_table c k i j n) (subtract_table c' k i j n)
  unfolding subtract_table subtract_entry
  subtract_low =
      low (ap subtract_of left_same)
      ∙ entry_low (c.after (suc i) j) (c'.after (suc i) j) (λ v. a.after (suc i) j v (omega arith) hj) (1 - left_by c' / 16) (c.mask_out i j) (c'.mask_out i j)
      (bit_xor (left_by c' % 16) key) (keyed_lt (left_by c'))

  pub subtract_same : j < 7 → subtract_table c k i j n ≡ subtract_table c' k i j n
  unfolding subtract_table subtract_entry
  subtract_same h =
      ap subtract_of left_same
      ∙ entry_same (c.after (suc i) j) (c'.after (suc i) j) (λ v. a.after (suc i) j v (omega arith) hj) (1 - left_by c' / 16) (c.mask_out i j) (c'.mask_out i j)
      (bit_xor (left_by c' % 16) key) (keyed_lt (left_by c')) (a.outs i j hi h)

-- turn tables, both ways
turned_by : (i : ℕ) (f f' g g' h h' : ℕ → ℕ) (n : ℕ) → ((v : ℕ) → v < 16 → f v ≡ f' v) → ((v : ℕ) → v < 16 → g v ≡ g' v) → ((v : ℕ) → v < 16 → h v ≡ h' v)
    → turn_entry i f g h n ≡ turn_entry i f' g' h' n
unfolding turn_entry
turned_by i f f' g g' h h' n ef eg eh =
    rw (decode_ext f f' (n / 16) ef, decode_ext g g' (n % 16) eg) (eh (turned i (decode f' (n / 16)) (decode g' (n % 16))) (turned_lt i (decode f' (n / 16)) (decode g' (n % 16))))

module _ (c c' : RoundCodings) (a : Alike c c') (i j n : ℕ) (hi : i < 3) (hj : j < 8) where
  pub turn_same : turn_table c i j n ≡ turn_table c' i j n
  unfolding turn_table
  turn_same =
      turned_by i (c.middle i (upper i j)) (c'.middle i (upper i j)) (c.middle i (lower i j)) (c'.middle i (lower i j)) (c.after i j) (c'.after i j) n
      (λ v. a.middle i (upper i j) v hi (upper_lt i j)) (λ v. a.middle i (lower i j) v hi (lower_lt i j hj)) (λ v. a.after i j v (omega arith) hj)

  pub turn_back_same : turn_back_table c i j n ≡ turn_back_table c' i j n
  unfolding turn_back_table
  turn_back_same =
      turn_back_is i (c.before i (upper_back i j)) (c.before i (lower_back i j)) (c.middle i j) n
      ∙ turned_by (cut_of i) (c.before i (upper_back i j)) (c'.before i (upper_back i j)) (c.before i (lower_back i j)) (c'.before i (lower_back i j)) (c.middle i j) (c'.middle i j) n
      (λ v. a.before i (upper_back i j) v (omega arith) (Turns.upper_lt i j hj)) (λ v. a.before i (lower_back i j) v (omega arith) (Turns.lower_lt i j hj)) (λ v. a.middle i j v hi hj)
      ∙ sym (turn_back_is i (c'.before i (upper_back i j)) (c'.before i (lower_back i j)) (c'.middle i j) n)

-- a fold table
fold_entry_lem : (S S' U U' T T' : Set) → Permutations S → Permutations U → Agree S S' → Agree U U' → Agree T T' → (k : List ℕ) (w j n : ℕ) → w < 4 → j < 8 → n < 256
    → fold_table S U T k w j n ≡ fold_table S' U' T' k w j n
unfolding fold_table fold_entry
fold_entry_lem S S' U U' T T' p q eS eU eT k w j n hw hj hn =
    let x = decode (S w j) (n / 16) in
    let y = decode (U w j) (n % 16) in
    let b = xor_lt 4 (bit_xor x y) (block_half k w j)
    (xor_lt 4 x y (decode_lt (S w j) (p w j hw hj) (n / 16) (omega arith)) (decode_lt (U w j) (q w j hw hj) (n % 16) (omega arith))) (block_half_lt k w j) in
    eT w j (bit_xor (bit_xor x y) (block_half k w j)) hw hj b
    ∙ ap₂ (λ (u v : ℕ). T' w j (bit_xor (bit_xor u v) (block_half k w j)))
    (decode_ext (S w j) (S' w j) (n / 16) (λ v l. eS w j v hw hj l)) (decode_ext (U w j) (U' w j) (n % 16) (λ v l. eU w j v hw hj l))

-- ---- the books

-- what is said of each byte: x and y have the same lower four bits, and are the same unless it may be otherwise
abbrev Byte : Type 0 → ℕ → ℕ → Type 0
Byte Top x y = SameLow x y × ((Top → ⊥) → x ≡ y)

byte_same : (Top : Type 0) (x y : ℕ) → x ≡ y → Byte Top x y
byte_same Top x y e = (low e, λ h. e)

byte_top : (Top : Type 0) (x y : ℕ) → Top → SameLow x y → Byte Top x y
byte_top Top x y t e = (e, λ h. absurd (h t))

-- bytes behind the end
all_bytes : (Top : ℕ → Type 0) (bk bk' : List ℕ) → length bk ≡ length bk' → ((k : ℕ) → k < length bk → Byte (Top k) (get_or bk k 0) (get_or bk' k 0)) → ButTops Top bk bk'
all_bytes Top bk bk' e h = record { size = e; others = λ k. (each k (dec_lt k (length bk))).1; low = λ k. (each k (dec_lt k (length bk))).0 }
  where
    each : (k : ℕ) → Dec (k < length bk) → Byte (Top k) (get_or bk k 0) (get_or bk' k 0)
    each k (yes l) = h k l
    each k (no l) =
        byte_same (Top k) (get_or bk k 0) (get_or bk' k 0) (get_or-eq_default bk 0 (omega arith) ∙ sym (get_or-eq_default bk' 0 (omega arith)))

module _ (z : KeySize) (rows : List (List ℕ)) (ch ch' : List ℕ) (v : CodingRule (rounds z) ch) (d : ButTopMasks (rounds z) ch ch') where
  abbrev r : ℕ
  r = rounds z

  last_agree : Agree (chain_set ch r) (chain_set ch' r)
  last_agree = sets_agree r ch ch' d r (le_refl r)

  first_agree : Agree (chain_set ch 0) (chain_set ch' 0)
  first_agree = sets_agree r ch ch' d 0 zero-le

  -- ---- a sealing book
  abbrev bk : List ℕ
  bk = book_of r rows ch

  abbrev bk' : List ℕ
  bk' = book_of r rows ch'

  start_same : start_part r ch ≡ start_part r ch'
  unfolding start_part
  start_same = λ i. coded_agree (chain_set ch r) (chain_set ch' r) last_agree i zeros

  body_bytes : (k : ℕ) → k < rounds_start + round_length * r → Byte (TopEntry (suc k)) (get_or bk k 0) (get_or bk' k 0)
  body_bytes =
      let h = book_made r rows ch in
      let h' = book_made r rows ch' in
      every_offset r (λ k. Byte (TopEntry (suc k)) (get_or bk k 0) (get_or bk' k 0))
      (λ k l. byte_same _ _ _
      (byte_of_start r rows ch bk h k l ∙ ap (λ (s : List ℕ). get_or s k 0) start_same ∙ sym (byte_of_start r rows ch' bk' h' k l)))
      (λ g w j n hg hw hj hn. byte_same _ _ _
      (byte_of_fold r rows ch bk h g w j n hg hw hj hn
      ∙ fold_entry_lem (chain_set ch r) (chain_set ch' r) (message_set ch) (message_set ch') (chain_set ch 0) (chain_set ch' 0) (v.sets r (le_refl r)) v.message
      last_agree (messages_agree r ch ch' d) first_agree (group_key (first_rounds rows r) g) w j n hw hj hn
      ∙ sym (byte_of_fold r rows ch' bk' h' g w j n hg hw hj hn)))
      (λ l i j n hl hi hj hn. add l i j n hl hi hj hn (dec_lt j 7))
      (λ l i j n hl hi hj hn. byte_same _ _ _
      (byte_of_turn r rows ch bk h l i j n hl hi hj hn
      ∙ turn_same (round_codings r ch l) (round_codings r ch' l) (alike r ch ch' d l hl) i j n hi hj
      ∙ sym (byte_of_turn r rows ch' bk' h' l i j n hl hi hj hn)))
    where
      add : (l i j n : ℕ) → l < r → i < 3 → j < 8 → n < 512 → Dec (j < 7)
          → Byte (TopEntry (suc (rounds_start + round_length * l + (512 * (8 * i + j) + n))))
          (get_or bk (rounds_start + round_length * l + (512 * (8 * i + j) + n)) 0) (get_or bk' (rounds_start + round_length * l + (512 * (8 * i + j) + n)) 0)
      add l i j n hl hi hj hn (yes s) =
          byte_same _ _ _
          (byte_of_add r rows ch bk (book_made r rows ch) l i j n hl hi hj hn
          ∙ add_same (round_codings r ch l) (round_codings r ch' l) (alike r ch ch' d l hl) (get_or rows l []) i j n hi hj s
          ∙ sym (byte_of_add r rows ch' bk' (book_made r rows ch') l i j n hl hi hj hn))
      add l i j n hl hi hj hn (no s) =
          byte_top _ _ _ (l, i, n, hi, hn, omega arith)
          (low (byte_of_add r rows ch bk (book_made r rows ch) l i j n hl hi hj hn)
          ∙ add_low (round_codings r ch l) (round_codings r ch' l) (alike r ch ch' d l hl) (get_or rows l []) i j n hi hj
          ∙ sym (low (byte_of_add r rows ch' bk' (book_made r rows ch') l i j n hl hi hj hn)))

  pub books_alike : ButTops TopEntry (whole_book z rows ch) (whole_book z rows ch')
  books_alike =
      all_bytes TopEntry (whole_book z rows ch) (whole_book z rows ch') (ap suc (book_size r rows ch ∙ sym (book_size r rows ch'))) each
    where
      each : (k : ℕ) → k < length (whole_book z rows ch) → Byte (TopEntry k) (get_or (whole_book z rows ch) k 0) (get_or (whole_book z rows ch') k 0)
      each zero l = byte_same _ _ _ refl
      each (suc k) l = body_bytes k (omega (arith, book_size r rows ch))

  -- ---- a reading book
  abbrev rbk : List ℕ
  rbk = reading_book_of r rows ch

  abbrev rbk' : List ℕ
  rbk' = reading_book_of r rows ch'

  pub reading_books_alike : ButTops TopReadingEntry (reading_book_of (rounds z) rows ch) (reading_book_of (rounds z) rows ch')
  reading_books_alike =
      let h = Back.reading_book_made r rows ch in
      let h' = Back.reading_book_made r rows ch' in
      all_bytes TopReadingEntry rbk rbk' (Back.reading_book_size r rows ch ∙ sym (Back.reading_book_size r rows ch')) (λ k b.
      Back.every_offset r (λ k. Byte (TopReadingEntry k) (get_or rbk k 0) (get_or rbk' k 0))
      (λ l i j n hl hi hj hn. byte_same _ _ _
      (Back.byte_of_turn r rows ch rbk h l i j n hl hi hj hn
      ∙ turn_back_same (round_codings r ch l) (round_codings r ch' l) (alike r ch ch' d l hl) i j n hi hj
      ∙ sym (Back.byte_of_turn r rows ch' rbk' h' l i j n hl hi hj hn)))
      (λ l i j n hl hi hj hn. subtract l i j n hl hi hj hn (dec_lt j 7))
      (λ w j n hw hj hn. byte_same _ _ _
      (Back.byte_of_fold r rows ch rbk h w j n hw hj hn
      ∙ fold_entry_lem (chain_set ch r) (chain_set ch' r) (chain_set ch 0) (chain_set ch' 0) (message_set ch) (message_set ch') (v.sets r (le_refl r)) (v.sets 0 zero-le)
      last_agree first_agree (messages_agree r ch ch' d) zeros w j n hw hj hn
      ∙ sym (Back.byte_of_fold r rows ch' rbk' h' w j n hw hj hn)))
      k (omega (arith, Back.reading_book_size r rows ch)))
    where
      subtract : (l i j n : ℕ) → l < r → i < 3 → j < 8 → n < 512 → Dec (j < 7)
          → Byte (TopReadingEntry (round_length * l + (6144 + 512 * (8 * i + j) + n)))
          (get_or rbk (round_length * l + (6144 + 512 * (8 * i + j) + n)) 0) (get_or rbk' (round_length * l + (6144 + 512 * (8 * i + j) + n)) 0)
      subtract l i j n hl hi hj hn (yes s) =
          byte_same _ _ _
          (Back.byte_of_subtract r rows ch rbk (Back.reading_book_made r rows ch) l i j n hl hi hj hn
          ∙ subtract_same (round_codings r ch l) (round_codings r ch' l) (alike r ch ch' d l hl) (row_back r rows l) i j n hi hj s
          ∙ sym (Back.byte_of_subtract r rows ch' rbk' (Back.reading_book_made r rows ch') l i j n hl hi hj hn))
      subtract l i j n hl hi hj hn (no s) =
          byte_top _ _ _ (l, i, n, hi, hn, omega arith)
          (low (Back.byte_of_subtract r rows ch rbk (Back.reading_book_made r rows ch) l i j n hl hi hj hn)
          ∙ subtract_low (round_codings r ch l) (round_codings r ch' l) (alike r ch ch' d l hl) (row_back r rows l) i j n hi hj
          ∙ sym (low (Back.byte_of_subtract r rows ch' rbk' (Back.reading_book_made r rows ch') l i j n hl hi hj hn)))
