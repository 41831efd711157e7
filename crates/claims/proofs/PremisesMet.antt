-- The premises of demand 3's theorems can be met: for each key size the identity chain is valid, and so is a chain of which no coding is
-- the identity; with either, by either schedule, and every key of that size a book is built. And so can those of the review screen's (document 02, 2026-01),
-- by a reading chain of which no coding is the identity, and of the masks at half byte 0 (2026-06), by chains that differ there and
-- nowhere else. So none of the theorems is empty.
use mathlib.Core.Path.{◌≡◌, refl, sym, ap, ◌∙◌}
use mathlib.Core.Bool.{Bool, true, false, cond}
use mathlib.Core.List.{List, ◌++◌}
use Prim.Native.Nat.{ℕ, suc, ◌+◌, ◌*◌, ◌/◌, ◌%◌, ◌≤◌, ◌<◌, zero-le}
use native.Mathlib.Nat.{le_refl}
use native.Mathlib.Omega.{arith}
use borrow.Author.Tests.{ne_eqb}
use lib.Dec.{eqb, lit<}
use lib.ListN.{length, drop, length-drop}
use lib.Seq.{ext_get_or, get_or-take, length-take-le}
use Rattle.lists.specs.Blocks.{Bytes, block_length}
use Rattle.cipher.specs.KeySize.{rounds, book_length}
use Rattle.cipher.specs.Schedules.{Named, key_rows}
use Rattle.cipher.specs.Coding.{Permutation}
use Rattle.cipher.specs.Chain.{message_set, chain_set, middle_set, mask_at, ChainBy, Chain}
use Rattle.cipher.specs.Book.{whole_book}
use Rattle.cipher.specs.Lengths.{set_length, longest_message}
use Rattle.cipher.specs.Answers.{key_size}
use Rattle.cipher.proofs.KeySizeLaws.{rounds_fours}
use Rattle.reading.specs.Chain.{ReadingChain}
use Rattle.reading.specs.Book.{reading_book_of, reading_book_length}
use Rattle.cipher.specs.declared.size.KeySize.{KeySize}
use Rattle.cipher.specs.declared.schedules.Schedule.{Schedule}
use Rattle.cipher.proofs.ChainPartLaws.{message_read, set_read, middle_read, mask_read, from_valid}
use Rattle.claims.specs.Identity.{identity_chain, shift, shift_at, all_set, tops_unset, shifting_chain, shifted_chain, shifted_reading_chain}
use Rattle.claims.specs.Built.{Built, book_in, archive_set}
use Rattle.claims.specs.TopMasks.{ButTopMasks}
use Rattle.claims.specs.Review.{ReadingBuilt, reading_book_in, first_set, Reviewed}
use Rattle.claims.proofs.BuiltLaws.{any_built, any_reading_built}
use Rattle.claims.proofs.ReviewTheorem.{reviews}
use Rattle.claims.proofs.TopEntries.{parts_differ}

-- ---- the chains are valid

identity_permutes : Permutation (λ v. v)
identity_permutes = record { low = λ i l. l; once = λ i k l m e. e }

pub identity_valid : (z : KeySize) → Chain z (identity_chain z)
unfolding identity_chain
identity_valid z =
    from_valid 0 3 (lit< tt) (lit< tt) z _ _ _ _
    (record {
      message = λ w j hw hj. identity_permutes;
      sets = λ l hl w j hw hj. identity_permutes;
      middles = λ l i j hl hi hj. identity_permutes;
      words = λ l hl j v hj hv. refl;
      bits = λ l k hl hk. lit< tt;
    })

shifted_permutes : (k : ℕ) → Permutation (shift k)
shifted_permutes k = record { low = λ i l. omega arith; once = λ i m l n e. omega arith }

-- the chains that shift, with masks that are bits and the word rule that they keep
shifting_valid : (m : ℕ → ℕ) → ((k : ℕ) → m k < 2) → (c from to : ℕ) → from < 4 → to < 4 → ((l j : ℕ) → shift_at c (suc l) to j ≡ shift_at c l from j) → (z : KeySize)
    → ChainBy from to z (shifting_chain m c z)
unfolding shifting_chain
shifting_valid m bits c from to hf ht same z =
    from_valid from to hf ht z _ _ _ _
    (record {
      message = λ w j hw hj. shifted_permutes (shift_at c 0 w j);
      sets = λ l hl w j hw hj. shifted_permutes (shift_at c l w j);
      middles = λ l i j hl hi hj. shifted_permutes (shift_at c l i j);
      words = λ l hl j v hj hv. ap (λ (k : ℕ). shift k v) (same l j);
      bits = λ l k hl hk. bits k;
    })

module _ (m : ℕ → ℕ) (bits : (k : ℕ) → m k < 2) (z : KeySize) where
  sealing_valid : Chain z (shifting_chain m 1 z)
  sealing_valid = shifting_valid m bits 1 0 3 (lit< tt) (lit< tt) (λ l j. omega arith) z

  reading_valid : ReadingChain z (shifting_chain m 3 z)
  reading_valid = shifting_valid m bits 3 3 0 (lit< tt) (lit< tt) (λ l j. omega arith) z

pub shifted_valid : (z : KeySize) → Chain z (shifted_chain z)
shifted_valid = sealing_valid all_set (λ k. lit< tt)

pub shifted_reading_valid : (z : KeySize) → ReadingChain z (shifted_reading_chain z)
shifted_reading_valid = reading_valid all_set (λ k. lit< tt)

-- set 0 of the reading chain is set r of the other, since the rounds are a multiple of four
pub sets_meet : (key : List ℕ) → first_set (shifted_reading_chain (key_size key)) ≡ archive_set key (shifted_chain (key_size key))
unfolding shifting_chain
sets_meet key =
    ext_get_or 0 (first_set rch) (archive_set key ch) (sym same) (λ k b.
    let m : k < set_length = rw long at b in
    let e : 16 * (8 * (k / 128) + k / 16 % 8) + k % 16 ≡ k = omega arith in
    let f = byte (k / 128) (k / 16 % 8) (k % 16) (omega arith) (omega arith) (omega arith) in
    get_or-take set_length (drop set_length rch) k 0 m ∙ (rw e at f) ∙ sym (get_or-take set_length (drop (set_length * suc r) ch) k 0 m))
  where
    r : ℕ
    r = rounds (key_size key)

    ch : List ℕ
    ch = shifted_chain (key_size key)

    rch : List ℕ
    rch = shifted_reading_chain (key_size key)

    long : length (first_set rch) ≡ set_length
    long = length-take-le set_length (drop set_length rch) (rw length-drop (omega (arith, (shifted_reading_valid (key_size key)).size)))

    same : length (archive_set key ch) ≡ length (first_set rch)
    same = length-take-le set_length (drop (set_length * suc r) ch) (rw length-drop (omega (arith, (shifted_valid (key_size key)).size))) ∙ sym long

    byte : (w j v : ℕ) → w < 4 → j < 8 → v < 16 → chain_set rch 0 w j v ≡ chain_set ch r w j v
    byte w j v hw hj hv =
        set_read r _ _ _ _ 0 w j v zero-le hw hj hv
        ∙ ap (λ (k : ℕ). shift (k + j) v) (omega (arith, rounds_fours (key_size key)))
        ∙ sym (set_read r _ _ _ _ r w j v (le_refl r) hw hj hv)

-- ---- no coding of a chain that shifts is the identity: none sends 0 to 0; and its masks are those that it was given

module _ (m : ℕ → ℕ) (c : ℕ) (z : KeySize) where
  abbrev r : ℕ
  r = rounds z

  moves : (x k : ℕ) → x ≡ shift k 0 → k < 15 → x ≡ 0 → ⊥
  moves x k e h d = omega arith

  near : (n j : ℕ) → j < 8 → n % 4 + j < 15
  near n j h = omega arith

  pub message_moves : (w j : ℕ) → w < 4 → j < 8 → message_set (shifting_chain m c z) w j 0 ≡ 0 → ⊥
  unfolding shifting_chain
  message_moves w j hw hj = moves _ (shift_at c 0 w j) (message_read r _ _ _ _ w j 0 hw hj (lit< tt)) (near (c * 0 + w) j hj)

  pub set_moves : (l w j : ℕ) → l ≤ r → w < 4 → j < 8 → chain_set (shifting_chain m c z) l w j 0 ≡ 0 → ⊥
  unfolding shifting_chain
  set_moves l w j hl hw hj = moves _ (shift_at c l w j) (set_read r _ _ _ _ l w j 0 hl hw hj (lit< tt)) (near (c * l + w) j hj)

  pub middle_moves : (l i j : ℕ) → l < r → i < 3 → j < 8 → middle_set r (shifting_chain m c z) l i j 0 ≡ 0 → ⊥
  unfolding shifting_chain
  middle_moves l i j hl hi hj = moves _ (shift_at c l i j) (middle_read r _ _ _ _ l i j 0 hl hi hj (lit< tt)) (near (c * l + i) j hj)

  pub mask_given : (l k : ℕ) → l < r → k < 24 → mask_at r (shifting_chain m c z) l k ≡ m k
  unfolding shifting_chain
  mask_given l k hl hk = mask_read r _ _ _ _ l k hl hk

-- ---- two of them that differ in masks at half byte 0 alone, both valid

unset_bit : (k : ℕ) → tops_unset k < 2
unset_bit k = go (eqb (k % 8) 0)
  where
    go : (b : Bool) → cond b 0 1 < 2
    go true = lit< tt
    go false = lit< tt

pub unset_valid : (z : KeySize) → Chain z (shifting_chain tops_unset 1 z)
unset_valid = sealing_valid tops_unset unset_bit

pub unset_reading_valid : (z : KeySize) → ReadingChain z (shifting_chain tops_unset 3 z)
unset_reading_valid = reading_valid tops_unset unset_bit

pub tops_differ : (c : ℕ) (z : KeySize) → ButTopMasks (rounds z) (shifting_chain all_set c z) (shifting_chain tops_unset c z)
unfolding shifting_chain
tops_differ c z = parts_differ (rounds z) _ _ _ _ _ (λ l k hl hk h. sym (ap (λ (b : Bool). cond b 0 1) (ne_eqb (k % 8) 0 h)))

-- ---- with the identity chain and with the one that shifts a book is built, into every buffer that has room for it

module _ (schedule : ℕ) (k : Schedule) (z : KeySize) (key : List ℕ) (e : Named schedule key k z) (out : List ℕ) (h : book_length z ≤ length out) where
  pub met : Built schedule key (identity_chain z) out (whole_book z (key_rows k z key) (identity_chain z) ++ drop (book_length z) out)
  met = any_built schedule k z key (identity_chain z) out e (identity_valid z) h

  pub met_shifted : Built schedule key (shifted_chain z) out (whole_book z (key_rows k z key) (shifted_chain z) ++ drop (book_length z) out)
  met_shifted = any_built schedule k z key (shifted_chain z) out e (shifted_valid z) h

-- ---- and beside the second a reading book: a message's file is read there

module _ (schedule : ℕ) (k : Schedule) (key : List ℕ) (e : Named schedule key k (key_size key)) (out rout : List ℕ) (room : book_length (key_size key) ≤ length out)
    (rroom : reading_book_length (key_size key) ≤ length rout) where
  abbrev z : KeySize
  z = key_size key

  abbrev filled : List ℕ
  filled = whole_book z (key_rows k z key) (shifted_chain z) ++ drop (book_length z) out

  abbrev filled_to_read : List ℕ
  filled_to_read = reading_book_of (rounds z) (key_rows k z key) (shifted_reading_chain z) ++ drop (reading_book_length z) rout

  pub met_reading : ReadingBuilt schedule key (shifted_reading_chain (key_size key)) rout filled_to_read
  met_reading = any_reading_built schedule k z key (shifted_reading_chain z) rout e (shifted_reading_valid z) rroom

  pub met_review : Bytes key → (m iv : List ℕ) → Bytes m → length m ≤ longest_message → length iv ≡ block_length
      → Reviewed key (shifted_chain (key_size key)) (shifted_reading_chain (key_size key)) (book_in key filled) (reading_book_in key filled_to_read) iv m
  met_review hk m iv hm most li =
      reviews schedule key (shifted_chain z) out filled (shifted_reading_chain z) rout filled_to_read (met_shifted schedule k z key e out room) met_reading (sets_meet key) hk m iv hm most li
