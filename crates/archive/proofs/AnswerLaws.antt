-- The answers of the archive, case by case. For each operation the cases exclude each other and leave none out, so each
-- refusal is given exactly under its condition.
use mathlib.Core.Path.{◌≡◌, sym, ap, ◌∙◌}
use mathlib.Core.Bool.{Bool, true, false, cond, not}
use mathlib.Core.List.{List, [], ◌++◌}
use Prim.Native.Nat.{ℕ, ◌≤◌, ◌<◌}
use borrow.Author.Tests.{lt-ltb, le-ltb}
use lib.Dec.{ltb}
use lib.ListN.{length, drop}
use Rattle.std.specs.Prelude.{Some, None, Err}
use Rattle.lists.specs.Refusals.{first}
use Rattle.lists.proofs.RefusalLaws.{first_hit, first_pass}
use Rattle.lists.specs.Blocks.{Bytes}
use Rattle.cipher.specs.KeySize.{rounds, size_of_key}
use Rattle.cipher.specs.Refusal.{number_of}
use Rattle.cipher.specs.Lea.{first_rounds, encipher, decipher}
use Rattle.cipher.specs.Schedules.{schedule_found, Named, key_read, key_rows}
use Rattle.cipher.specs.Cmac.{cmac}
use Rattle.cipher.specs.Coding.{Permutations, set_of, coded, decoded}
use Rattle.cipher.specs.Chain.{LoneSet, set_tests}
use Rattle.cipher.specs.Lengths.{set_length}
use Rattle.cipher.specs.Answers.{block_tests, bad_text, text_tests, room_tests, set_checked}
use Rattle.cipher.specs.declared.size.KeySize.{KeySize}
use Rattle.cipher.specs.declared.schedules.Schedule.{Schedule}
use Rattle.cipher.specs.declared.refusal.Refusal.{Refusal}
use Rattle.cipher.proofs.AnswerLaws.{schedule_refused, key_refused, kind_refused, key_taken, block_refused, block_taken_lem, text_refused, text_taken, number_more}
use Rattle.cipher.proofs.ChainRefusals.{set_length_refused, set_coding_refused, set_taken}
use Rattle.cipher.proofs.CheckLaws.{told_refused}
use Rattle.archive.proofs.MacLaws.{block_cmac}
use Rattle.archive.proofs.CheckLaws.{same_coded}
use Rattle.archive.specs.Archive.{opened_text, ends_padded, padding_tests, unpadded, text_answer, open_answer, same_block, message_tests, check_answer}

-- ---- checking

module _ (s : ℕ) (key set message tag : List ℕ) where
  verdict : Schedule → KeySize → ℕ × ℕ
  verdict k z = (0, cond (same_block (decoded (set_of set) tag) (cmac (encipher k z key) message)) 1 0)

  rest : List (Bool × ℕ)
  rest = block_tests tag ++ message_tests message

  pub check_34 : schedule_found s ≡ None → check_answer s key set message tag ≡ (34, 0)
  unfolding check_answer verdict rest
  check_34 e = schedule_refused s key (λ k z. set_tests set ++ rest) (λ q. (q, 0)) verdict e

  pub check_1 : (k : Schedule) → schedule_found s ≡ Some k → size_of_key (length key) ≡ None → check_answer s key set message tag ≡ (1, 0)
  unfolding check_answer verdict rest
  check_1 k n e = key_refused s key (λ k z. set_tests set ++ rest) (λ q. (q, 0)) verdict k n e

  -- both, as what is told of number and key tells them
  pub check_kind : (q : Refusal) → Err q ≡ key_read s key → check_answer s key set message tag ≡ (number_of q, 0)
  unfolding check_answer verdict rest
  check_kind q e = kind_refused s key (λ k z. set_tests set ++ rest) (λ q. (q, 0)) verdict q e

  module _ (k : Schedule) (z : KeySize) (e : Named s key k z) where
    keyed : check_answer s key set message tag ≡ first (set_tests set ++ rest) (λ q. (q, 0)) (verdict k z)
    unfolding check_answer verdict rest
    keyed = key_taken s key (λ k z. set_tests set ++ rest) (λ q. (q, 0)) verdict k z e

    pub check_2 : (length set ≡ set_length → ⊥) → check_answer s key set message tag ≡ (2, 0)
    check_2 h = keyed ∙ set_length_refused rest (λ q. (q, 0)) (verdict k z) set h

    pub check_3 : length set ≡ set_length → (Permutations (set_of set) → ⊥) → check_answer s key set message tag ≡ (3, 0)
    check_3 h p = keyed ∙ set_coding_refused rest (λ q. (q, 0)) (verdict k z) set h p

    -- both, as the check of the set tells them
    pub check_set : (q : Refusal) → number_of q ≡ set_checked set → check_answer s key set message tag ≡ (number_of q, 0)
    check_set q e = keyed ∙ told_refused rest (λ q. (q, 0)) (verdict k z) (set_tests set) (number_of q) (number_more q) (sym e)

    module _ (v : LoneSet set) where
      set_fine : check_answer s key set message tag ≡ first rest (λ q. (q, 0)) (verdict k z)
      set_fine = keyed ∙ set_taken rest (λ q. (q, 0)) (verdict k z) set v

      pub check_7 : (length tag ≡ 16 → ⊥) → check_answer s key set message tag ≡ (7, 0)
      unfolding rest
      check_7 h = set_fine ∙ block_refused tag (message_tests message) (λ q. (q, 0)) (verdict k z) h

      module _ (l : length tag ≡ 16) where
        tag_fine : check_answer s key set message tag ≡ first (message_tests message) (λ q. (q, 0)) (verdict k z)
        unfolding rest
        tag_fine = set_fine ∙ block_taken_lem tag (message_tests message) (λ q. (q, 0)) (verdict k z) l

        pub check_8 : 1048575 < length message → check_answer s key set message tag ≡ (8, 0)
        check_8 h = tag_fine ∙ first_hit (ltb 1048575 (length message)) 8 [] (λ q. (q, 0)) (verdict k z) (lt-ltb 1048575 (length message) h)

        pub check_done : length message ≤ 1048575
            → check_answer s key set message tag ≡ (0, cond (same_block (decoded (set_of set) tag) (cmac (encipher k z key) message)) 1 0)
        unfolding verdict first
        check_done h = tag_fine ∙ first_pass (ltb 1048575 (length message)) 8 [] (λ q. (q, 0)) (verdict k z) (le-ltb 1048575 (length message) h)

        -- as the code finds it: the message's tag is coded and compared
        pub check_verdict : length message ≤ 1048575 → (rows : List (List ℕ)) (size : KeySize) (mac x : List ℕ) (t : Bool) → rows ≡ key_rows k z key → size ≡ z
            → mac ≡ cmac (first_rounds rows (rounds size)) message → x ≡ coded (set_of set) mac → Bytes tag → same_block x tag ≡ t
            → check_answer s key set message tag ≡ (0, cond t 1 0)
        check_verdict h rows size mac x t er ez em ex ht es =
            let M = cmac (encipher k z key) message in
            let e : mac ≡ M = em ∙ (λ i. cmac (first_rounds (er i) (rounds (ez i))) message) in
            let w = same_coded (set_of set) v.codings tag M (record { size = l; bytes = ht }) (block_cmac (key_rows k z key) (rounds z) message) in
            check_done h
            ∙ ap (λ (b : Bool). (0, cond b 1 0))
            (sym w ∙ sym (ap (λ (y : List ℕ). same_block y tag) (ex ∙ ap (coded (set_of set)) e)) ∙ es)

-- ---- opening

module _ (s : ℕ) (key set iv sealed out : List ℕ) where
  text : Schedule → KeySize → List ℕ
  text k z = opened_text (decipher k z key) (set_of set) iv sealed

  opened : List ℕ → (ℕ × ℕ) × List ℕ
  opened t = ((0, length (unpadded t)), unpadded t ++ drop (length (unpadded t)) out)

  left : ℕ → (ℕ × ℕ) × List ℕ
  left q = ((q, 0), out)

  after : List ℕ → List (Bool × ℕ)
  after t = block_tests iv ++ (text_tests sealed ++ (room_tests (length sealed) out ++ padding_tests t))

  -- what the tests on the key leave, and what is done after them
  others : Schedule → KeySize → List (Bool × ℕ)
  others k z = set_tests set ++ after (text k z)

  go : Schedule → KeySize → (ℕ × ℕ) × List ℕ
  go k z = opened (text k z)

  pub open_34 : schedule_found s ≡ None → open_answer s key set iv sealed out ≡ ((34, 0), out)
  unfolding open_answer left opened text after set_tests others go
  open_34 e = schedule_refused s key others left go e

  pub open_1 : (k : Schedule) → schedule_found s ≡ Some k → size_of_key (length key) ≡ None → open_answer s key set iv sealed out ≡ ((1, 0), out)
  unfolding open_answer left opened text after set_tests others go
  open_1 k n e = key_refused s key others left go k n e

  pub open_kind : (q : Refusal) → Err q ≡ key_read s key → open_answer s key set iv sealed out ≡ ((number_of q, 0), out)
  unfolding open_answer left opened text after set_tests others go
  open_kind q e = kind_refused s key others left go q e

  module _ (k : Schedule) (z : KeySize) (e : Named s key k z) where
    open-keyed : open_answer s key set iv sealed out ≡ first (set_tests set ++ after (text k z)) left (opened (text k z))
    unfolding open_answer left opened text after set_tests others go
    open-keyed = key_taken s key others left go k z e

    pub open_2 : (length set ≡ set_length → ⊥) → open_answer s key set iv sealed out ≡ ((2, 0), out)
    unfolding left
    open_2 h = open-keyed ∙ set_length_refused (after (text k z)) left (opened (text k z)) set h

    pub open_3 : length set ≡ set_length → (Permutations (set_of set) → ⊥) → open_answer s key set iv sealed out ≡ ((3, 0), out)
    unfolding left
    open_3 h p = open-keyed ∙ set_coding_refused (after (text k z)) left (opened (text k z)) set h p

    pub open_set : (q : Refusal) → number_of q ≡ set_checked set → open_answer s key set iv sealed out ≡ ((number_of q, 0), out)
    unfolding left
    open_set q e = open-keyed ∙ told_refused (after (text k z)) left (opened (text k z)) (set_tests set) (number_of q) (number_more q) (sym e)

    module _ (v : LoneSet set) where
      open-fine : open_answer s key set iv sealed out ≡ first (after (text k z)) left (opened (text k z))
      open-fine = open-keyed ∙ set_taken (after (text k z)) left (opened (text k z)) set v

      pub open_7 : (length iv ≡ 16 → ⊥) → open_answer s key set iv sealed out ≡ ((7, 0), out)
      unfolding after left
      open_7 h = open-fine ∙ block_refused iv (text_tests sealed ++ (room_tests (length sealed) out ++ padding_tests (text k z))) left (opened (text k z)) h

      module _ (l : length iv ≡ 16) where
        open-begun : open_answer s key set iv sealed out ≡ first (text_tests sealed ++ (room_tests (length sealed) out ++ padding_tests (text k z))) left (opened (text k z))
        unfolding after
        open-begun = open-fine ∙ block_taken_lem iv (text_tests sealed ++ (room_tests (length sealed) out ++ padding_tests (text k z))) left (opened (text k z)) l

        pub open_8 : bad_text (length sealed) ≡ true → open_answer s key set iv sealed out ≡ ((8, 0), out)
        unfolding left
        open_8 h = open-begun ∙ text_refused sealed (room_tests (length sealed) out ++ padding_tests (text k z)) left (opened (text k z)) h

        module _ (d : bad_text (length sealed) ≡ false) where
          open-read : open_answer s key set iv sealed out ≡ first (room_tests (length sealed) out ++ padding_tests (text k z)) left (opened (text k z))
          open-read = open-begun ∙ text_taken sealed (room_tests (length sealed) out ++ padding_tests (text k z)) left (opened (text k z)) d

          pub open_9 : length out < length sealed → open_answer s key set iv sealed out ≡ ((9, 0), out)
          unfolding left
          open_9 h = open-read ∙ first_hit (ltb (length out) (length sealed)) 9 (padding_tests (text k z)) left (opened (text k z)) (lt-ltb (length out) (length sealed) h)

          module _ (w : length sealed ≤ length out) where
            open-roomy : open_answer s key set iv sealed out ≡ first (padding_tests (text k z)) left (opened (text k z))
            open-roomy = open-read ∙ first_pass (ltb (length out) (length sealed)) 9 (padding_tests (text k z)) left (opened (text k z)) (le-ltb (length out) (length sealed) w)

            -- both answers, as what is told of the text tells them
            pub open_told : open_answer s key set iv sealed out ≡ text_answer (opened_text (decipher k z key) (set_of set) iv sealed) out
            unfolding text left opened text_answer
            open_told = open-roomy

            pub open_11 : ends_padded (opened_text (decipher k z key) (set_of set) iv sealed) ≡ false → open_answer s key set iv sealed out ≡ ((11, 0), out)
            unfolding text left
            open_11 h = open-roomy ∙ first_hit (not (ends_padded (text k z))) 11 [] left (opened (text k z)) (ap not h)

            pub open_done : ends_padded (opened_text (decipher k z key) (set_of set) iv sealed) ≡ true
                → open_answer s key set iv sealed out
                ≡ (
                  (0, length (unpadded (opened_text (decipher k z key) (set_of set) iv sealed))),
                  unpadded (opened_text (decipher k z key) (set_of set) iv sealed)
                      ++ drop (length (unpadded (opened_text (decipher k z key) (set_of set) iv sealed))) out,
                )
            unfolding text opened first
            open_done h = open-roomy ∙ first_pass (not (ends_padded (text k z))) 11 [] left (opened (text k z)) (ap not h)
