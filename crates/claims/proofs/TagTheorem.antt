-- Demand 3's tag (document 01, demand 3 and "The model session of demand 3"): for every message and every list of calls of which
-- the message's coded blocks and kind, in order, are what the driver accepts, there is exactly one tag among the answers; checking
-- says Valid to it and Invalid to every other 16 bytes. And the plain list of the message's calls is one such list.
use mathlib.Core.Path.{◌≡◌, refl, sym, ap, ◌∙◌}
use mathlib.Core.Bool.{Bool, true, false, cond}
use mathlib.Core.List.{List, map, flatten}
use Prim.Native.Nat.{ℕ, ◌≤◌}
use lib.ListN.{length}
use Rattle.lists.specs.Blocks.{Bytes, Block, blocks}
use Rattle.cipher.specs.Schedules.{key_rows}
use Rattle.cipher.specs.Lea.{encipher}
use Rattle.cipher.specs.Cmac.{cmac}
use Rattle.cipher.specs.Coding.{Set, Permutations, set_of, coded, decoded}
use Rattle.cipher.specs.Chain.{message_set, chain_set, Chain}
use Rattle.cipher.specs.Answers.{schedule_of, key_size}
use Rattle.cipher.proofs.CodingLaws.{block_coded, block_decoded, decoded_coded, coded_decoded}
use Rattle.pad.specs.Padding.{padded_for_tag, kind_of, coded_text}
use Rattle.archive.specs.Archive.{same_block, check_answer}
use Rattle.archive.proofs.CheckLaws.{same_true, true_same}
use Rattle.archive.proofs.MacLaws.{block_cmac}
use Rattle.archive.proofs.AnswerLaws.{check_done}
use Rattle.claims.specs.Model.{Call, begun}
use Rattle.claims.specs.Calls.{driver_answers, model_answers, calls_of, message_calls, accepted_calls, tags_of}
use Rattle.claims.specs.Built.{Built, book_in, key_rounds, pad_set, archive_set}
use Rattle.claims.specs.Tags.{OneTag}
use Rattle.claims.proofs.BuiltLaws.{built_named, built_chain}
use Rattle.claims.proofs.LoneSets.{archive_set_lem, pad_coded, archive_decoded}
use Rattle.claims.proofs.RefusedCalls.{model_tags}
use Rattle.claims.proofs.MessageCalls.{message_tag, message_taken}
use Rattle.claims.proofs.BookPasses.{last_permutes}
use Rattle.claims.proofs.SessionTheorem.{session_built}

module _ (schedule : ℕ) (key ch out held : List ℕ) (built : Built schedule key ch out held) (m : List ℕ) (hm : Bytes m) (most : length m ≤ 1048575) where
  abbrev E : List ℕ → List ℕ
  E = encipher (schedule_of schedule) (key_size key) key

  abbrev S : Set
  S = chain_set ch (key_rounds key)

  abbrev book : List ℕ
  book = book_in key held

  abbrev calls : List Call
  calls = message_calls (set_of (pad_set ch)) m

  valid_chain : Chain (key_size key) ch
  valid_chain = built_chain schedule key ch out held built

  -- ---- the message's calls

  same_calls : calls ≡ message_calls (message_set ch) m
  unfolding message_calls coded_text
  same_calls = ap (λ (c : List ℕ → List ℕ). calls_of (kind_of (length m)) (blocks (flatten (map c (blocks (padded_for_tag m)))))) (pad_coded key ch valid_chain)

  -- nothing of the plain list is refused
  pub calls_accepted : accepted_calls (message_calls (set_of (pad_set ch)) m) (driver_answers (book_in key held) (message_calls (set_of (pad_set ch)) m)) ≡ message_calls (set_of (pad_set ch)) m
  calls_accepted =
      ap (λ (cs : List Call). accepted_calls cs (driver_answers book cs)) same_calls
      ∙ ap (accepted_calls (message_calls (message_set ch) m)) (session_built schedule key ch out held built (message_calls (message_set ch) m))
      ∙ message_taken E (message_set ch) S valid_chain.codings.message m hm most
      ∙ sym same_calls

  -- ---- checking

  permutes : Permutations (chain_set ch (key_rounds key))
  permutes = last_permutes (key_size key) ch valid_chain

  block_mac : Block (cmac (encipher (schedule_of schedule) (key_size key) key) m)
  block_mac = block_cmac (key_rows (schedule_of schedule) (key_size key) key) (key_rounds key) m

  verdict : (t : List ℕ) → length t ≡ 16 → check_answer schedule key (archive_set key ch) m t ≡ (0, cond (same_block (decoded S t) (cmac E m)) 1 0)
  verdict t l =
      check_done schedule key (archive_set key ch) m t (schedule_of schedule) (key_size key) (built_named schedule key ch out held built) (archive_set_lem key ch valid_chain) l most
      ∙ ap (λ (d : List ℕ → List ℕ). (0, cond (same_block (d t) (cmac E m)) 1 0)) (archive_decoded key ch valid_chain)

  check_valid : check_answer schedule key (archive_set key ch) m (coded S (cmac E m)) ≡ (0, 1)
  check_valid =
      verdict (coded S (cmac E m)) (block_coded S permutes (cmac E m)).size
      ∙ ap (λ (b : Bool). (0, cond b 1 0)) (true_same (decoded S (coded S (cmac E m))) (cmac E m) (decoded_coded S permutes (cmac E m) block_mac))

  check_others : (t : List ℕ) → Block t → (t ≡ coded S (cmac E m) → ⊥) → check_answer schedule key (archive_set key ch) m t ≡ (0, 0)
  check_others t h d = verdict t h.size ∙ ap (λ (b : Bool). (0, cond b 1 0)) (go (same_block (decoded S t) (cmac E m)) refl)
    where
      go : (b : Bool) → same_block (decoded S t) (cmac E m) ≡ b → b ≡ false
      go false e = refl
      go true e =
          absurd (d (sym (coded_decoded S permutes t h)
          ∙ ap (coded S) (same_true (decoded S t) (cmac E m) (block_decoded S permutes t).size block_mac.size e)))

  -- ---- the theorem

  pub tag_built : (cs : List Call) → accepted_calls cs (driver_answers (book_in key held) cs) ≡ message_calls (set_of (pad_set ch)) m
      → OneTag schedule key (archive_set key ch) m (driver_answers (book_in key held) cs)
  tag_built cs e =
      let s = session_built schedule key ch out held built cs in
      record {
        the_tag = coded S (cmac E m);
        one = ap tags_of s ∙ sym (only cs) ∙ ap (λ (l : List Call). tags_of (model_answers E (message_set ch) S l)) (ap (accepted_calls cs) (sym s) ∙ e ∙ same_calls)
            ∙ message_tag E (message_set ch) S valid_chain.codings.message m hm most;
        valid = check_valid;
        others = check_others;
      }
    where
      only : (cs : List Call) → tags_of (model_answers E (message_set ch) S (accepted_calls cs (model_answers E (message_set ch) S cs))) ≡ tags_of (model_answers E (message_set ch) S cs)
      only cs = unfold model_answers in model_tags E (message_set ch) S cs begun
