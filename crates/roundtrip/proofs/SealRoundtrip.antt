-- The round trip of a sealed file, on a book that was built: coding, sealing and opening refuse what their tests say, and else the message
-- is back (`SealTheorem`).
use mathlib.Core.Path.{◌≡◌, refl, sym, ap, ◌∙◌}
use mathlib.Core.List.{List, ◌++◌}
use Prim.Native.Nat.{ℕ, ◌+◌, ◌/◌, ◌≤◌, ◌<◌}
use native.Mathlib.Decide.{dec_lt, ℕ_discrete}
use native.Mathlib.Omega.{arith}
use borrow.Author.Tests.{lt-ltb, le-ltb}
use lib.Dec.{ltb}
use lib.ListN.{length, drop}
use lib.Seq.{take_at}
use Rattle.lists.specs.Blocks.{Bytes}
use Rattle.lists.specs.Refusals.{first}
use Rattle.lists.proofs.RefusalLaws.{first_hit, first_pass}
use Rattle.cipher.specs.Coding.{set_of}
use Rattle.cipher.specs.Chain.{Chain}
use Rattle.cipher.specs.Answers.{key_size, room_tests}
use Rattle.cipher.proofs.AnswerLaws.{block_refused, block_taken_lem, room_refused, room_taken}
use Rattle.pad.specs.Padding.{padded_for_sealing}
use Rattle.pad.specs.Answers.{sealing_answer}
use Rattle.pad.proofs.PadLaws.{sealing_blocks}
use Rattle.pad.proofs.TextLaws.{length_coded}
use Rattle.pad.proofs.AnswerLaws.{sealing_long, sealing_short, sealing_coded}
use Rattle.driver.specs.Driver.{seal_answer}
use Rattle.driver.proofs.AnswerLaws.{seal_7}
use Rattle.archive.specs.Archive.{open_answer}
use Rattle.claims.specs.Built.{Built, book_in, pad_set, archive_set}
use Rattle.claims.specs.Sealing.{code_of, file_of, SealedWay}
use Rattle.claims.proofs.BuiltLaws.{built_chain, built_is, built_found}
use Rattle.claims.proofs.LoneSets.{pad_set_lem}
use Rattle.claims.proofs.SealTheorem.{file_length, seal_built}
use Rattle.roundtrip.specs.Roundtrips.{key_book, over, code_call_tests, seal_call_tests}
use Rattle.roundtrip.specs.Steps.{next, written, sealed_opened, coded_opened}

module _ (schedule : ℕ) (key ch bk held : List ℕ) (built : Built schedule key ch bk held) (hk : Bytes key) (iv m co se out : List ℕ) (hm : Bytes m) where
  abbrev u : List ℕ
  u = pad_set ch

  abbrev s : List ℕ
  s = archive_set key ch

  abbrev book : List ℕ
  book = book_in key held

  abbrev code : List ℕ
  code = code_of (pad_set ch) m

  abbrev file : List ℕ
  file = file_of (pad_set ch) (book_in key held) iv m

  abbrev size : ℕ
  size = length (padded_for_sealing m)

  valid : Chain (key_size key) ch
  valid = built_chain schedule key ch bk held built

  code_length : length (code_of (pad_set ch) m) ≡ length (padded_for_sealing m)
  code_length = length_coded (set_of u) (pad_set_lem key ch valid).codings (padded_for_sealing m) (length m / 16 + 1) (sealing_blocks m)

  -- what w makes of the answers of opening, of sealing and what is after it, and of coding and what is after it; b is the book
  module _ {B : Type 0} (w : (ℕ × ℕ) × List ℕ → B) where
    abbrev opened : B
    opened = first (room_tests (length (padded_for_sealing m)) out) (λ q. w ((q, 0), out)) (w ((0, length m), over m out))

  module _ {B : Type 0} (b : List ℕ) (w : (ℕ × ℕ) × (List ℕ × List ℕ) → B) where
    abbrev over_file : (ℕ × ℕ) × List ℕ → B
    over_file o = w (o.0, (over (file_of (pad_set ch) b iv m) se, o.1))

    abbrev sealed_file : B
    sealed_file = first (seal_call_tests iv (length (padded_for_sealing m)) se) (λ q. w ((q, 0), (se, out))) (opened over_file)

  module _ {B : Type 0} (w : (ℕ × ℕ) × (List ℕ × (List ℕ × List ℕ)) → B) where
    abbrev over_code : (ℕ × ℕ) × (List ℕ × List ℕ) → B
    over_code o = w (o.0, (over (code_of (pad_set ch) m) co, o.1))

    abbrev left : ℕ → B
    left q = w ((q, 0), (co, (se, out)))

    abbrev onward : (ℕ × ℕ) × List ℕ → B
    onward a = w (written a (se, out) (λ c. sealed_opened schedule key (archive_set key ch) (book_in key held) iv c se out))

    abbrev coded_file : List ℕ → B
    coded_file b = first (code_call_tests m (length (padded_for_sealing m)) co) left (sealed_file b over_code)

  -- where the message is not too long and the IV is a block
  module _ (most : length m ≤ 1048575) (li : length iv ≡ 16) where
    way : SealedWay schedule key (pad_set ch) (archive_set key ch) (book_in key held) iv m
    way = seal_built schedule key ch bk held built hk m iv hm most li

    long : length (file_of (pad_set ch) (book_in key held) iv m) ≡ length (padded_for_sealing m)
    long = file_length schedule key ch bk held built hk m iv hm most li

    opens : {B : Type 0} (w : (ℕ × ℕ) × List ℕ → B) → w (open_answer schedule key (archive_set key ch) iv (file_of (pad_set ch) (book_in key held) iv m) out) ≡ opened w
    opens {B} w = go (dec_lt (length out) size)
      where
        go : Dec (length out < length (padded_for_sealing m)) → w (open_answer schedule key s iv file out) ≡ opened w
        go (yes h) = ap w (way.opening.short out (omega (arith, long))) ∙ sym (room_refused size out (λ q. w ((q, 0), out)) (w ((0, length m), over m out)) h)
        go (no h) =
            ap w (way.opening.written out (omega (arith, long)))
            ∙ sym (room_taken size out (λ q. w ((q, 0), out)) (w ((0, length m), over m out)) (omega arith))

    files : {B : Type 0} (w : (ℕ × ℕ) × (List ℕ × List ℕ) → B)
        → w (written (seal_answer (book_in key held) iv (code_of (pad_set ch) m) se) out (λ f. open_answer schedule key (archive_set key ch) iv f out))
        ≡ first (room_tests (length (padded_for_sealing m)) se) (λ q. w ((q, 0), (se, out))) (opened (over_file (book_in key held) w))
    unfolding next
    files {B} w = go (dec_lt (length se) size)
      where
        go : Dec (length se < length (padded_for_sealing m))
            → w (written (seal_answer book iv code se) out (λ f. open_answer schedule key s iv f out)) ≡ first (room_tests size se) (λ q. w ((q, 0), (se, out))) (opened (over_file book w))
        go (yes h) =
            ap (λ (a : (ℕ × ℕ) × List ℕ). w (written a out (λ f. open_answer schedule key s iv f out))) (way.sealing.short se (omega (arith, long)))
            ∙ sym (room_refused size se (λ q. w ((q, 0), (se, out))) (opened (over_file book w)) h)
        go (no h) =
            ap (λ (a : (ℕ × ℕ) × List ℕ). w (written a out (λ f. open_answer schedule key s iv f out))) (way.sealing.written se (omega (arith, long)))
            ∙ ap (λ (f : List ℕ). over_file book w (open_answer schedule key s iv f out)) (take_at file (drop (length file) se) (length file) refl)
            ∙ opens (over_file book w)
            ∙ sym (room_taken size se (λ q. w ((q, 0), (se, out))) (opened (over_file book w)) (omega arith))

  module _ {B : Type 0} where
    seals : length m ≤ 1048575 → (w : (ℕ × ℕ) × (List ℕ × List ℕ) → B)
        → w (sealed_opened schedule key (archive_set key ch) (book_in key held) iv (code_of (pad_set ch) m) se out) ≡ sealed_file (book_in key held) w
    unfolding sealed_opened next
    seals most w = go (ℕ_discrete (length iv) 16)
      where
        go : Dec (length iv ≡ 16) → w (written (seal_answer book iv code se) out (λ f. open_answer schedule key s iv f out)) ≡ sealed_file book w
        go (yes d) = files most d w ∙ sym (block_taken_lem iv (room_tests size se) (λ q. w ((q, 0), (se, out))) (opened (over_file book w)) d)
        go (no d) =
            ap (λ (a : (ℕ × ℕ) × List ℕ). w (written a out (λ f. open_answer schedule key s iv f out)))
            (seal_7 book iv code se (key_size key) (built_found schedule key ch bk held built) d)
            ∙ sym (block_refused iv (room_tests size se) (λ q. w ((q, 0), (se, out))) (opened (over_file book w)) d)

    codes : (w : (ℕ × ℕ) × (List ℕ × (List ℕ × List ℕ)) → B)
        → w (coded_opened schedule key (pad_set ch) (archive_set key ch) (book_in key held) iv m co se out) ≡ coded_file w (book_in key held)
    unfolding coded_opened next
    codes w = go (dec_lt 1048575 (length m)) (dec_lt (length co) size)
      where
        go : Dec (1048575 < length m) → Dec (length co < length (padded_for_sealing m)) → onward w (sealing_answer u m co) ≡ coded_file w book
        go (yes h) b =
            ap (onward w) (sealing_long u m co (pad_set_lem key ch valid) h)
            ∙ sym (first_hit (ltb 1048575 (length m)) 8 (room_tests size co) (left w) (sealed_file book (over_code w)) (lt-ltb 1048575 (length m) h))
        go (no h) (yes b) =
            ap (onward w) (sealing_short u m co (pad_set_lem key ch valid) (omega arith) b)
            ∙ sym (first_pass (ltb 1048575 (length m)) 8 (room_tests size co) (left w) (sealed_file book (over_code w)) (le-ltb 1048575 (length m) (omega arith))
            ∙ room_refused size co (left w) (sealed_file book (over_code w)) b)
        go (no h) (no b) =
            ap (onward w) (sealing_coded u m co (pad_set_lem key ch valid) (omega arith) (omega arith) ∙ ap (λ (k : ℕ). ((0, size), code ++ drop k co)) (sym code_length))
            ∙ ap (λ (c : List ℕ). over_code w (sealed_opened schedule key s book iv c se out)) (take_at code (drop (length code) co) size code_length)
            ∙ seals (omega arith) (over_code w)
            ∙ sym (first_pass (ltb 1048575 (length m)) 8 (room_tests size co) (left w) (sealed_file book (over_code w)) (le-ltb 1048575 (length m) (omega arith))
            ∙ room_taken size co (left w) (sealed_file book (over_code w)) (omega arith))

    -- the book is the key's and the chain's
    pub coded_opened_lem : (w : (ℕ × ℕ) × (List ℕ × (List ℕ × List ℕ)) → B)
        → w (coded_opened schedule key (pad_set ch) (archive_set key ch) (book_in key held) iv m co se out)
        ≡ coded_file w (key_book schedule key ch)
    coded_opened_lem w = codes w ∙ ap (λ (b : List ℕ). coded_file w b) (built_is schedule key ch bk held built)
