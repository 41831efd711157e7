-- The round trip of a tag: the session's calls, one after another, are those of the list that a text makes (`Calls`); so on a book that
-- was built the tag is the message's, and checking says Valid (`TagTheorem`).
use mathlib.Core.Path.{◌≡◌, refl, sym, ap, ◌∙◌}
use mathlib.Core.List.{List, [], ◌∷◌, ◌++◌}
use Prim.Native.Nat.{ℕ, zero, suc, ◌+◌, ◌-◌, ◌*◌, ◌/◌, ◌≤◌, ◌<◌}
use native.Mathlib.Nat.{add-sub_cancel_left, sub-zero}
use native.Mathlib.Numerals.{add-one}
use native.Mathlib.Decide.{dec_lt}
use native.Mathlib.Omega.{arith}
use borrow.Author.Tests.{lt-ltb, le-ltb}
use lib.Dec.{ltb}
use lib.ListN.{length, get_or, take, drop}
use lib.Seq.{drop-drop, take_at}
use Rattle.lists.specs.Blocks.{Bytes, block_of, cut, blocks}
use Rattle.lists.specs.Refusals.{first}
use Rattle.lists.proofs.RefusalLaws.{first_hit, first_pass}
use Rattle.cipher.specs.Coding.{set_of}
use Rattle.cipher.specs.Chain.{Chain}
use Rattle.cipher.specs.Answers.{key_size, room_tests}
use Rattle.cipher.specs.Refusal.{number_of}
use Rattle.cipher.specs.declared.refusal.Refusal.{Refusal}
use Rattle.cipher.proofs.AnswerLaws.{room_refused, room_taken}
use Rattle.pad.specs.Padding.{padded_for_tag, kind_of}
use Rattle.pad.specs.Answers.{tag_code_told, tag_answer}
use Rattle.pad.specs.declared.code.TagCode.{TagCode}
use Rattle.pad.proofs.PadLaws.{tag_blocks}
use Rattle.pad.proofs.TextLaws.{length_coded}
use Rattle.pad.proofs.AnswerLaws.{tag_long, tag_short, tag_coded}
use Rattle.driver.specs.Driver as D
use Rattle.driver.specs.declared.session.Session.{Session}
use Rattle.std.specs.Prelude.{Result, Ok, Err}
use Rattle.std.specs.Result.{result_unwrap_or}
use Rattle.archive.specs.Archive.{check_answer}
use Rattle.claims.specs.Model.{Answer, accepted, tag}
use Rattle.claims.specs.Calls.{answer_of, last_reply, driver_call, run, driver_answers, calls_of, message_calls, tags_of}
use Rattle.claims.specs.Built.{Built, book_in, pad_set, archive_set}
use Rattle.claims.proofs.BuiltLaws.{built_chain}
use Rattle.claims.proofs.LoneSets.{pad_set_lem}
use Rattle.claims.proofs.TagTheorem.{calls_accepted, tag_built}
use Rattle.roundtrip.specs.Roundtrips.{tag_code_of, over, code_call_tests}
use Rattle.roundtrip.specs.Steps.{next, after_blocks, last_after, tag_by, coded_checked}
use Rattle.roundtrip.proofs.StepLaws.{next_done, next_refused, code_room}

-- ---- the calls one after another, and the list of them

block_next : (c : List ℕ) (n : ℕ) → block_of c (suc n) ≡ block_of (drop 16 c) n
block_next c n =
    let e : 16 * suc n ≡ 16 + 16 * n = omega arith in
    ap (take 16) (ap (λ (k : ℕ). drop k c) e ∙ sym (drop-drop (16 * n) 16 c))

-- a block call gives no tag
no_tag : (q : ℕ) (rs : List Answer) → tags_of (answer_of q accepted ∷ rs) ≡ tags_of rs
unfolding tags_of answer_of
no_tag zero rs = refl
no_tag (suc q) rs = refl

one_is : (q : ℕ) (a t : List ℕ) → tags_of (answer_of q (tag a) ∷ []) ≡ t ∷ [] → a ≡ t
unfolding tags_of answer_of
one_is zero a t e = ap (λ (l : List (List ℕ)). get_or l 0 []) e
one_is (suc q) a t e = let w : ◌≡◌ {A = ℕ} 0 1 = ap length e in absurd (omega arith)

module _ (bk : List ℕ) (k : ℕ) where
  after_next : (n : ℕ) (c : List ℕ) (s : Session) → after_blocks bk c (suc n) s ≡ after_blocks bk (drop 16 c) n (D.block_answer bk (take 16 c) s).1
  unfolding after_blocks
  after_next zero c s = refl
  after_next (suc n) c s =
      let b = block_next c n in
      let h = after_next n c s in
      λ i. (D.block_answer bk (b i) (h i)).1

  tags_calls : (n : ℕ) (c : List ℕ) (s : Session) → tags_of (run (driver_call bk) (calls_of k (cut (suc n) c)) s) ≡ tags_of ((last_reply (last_after bk c k n s)).0 ∷ [])
  unfolding cut calls_of run driver_call after_blocks
  tags_calls zero c s = refl
  tags_calls (suc n) c s =
      let a = D.block_answer bk (take 16 c) s in
      let b = block_next c n in
      let h = after_next n c s in
      no_tag a.0 (run (driver_call bk) (calls_of k (cut (suc n) (drop 16 c))) a.1)
      ∙ tags_calls n (drop 16 c) a.1
      ∙ sym (λ i. tags_of ((last_reply (D.last_answer bk (b i) k (h i))).0 ∷ []))

  -- the one tag among the answers is the one that is made
  tag_one : (c t : List ℕ) → 16 ≤ length c → tags_of (driver_answers bk (calls_of k (blocks c))) ≡ t ∷ [] → tag_by bk c k ≡ t
  unfolding tag_by driver_answers blocks
  tag_one c t l h =
      let n = length c / 16 - 1 in
      let s = (D.begin_answer bk).1 in
      let e : suc n ≡ length c / 16 = omega arith in
      one_is (last_after bk c k n s).0.0 (last_after bk c k n s).0.1 t
      (sym (tags_calls n c s) ∙ ap (λ (j : ℕ). tags_of (run (driver_call bk) (calls_of k (cut j c)) s)) e ∙ h)

-- a session that a call gives, or the one before it where the call is refused
kept_session : (a : Result Session Refusal) (t : Session) → result_unwrap_or a t ≡ (D.session_told a t).1
kept_session (Ok s) t = refl
kept_session (Err q) t = refl

pub begun : (bk : List ℕ) (b : Result Session Refusal) → D.session_told b D.spent ≡ D.begin_answer bk → result_unwrap_or b D.spent ≡ (D.begin_answer bk).1
begun bk b e = kept_session b D.spent ∙ ap (λ (r : ℕ × Session). r.1) e

-- ---- as the code makes them (the part `&c[a..a + 16]` is, as the borrow checker writes it, of length `a + 16 - a`)

module _ (bk c : List ℕ) (n : ℕ) where
  part_block : take (16 * n + 16 - 16 * n) (drop (16 * n) c) ≡ block_of c n
  part_block = ap (λ (k : ℕ). take k (drop (16 * n) c)) (add-sub_cancel_left (16 * n) 16)

  pub after_turn : (s t : Session) (b : List ℕ) (a : Result Session Refusal) → t ≡ after_blocks bk c n s → b ≡ block_of c n
      → D.session_told a t ≡ D.block_answer bk b t → result_unwrap_or a t ≡ after_blocks bk c (n + 1) s
  unfolding after_blocks
  after_turn s t b a h eb e =
      kept_session a t
      ∙ ap (λ (r : ℕ × Session). r.1) e
      ∙ (λ i. (D.block_answer bk (eb i) (h i)).1)
      ∙ ap (λ (j : ℕ). after_blocks bk c j s) (sym (add-one n))

  last_made : (s : Session) (k : ℕ) (a : Result (List ℕ × Session) Refusal) → D.tag_told a s ≡ D.last_answer bk (take (16 * n + 16 - 16 * n) (drop (16 * n) c)) k s
      → (D.tag_told a s).0.1 ≡ (D.last_answer bk (block_of c n) k s).0.1
  last_made s k a e =
      ap (λ (r : (ℕ × List ℕ) × Session). r.0.1) e
      ∙ ap (λ (b : List ℕ). (D.last_answer bk b k s).0.1) part_block

pub tag_made : (bk c : List ℕ) (k : ℕ) (b s : Session) (a : Result (List ℕ × Session) Refusal) (t : List ℕ) → b ≡ (D.begin_answer bk).1
    → s ≡ after_blocks bk c (length c / 16 - 1) b
    → D.tag_told a s ≡ D.last_answer bk (take (16 * (length c / 16 - 1) + 16 - 16 * (length c / 16 - 1)) (drop (16 * (length c / 16 - 1)) c)) k s
    → t ≡ (D.tag_told a s).0.1 → t ≡ tag_by bk c k
unfolding tag_by
tag_made bk c k b s a t eb es ea et =
    let n = length c / 16 - 1 in
    et
    ∙ last_made bk c n s k a ea
    ∙ ap (λ (t : Session). (D.last_answer bk (block_of c n) k t).0.1) es
    ∙ ap (λ (r : Session). (last_after bk c k n r).0.1) eb

-- ---- after the coding: r is what it gives and x what the buffer then holds

module _ (u m co x : List ℕ) (r : Result TagCode Refusal) (e : (tag_code_told r, x) ≡ tag_answer u m co) where
  pub tagging_room : (t : TagCode) → r ≡ Ok t → (t.length ≤ length co) × (16 ≤ t.length)
  tagging_room c d =
      let t = code_room (0, 0) (length (padded_for_tag m), kind_of (length m)) u m (padded_for_tag m) co (tag_code_told r, x) e (ap (λ (y : Result TagCode Refusal). (tag_code_told y).0) d) in
      let w : c.length ≡ length (padded_for_tag m) = ap (λ (y : Result TagCode Refusal). (tag_code_told y).1.0) (sym d) ∙ ap (λ (y : ℕ × ℕ). y.0) t.1 in
      (omega (arith, t.0), omega (arith, tag_blocks m))

  module _ (schedule : ℕ) (key s bk : List ℕ) where
    abbrev verdict : (ℕ × (ℕ × ℕ)) × List ℕ → (ℕ × ℕ) × List ℕ
    verdict a = (check_answer schedule key s m (tag_by bk (take a.0.1.0 a.1) a.0.1.1), a.1)

    abbrev kept : ℕ → (ℕ × ℕ) × List ℕ
    kept q = ((q, 0), (tag_answer u m co).1)

    number_is : (n : ℕ × (ℕ × ℕ)) → tag_code_told r ≡ n → (tag_answer u m co).0.0 ≡ n.0
    number_is n d = ap (λ (y : (ℕ × (ℕ × ℕ)) × List ℕ). y.0.0) (sym e) ∙ ap (λ (y : ℕ × (ℕ × ℕ)). y.0) d

    pub tagged_refused : (q : Refusal) → r ≡ Err q → ((number_of q, 0), x) ≡ coded_checked schedule key u s bk m co
    unfolding coded_checked
    tagged_refused q d =
        ap (λ (y : (ℕ × (ℕ × ℕ)) × List ℕ). ((number_of q, 0), y.1)) e
        ∙ sym (next_refused (tag_answer u m co).0.0 kept (verdict (tag_answer u m co)) q (number_is (number_of q, (0, 0)) (ap tag_code_told d)))

    pub tagged_done : (t : TagCode) → r ≡ Ok t → coded_checked schedule key u s bk m co ≡ (check_answer schedule key s m (tag_by bk (take (t.length - 0) x) t.kind), x)
    unfolding coded_checked
    tagged_done t d =
        next_done (tag_answer u m co).0.0 kept (verdict (tag_answer u m co)) (number_is (0, (t.length, t.kind)) (ap tag_code_told d))
        ∙ ap verdict (sym e)
        ∙ ap (λ (y : Result TagCode Refusal). verdict (tag_code_told y, x)) d
        ∙ ap (λ (j : ℕ). (check_answer schedule key s m (tag_by bk (take j x) t.kind), x)) (sym (sub-zero t.length))

-- ---- on a book that was built

module _ (schedule : ℕ) (key ch bk held : List ℕ) (built : Built schedule key ch bk held) (m co : List ℕ) (hm : Bytes m) where
  abbrev u : List ℕ
  u = pad_set ch

  abbrev set_r : List ℕ
  set_r = archive_set key ch

  abbrev book : List ℕ
  book = book_in key held

  abbrev size : ℕ
  size = length (padded_for_tag m)

  abbrev code : List ℕ
  code = tag_code_of (pad_set ch) m

  valid : Chain (key_size key) ch
  valid = built_chain schedule key ch bk held built

  code_length : length (tag_code_of (pad_set ch) m) ≡ length (padded_for_tag m)
  code_length = length_coded (set_of u) (pad_set_lem key ch valid).codings (padded_for_tag m) ((length m - 1) / 16 + 1) (tag_blocks m)

  -- the tag of a message that is not refused is valid
  checks : length m ≤ 1048575 → check_answer schedule key (archive_set key ch) m (tag_by (book_in key held) (tag_code_of (pad_set ch) m) (kind_of (length m))) ≡ (0, 1)
  unfolding message_calls
  checks most =
      let o = tag_built schedule key ch bk held built m hm most (message_calls (set_of u) m) (calls_accepted schedule key ch bk held built m hm most) in
      ap (check_answer schedule key set_r m) (tag_one book (kind_of (length m)) code o.the_tag (omega (arith, code_length, tag_blocks m)) o.one)
      ∙ o.valid

  -- what w makes of the answer of coding and what is after it
  module _ {B : Type 0} (w : (ℕ × ℕ) × List ℕ → B) where
    abbrev done : B
    done = w ((0, 1), over (tag_code_of (pad_set ch) m) co)

    abbrev left : ℕ → B
    left q = w ((q, 0), co)

    abbrev onward : (ℕ × (ℕ × ℕ)) × List ℕ → B
    onward a =
        w (next a.0.0 (λ q. ((q, 0), a.1)) (check_answer schedule key (archive_set key ch) m (tag_by (book_in key held) (take a.0.1.0 a.1) a.0.1.1), a.1))

    pub coded_checked_lem : w (coded_checked schedule key (pad_set ch) (archive_set key ch) (book_in key held) m co)
        ≡ first (code_call_tests m (length (padded_for_tag m)) co) (λ q. w ((q, 0), co)) (w ((0, 1), over (tag_code_of (pad_set ch) m) co))
    unfolding coded_checked next
    coded_checked_lem = go (dec_lt 1048575 (length m)) (dec_lt (length co) size)
      where
        go : Dec (1048575 < length m) → Dec (length co < length (padded_for_tag m)) → onward (tag_answer u m co) ≡ first (code_call_tests m size co) left done
        go (yes h) b =
            ap onward (tag_long u m co (pad_set_lem key ch valid) h)
            ∙ sym (first_hit (ltb 1048575 (length m)) 8 (room_tests size co) left done (lt-ltb 1048575 (length m) h))
        go (no h) (yes b) =
            ap onward (tag_short u m co (pad_set_lem key ch valid) (omega arith) b)
            ∙ sym (first_pass (ltb 1048575 (length m)) 8 (room_tests size co) left done (le-ltb 1048575 (length m) (omega arith)) ∙ room_refused size co left done b)
        go (no h) (no b) =
            ap onward (tag_coded u m co (pad_set_lem key ch valid) (omega arith) (omega arith)
            ∙ ap (λ (k : ℕ). ((0, (size, kind_of (length m))), code ++ drop k co)) (sym code_length))
            ∙ ap (λ (c : List ℕ). w (check_answer schedule key set_r m (tag_by book c (kind_of (length m))), over code co)) (take_at code (drop (length code) co) size code_length)
            ∙ ap (λ (v : ℕ × ℕ). w (v, over code co)) (checks (omega arith))
            ∙ sym (first_pass (ltb 1048575 (length m)) 8 (room_tests size co) left done (le-ltb 1048575 (length m) (omega arith)) ∙ room_taken size co left done (omega arith))
