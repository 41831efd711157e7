-- The answers read for a message that is not refused: the number 0 says Valid, or that the message is back.
use mathlib.Core.Path.{◌≡◌, refl, sym, ap, ◌∙◌}
use mathlib.Core.Bool.{Bool}
use mathlib.Core.List.{List}
use Prim.Native.Nat.{ℕ}
use lib.Dec.{lit<}
use lib.ListN.{length}
use Rattle.lists.specs.Refusals.{first}
use Rattle.cipher.specs.Answers.{room_tests}
use Rattle.cipher.proofs.CheckLaws.{Numbered}
use Rattle.pad.specs.Padding.{padded_for_sealing, padded_for_tag}
use Rattle.claims.specs.Built.{pad_set}
use Rattle.claims.specs.Sealing.{code_of, file_of}
use Rattle.claims.proofs.BuiltLaws.{not_refused}
use Rattle.roundtrip.specs.Roundtrips.{key_book, tag_code_of, over, build_call_tests, code_call_tests, seal_call_tests, tag_roundtrip, seal_roundtrip}
use Rattle.roundtrip.proofs.StartLaws.{build_numbered}

-- one call: what is after it was answered, and its number is 0 too
passed : {B : Type 0} (ts : List (Bool × ℕ)) (left : B) (go : (ℕ × ℕ) × B) → Numbered ts → (first ts (λ q. ((q, 0), left)) go).0.0 ≡ 0
    → (first ts (λ q. ((q, 0), left)) go ≡ go) × (go.0.0 ≡ 0)
passed {B} ts left go n h =
    let p = not_refused (λ (y : (ℕ × ℕ) × B). y.0.0) (λ q. ((q, 0), left)) (λ q. refl) go ts n h in
    (p.1, ap (λ (y : (ℕ × ℕ) × B). y.0.0) (sym p.1) ∙ h)

module _ (schedule : ℕ) (key ch m bk co : List ℕ) where
  pub tag_valid : (tag_roundtrip schedule key ch m bk co).0.0 ≡ 0 → tag_roundtrip schedule key ch m bk co ≡ ((0, 1), (over (key_book schedule key ch) bk, over (tag_code_of (pad_set ch) m) co))
  unfolding tag_roundtrip
  tag_valid h =
      let p = passed (build_call_tests schedule key ch bk) (bk, co) (first (code_call_tests m (length (padded_for_tag m)) co) (λ q. ((q, 0), (over (key_book schedule key ch) bk, co)))
      ((0, 1), (over (key_book schedule key ch) bk, over (tag_code_of (pad_set ch) m) co))) (build_numbered schedule key ch bk) h in
      let c = passed (code_call_tests m (length (padded_for_tag m)) co) (over (key_book schedule key ch) bk, co) ((0, 1), (over (key_book schedule key ch) bk, over (tag_code_of (pad_set ch) m) co))
      (lit< tt, (lit< tt, tt)) p.1 in
      p.0 ∙ c.0

module _ (schedule : ℕ) (key ch iv m bk co se out : List ℕ) where
  abbrev size : ℕ
  size = length (padded_for_sealing m)

  abbrev book : List ℕ
  book = over (key_book schedule key ch) bk

  abbrev code : List ℕ
  code = over (code_of (pad_set ch) m) co

  abbrev file : List ℕ
  file = over (file_of (pad_set ch) (key_book schedule key ch) iv m) se

  abbrev back : (ℕ × ℕ) × (List ℕ × List ℕ × List ℕ × List ℕ)
  back = ((0, length m), (book, code, file, over m out))

  abbrev opened : (ℕ × ℕ) × (List ℕ × List ℕ × List ℕ × List ℕ)
  opened = first (room_tests size out) (λ q. ((q, 0), (book, code, file, out))) back

  abbrev sealed : (ℕ × ℕ) × (List ℕ × List ℕ × List ℕ × List ℕ)
  sealed = first (seal_call_tests iv size se) (λ q. ((q, 0), (book, code, se, out))) opened

  abbrev coded : (ℕ × ℕ) × (List ℕ × List ℕ × List ℕ × List ℕ)
  coded = first (code_call_tests m size co) (λ q. ((q, 0), (book, co, se, out))) sealed

  pub message_back : (seal_roundtrip schedule key ch iv m bk co se out).0.0 ≡ 0 → seal_roundtrip schedule key ch iv m bk co se out
      ≡ ((0, length m), (over (key_book schedule key ch) bk, over (code_of (pad_set ch) m) co, over (file_of (pad_set ch) (key_book schedule key ch) iv m) se, over m out))
  unfolding seal_roundtrip
  message_back h =
      let p = passed (build_call_tests schedule key ch bk) (bk, co, se, out) coded (build_numbered schedule key ch bk) h in
      let c = passed (code_call_tests m size co) (book, co, se, out) sealed (lit< tt, (lit< tt, tt)) p.1 in
      let s = passed (seal_call_tests iv size se) (book, code, se, out) opened (lit< tt, (lit< tt, tt)) c.1 in
      let o = passed (room_tests size out) (book, code, file, out) back (lit< tt, tt) s.1 in
      p.0 ∙ c.0 ∙ s.0 ∙ o.0
