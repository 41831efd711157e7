-- What the driver seals and a Valid tag go through one ink file to the archive.
use mathlib.Core.Path.{◌≡◌, sym, ap, ◌∙◌}
use mathlib.Core.List.{List}
use Prim.Native.Nat.{ℕ}
use native.Mathlib.Decide.{ℕ_discrete}
use native.Mathlib.Omega.{arith}
use lib.ListN.{length}
use Rattle.cipher.specs.Answers.{schedule_of, key_size}
use Rattle.cipher.proofs.AnswerLaws.{text_known}
use Rattle.archive.specs.Archive.{check_answer}
use Rattle.archive.proofs.AnswerLaws.{check_7}
use Rattle.inkfile.specs.Format.{Fields, ink_of, Allowed}
use Rattle.inkfile.specs.Reading.{fields_read}
use Rattle.inkfile.proofs.WriteLaws.{write_short, write_done}
use Rattle.inkfile.proofs.FileLaws.{write_read}
use Rattle.claims.specs.Built.{Built, book_in, pad_set, archive_set}
use Rattle.claims.specs.Sealing.{file_of}
use Rattle.claims.specs.Ink.{SentInOne}
use Rattle.claims.proofs.BuiltLaws.{built_named, built_chain}
use Rattle.claims.proofs.LoneSets.{archive_set_lem}
use Rattle.claims.proofs.SealTheorem.{file_good, seal_built}

-- a tag that is Valid is a block
tag_block : (schedule : ℕ) (key ch out held : List ℕ) → Built schedule key ch out held → (m t : List ℕ) → check_answer schedule key (archive_set key ch) m t ≡ (0, 1) → length t ≡ 16
tag_block schedule key ch out held built m t e = go (ℕ_discrete (length t) 16)
  where
    go : Dec (length t ≡ 16) → length t ≡ 16
    go (yes l) = l
    go (no n) =
        let v = archive_set_lem key ch (built_chain schedule key ch out held built) in
        let z : ◌≡◌ {A = ℕ × ℕ} (7, 0) (0, 1) = sym (check_7 schedule key (archive_set key ch) m t (schedule_of schedule) (key_size key) (built_named schedule key ch out held built) v n) ∙ e in
        let w = ap (λ (p : ℕ × ℕ). p.0) z in
        absurd (omega arith)

pub sent_in_one : SentInOne
sent_in_one schedule key ch out held built hk m iv hm most li t valid n ln rs few remarks =
    let sealed = file_of (pad_set ch) (book_in key held) iv m in
    let s = archive_set key ch in
    let f : Fields = record { pad_number = n; iv = iv; sealed = sealed; tag = t; remarks = rs } in
    let g = text_known (length sealed) (file_good schedule key ch out held built hk m iv hm most li) in
    let g0 = g.0 in
    let g2 = g.2 in
    let a : Allowed f =
    record { pad_number = ln; iv = li; least = omega arith; most = g.1; whole = g2; tag = tag_block schedule key ch out held built m t valid; few = few; remarks = remarks } in
    let h = write_read f a in
    let e : fields_read (ink_of f) ≡ f = h.same in
    let way = seal_built schedule key ch out held built hk m iv hm most li in
    record {
      writing = record { short = λ o l. write_short f o a l; written = λ o l. write_done f o a l };
      reading = h;
      opening = rw e way.opening;
      valid = ap (λ (x : Fields). check_answer schedule key s m x.tag) e ∙ valid;
    }
