-- What the pad writes for a tag, cut in blocks, with the kind that it tells: the message's calls.
use mathlib.Core.Path.{◌≡◌, sym, ap, ◌∙◌}
use mathlib.Core.List.{List}
use Prim.Native.Nat.{ℕ, ◌+◌, ◌-◌, ◌/◌, ◌≤◌, ◌<◌}
use native.Mathlib.Decide.{dec_lt}
use native.Mathlib.Omega.{arith}
use lib.ListN.{length, take, drop}
use lib.Seq.{take_at}
use Rattle.lists.specs.Blocks.{blocks}
use Rattle.cipher.specs.Coding.{set_of}
use Rattle.cipher.specs.Chain.{Chain}
use Rattle.cipher.specs.Answers.{key_size}
use Rattle.pad.specs.Padding.{padded_for_tag, kind_of, coded_text}
use Rattle.pad.specs.Answers.{tag_answer}
use Rattle.pad.proofs.PadLaws.{tag_blocks}
use Rattle.pad.proofs.TextLaws.{length_coded}
use Rattle.pad.proofs.AnswerLaws.{tag_short, tag_coded}
use Rattle.claims.specs.Calls.{calls_of, message_calls}
use Rattle.claims.specs.Built.{pad_set}
use Rattle.claims.proofs.LoneSets.{pad_set_lem}

module _ (key ch : List ℕ) (v : Chain (key_size key) ch) (m : List ℕ) (most : length m ≤ 1048575) where
  pub pad_calls : (o o' : List ℕ) (n k : ℕ) → tag_answer (pad_set ch) m o ≡ ((0, (n, k)), o') → calls_of k (blocks (take n o')) ≡ message_calls (set_of (pad_set ch)) m
  unfolding message_calls
  pad_calls o o' n k e = go (dec_lt (length o) (length (padded_for_tag m)))
    where
      go : Dec (length o < length (padded_for_tag m)) → calls_of k (blocks (take n o')) ≡ calls_of (kind_of (length m)) (blocks (coded_text (set_of (pad_set ch)) (padded_for_tag m)))
      go (yes a) =
          let w : ◌≡◌ {A = ℕ} 9 0 = ap (λ (r : (ℕ × (ℕ × ℕ)) × List ℕ). r.0.0) (sym (tag_short (pad_set ch) m o (pad_set_lem key ch v) most a) ∙ e) in
          absurd (omega arith)
      go (no a) =
          ap (λ (r : (ℕ × (ℕ × ℕ)) × List ℕ). calls_of r.0.1.1 (blocks (take r.0.1.0 r.1)))
          (sym e ∙ tag_coded (pad_set ch) m o (pad_set_lem key ch v) most (omega arith))
          ∙ ap (λ (t : List ℕ). calls_of (kind_of (length m)) (blocks t))
          (take_at (coded_text (set_of (pad_set ch)) (padded_for_tag m)) (drop (length (padded_for_tag m)) o) (length (padded_for_tag m))
          (length_coded (set_of (pad_set ch)) (pad_set_lem key ch v).codings (padded_for_tag m) ((length m - 1) / 16 + 1) (tag_blocks m)))
