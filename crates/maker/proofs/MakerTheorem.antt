-- What is claimed of the chain maker (specs/Laws): both operations, by the plans that they go by.
use mathlib.Core.Path.{◌≡◌, sym, ap, ◌∙◌}
use mathlib.Core.Bool.{true}
use mathlib.Core.List.{List}
use Prim.Native.Nat.{ℕ, ◌+◌, ◌-◌, ◌*◌, ◌/◌, ◌%◌, ◌≤◌, ◌<◌, zero-le}
use native.Mathlib.Omega.{arith}
use borrow.Author.Tests.{le-leb, lt-ltb}
use lib.Dec.{lit<}
use lib.ListN.{length, get_or, take, drop, length-drop}
use lib.Seq.{ext_get_or, get_or-drop, get_or-take, length-take-le}
use Rattle.cipher.specs.KeySize.{rounds, key_length, chain_length}
use Rattle.cipher.specs.Lengths.{set_length}
use Rattle.cipher.specs.Chain.{Chain, LoneSet}
use Rattle.cipher.specs.declared.size.KeySize.{KeySize}
use Rattle.cipher.proofs.KeySizeLaws.{size_of_key_lem}
use Rattle.cipher.proofs.ChainTests.{permutations_tested, permutations_set, lone_set}
use Rattle.maker.specs.Plan.{Plan, sealing, reading, given_coding}
use Rattle.coding_maker.specs.Parts.{left}
use Rattle.maker.specs.MadeChain.{set_use, free_coding, set_coding, chain_draws, chain_made}
use Rattle.maker.specs.Answers.{draw_tests, made_into, make_answer, make_reading_answer}
use Rattle.coding_maker.specs.Laws.{ComesOut, IsCoding}
use Rattle.coding_maker.proofs.CodingTheorem.{coding_laws}
use Rattle.maker.specs.Laws.{Makes, ReadingFrom, MakerLaws}
use Rattle.coding_maker.proofs.CodingDrawn.{sends}
use Rattle.maker.proofs.Places.{given_known, coding_early, source_free}
use Rattle.maker.proofs.ChainValid.{coding_of, Sound, chain_valid, chain_length_lem, front}
use Rattle.maker.proofs.ChainDecided.{chain_same, draws_same, draws_more, fewer_lack, drawn_suffice}
use Rattle.maker.proofs.ChainReached.{coding_at_lem, coding_of_lem, Planned, chain_bytes, chain_draws_lem, chain_reached, chain_bytes_lem}
use Rattle.maker.proofs.ChainTurns.{free_given}
use Rattle.maker.proofs.MakeAnswers.{made_room, made_ran_out, made_done, make_key, make_sized, reading_key, reading_set_length, reading_set_coding, reading_sized}

-- ---- an operation that goes by a plan

module _ (p : Plan) (s : Sound p) (z : KeySize) (Wanted : List ℕ → Type 0) (fine : (ch : List ℕ) → Wanted ch → Planned p z ch)
    (wanted : (random : List ℕ) → Wanted (chain_made p (rounds z) random)) (answer : List ℕ → List ℕ → (ℕ × ℕ) × List ℕ)
    (same : (random out : List ℕ) → answer random out ≡ made_into (draw_tests p z random out) p z random out) where
  abbrev r : ℕ
  r = rounds z

  comes_out : (ch : List ℕ) → Planned p z ch → ComesOut (chain_draws p (rounds z)) (chain_made p (rounds z)) ch
  comes_out ch h = record {
    from = chain_bytes p r ch;
    bytes = chain_bytes_lem p z ch h;
    all = chain_draws_lem p z ch h;
    made = chain_reached p z ch h;
  }

  makes : Makes (chain_draws p (rounds z)) (chain_made p (rounds z)) Wanted (chain_length z) answer
  makes = record {
    short = λ random out h. same random out ∙ made_room p z random out h;
    ran_out = λ random out h l. same random out ∙ made_ran_out p z random out h l;
    done = λ random out h l. same random out ∙ made_done p z random out h l;
    wanted = wanted;
    behind = λ random more h. (draws_same p s.words r random more h, chain_same p s.words r random more h);
    alone = drawn_suffice p s.words r;
    fewer = λ random m b h. fewer_lack p s.words r random m h b;
    lacking = draws_more p s.words r;
    every = λ ch h. comes_out ch (fine ch h);
  }

-- ---- chains

sound_sealing : Sound sealing
sound_sealing = record { words = (lit< tt, lit< tt, λ e. absurd (omega arith)); codings = λ k h. absurd (omega arith) }

planned_sealing : (z : KeySize) (ch : List ℕ) → Chain z ch → Planned sealing z ch
planned_sealing z ch h = record { two = sound_sealing.words; valid = h; same = λ k l e. let g = given_known sealing k e in absurd (omega (arith, g.1)) }

-- ---- reading chains

-- coding k of a set that comes alone
coding_of_set : (set : List ℕ) → LoneSet set → (k : ℕ) → k < 32 → IsCoding (coding_of set k)
coding_of_set set v k h = coding_of_lem set k (omega (arith, v.size)) (permutations_tested 32 set (permutations_set set v.codings) k h)

sound_reading : (set : List ℕ) → LoneSet set → Sound (reading set)
sound_reading set v = record { words = (lit< tt, lit< tt, λ e. absurd (omega arith)); codings = λ k h. coding_of_set set v k (omega (arith, v.size)) }

-- set 0 of a chain, cut out: its coding k is the chain's coding 32 + k
cut_coding : (ch set : List ℕ) (k : ℕ) → 1024 ≤ length ch → take set_length (drop set_length ch) ≡ set → 32 ≤ k → k < 64 → coding_of set (k - 32) ≡ coding_of ch k
cut_coding ch set k room e a b =
    ext_get_or 0 (coding_of set (k - 32)) (coding_of ch k) (size_set ∙ sym size_ch) (λ v h.
    let d : v < 16 = omega (arith, size_set) in
    let w : 512 + (16 * (k - 32) + v) ≡ 16 * k + v = omega arith in
    coding_at_lem set (k - 32) v d
    ∙ ap (λ (l : List ℕ). get_or l (16 * (k - 32) + v) 0) (sym e)
    ∙ get_or-take 512 (drop 512 ch) (16 * (k - 32) + v) 0 (omega arith)
    ∙ get_or-drop 512 ch (16 * (k - 32) + v) 0
    ∙ ap (λ (i : ℕ). get_or ch i 0) w
    ∙ sym (coding_at_lem ch k v d))
  where
    long : length set ≡ 512
    long = ap length (sym e) ∙ length-take-le 512 (drop 512 ch) (rw (length-drop 512 ch) (omega arith))

    size_set : length (coding_of set (k - 32)) ≡ 16
    size_set = length-take-le 16 (drop (16 * (k - 32)) set) (rw (length-drop (16 * (k - 32)) set) (omega (arith, long)))

    size_ch : length (coding_of ch k) ≡ 16
    size_ch = length-take-le 16 (drop (16 * k) ch) (rw (length-drop (16 * k) ch) (omega arith))

planned_reading : (set : List ℕ) → LoneSet set → (z : KeySize) (ch : List ℕ) → ReadingFrom set z ch → Planned (reading set) z ch
planned_reading set v z ch h = record {
  two = (sound_reading set v).words;
  valid = h.0;
  same = λ k l e.
      let g = given_known (reading set) k e in
      cut_coding ch set k (omega (arith, h.0.size)) h.1 g.0 (omega (arith, g.0, g.1, v.size));
}

-- the set that is given is set 0 of what is made
module _ (set : List ℕ) (v : LoneSet set) (r : ℕ) (s : List ℕ) where
  given : (k : ℕ) → k < 32 → given_coding (reading set) (32 + k) ≡ true
  unfolding given_coding
  given k h = let e : 32 + k - 32 ≡ k = omega arith in rw (le-leb 32 (32 + k) (omega arith), e, lt-ltb k (length set / 16) (omega (arith, v.size)))

  placed : (k : ℕ) → k < 32 → set_coding (reading set) s (32 + k) ≡ coding_of set k
  unfolding set_coding
  placed k h =
      let p = reading set in
      let e : 32 + k - 32 ≡ k = omega arith in
      ap (λ (n : ℕ). free_coding p n (left (set_use p) n s)) (source_free p (32 + k) (coding_early p (32 + k) (omega arith)))
      ∙ free_given p (32 + k) (left (set_use p) (32 + k) s) (given k h)
      ∙ ap (coding_of set) e

  first_set_lem : take set_length (drop set_length (chain_made (reading set) r s)) ≡ set
  first_set_lem =
      ext_get_or 0 (take 512 (drop 512 ch)) set (size ∙ sym v.size) (λ i h.
      let b : i < 512 = omega (arith, size) in
      let e : 512 + i ≡ 16 * (32 + i / 16) + i % 16 = omega arith in
      let d : 16 * (i / 16) + i % 16 ≡ i = omega arith in
      get_or-take 512 (drop 512 ch) i 0 b
      ∙ get_or-drop 512 ch i 0
      ∙ ap (λ (n : ℕ). get_or ch n 0) e
      ∙ front (reading set) r s (32 + i / 16) (i % 16) (omega arith) (omega arith)
      ∙ ap (λ (x : List ℕ). sends x (i % 16)) (placed (i / 16) (omega arith))
      ∙ coding_at_lem set (i / 16) (i % 16) (omega arith)
      ∙ ap (λ (n : ℕ). get_or set n 0) d)
    where
      ch : List ℕ
      ch = chain_made (reading set) r s

      size : length (take 512 (drop 512 (chain_made (reading set) r s))) ≡ 512
      size =
          length-take-le 512 (drop 512 (chain_made (reading set) r s))
          (rw (length-drop 512 (chain_made (reading set) r s)) (omega (arith, chain_length_lem (reading set) r s)))

-- ---- the whole

pub maker_laws : MakerLaws
maker_laws = record {
  codings = coding_laws;
  chains = λ z. makes sealing sound_sealing z (Chain z) (planned_sealing z) (chain_valid sealing sound_sealing z) (make_answer (key_length z))
      (λ random out. make_sized (key_length z) random out z (size_of_key_lem z));
  reading_chains = λ z set v. makes (reading set) (sound_reading set v) z (ReadingFrom set z) (planned_reading set v z)
      (λ random. (chain_valid (reading set) (sound_reading set v) z random, first_set_lem set v (rounds z) random))
      (make_reading_answer (key_length z) set) (λ random out. reading_sized (key_length z) set random out z (size_of_key_lem z) v);
  first_sets = λ z ch v. lone_set (drop set_length ch) (rw (length-drop set_length ch) (omega (arith, v.size))) (v.codings.sets 0 zero-le);
  no_key = make_key;
  reading_no_key = reading_key;
  length_of_set = λ z n set random out e. reading_set_length n set random out z e;
  coding_of_set = λ z n set random out e. reading_set_coding n set random out z e;
}
