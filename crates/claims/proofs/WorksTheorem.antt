-- The works makes its own chains (specs/Works): what an answer 0 of the chain maker tells, and that the builders take what is made.
use Rattle.std.proofs.Common.{Some}
use mathlib.Core.Path.{◌≡◌, refl, sym, ap, ◌∙◌}
use mathlib.Core.Bool.{Bool}
use mathlib.Core.List.{List, ◌++◌}
use Prim.Native.Nat.{ℕ, ◌≤◌, ◌<◌}
use native.Mathlib.Decide.{dec_lt}
use native.Mathlib.Omega.{arith}
use borrow.Author.Tests.{ltb-false}
use lib.Dec.{lit<}
use lib.ListN.{length, take, drop}
use lib.Seq.{take_at}
use Rattle.lists.specs.Blocks.{Bytes}
use Rattle.lists.proofs.RefusalLaws.{Clear}
use Rattle.cipher.specs.KeySize.{rounds, key_length, chain_length, size_of_key}
use Rattle.cipher.specs.Chain.{Chain, LoneSet, set_tests}
use Rattle.cipher.specs.Answers.{key_size, chain_checked}
use Rattle.cipher.specs.declared.size.KeySize.{KeySize}
use Rattle.cipher.proofs.ChainTests.{set_tested}
use Rattle.cipher.proofs.ChainRefusals.{check_valid}
use Rattle.cipher.proofs.CheckLaws.{Numbered}
use Rattle.cipher.proofs.KeySizeLaws.{found_length}
use Rattle.reading.specs.Chain.{ReadingChain}
use Rattle.reading_book.specs.Answers.{reading_chain_checked}
use Rattle.reading_book.proofs.ReadingChainRefusals.{reading_valid}
use Rattle.maker.specs.Plan.{Plan, sealing, reading}
use Rattle.maker.specs.MadeChain.{chain_draws, chain_made}
use Rattle.maker.specs.Answers.{draw_tests, made_into, make_tests, make_reading_tests, make_reading_answer}
use Rattle.maker.specs.Laws.{Makes, ReadingFrom}
use Rattle.maker.proofs.MakerTheorem.{maker_laws}
use Rattle.claims.specs.Built.{key_rounds, archive_set}
use Rattle.claims.specs.Review.{first_set}
use Rattle.claims.specs.Works.{Made, ReadingMade, chain_in, ChainTaken, ReadingTaken, WorksLaws}
use Rattle.claims.proofs.BuiltLaws.{not_refused, clear_front, size_known}
use Rattle.claims.proofs.LoneSets.{archive_set_lem}
use Rattle.claims.proofs.Demand3Theorem.{demand3_for_all}
use Rattle.claims.proofs.ReviewTheorem.{shows_for_all, reviews}

-- ---- what an answer 0 tells

module _ (tests : List (Bool × ℕ)) (numbered : Numbered tests) (p : Plan) (key random out held : List ℕ) (k : ℕ)
    (made : made_into tests p (key_size key) random out ≡ ((0, k), held)) where
  abbrev Answer : Type 0
  Answer = (ℕ × ℕ) × List ℕ

  parts : Clear tests × (◌≡◌ {A = Answer} ((0, chain_draws p (key_rounds key) random), chain_made p (key_rounds key) random ++ drop (chain_length (key_size key)) out) ((0, k), held))
  unfolding made_into
  parts =
      let done : Answer = ((0, chain_draws p (key_rounds key) random), chain_made p (key_rounds key) random ++ drop (chain_length (key_size key)) out) in
      let q = not_refused (λ (r : Answer). r.0.0) (λ n. ((n, 0), out)) (λ n. refl) done tests numbered (ap (λ (r : Answer). r.0.0) made) in
      (q.0, sym q.1 ∙ made)

  count_is : chain_draws p (key_rounds key) random ≡ k
  count_is = ap (λ (r : Answer). r.0.1) parts.1

  chain_is : length (chain_made p (key_rounds key) random) ≡ chain_length (key_size key) → chain_in key held ≡ chain_made p (key_rounds key) random
  chain_is e =
      ap (λ (r : Answer). take (chain_length (key_size key)) r.1) (sym parts.1)
      ∙ take_at (chain_made p (key_rounds key) random) (drop (chain_length (key_size key)) out) (chain_length (key_size key)) e

-- the random bytes sufficed
enough : (p : Plan) (key random out : List ℕ) → Clear (draw_tests p (key_size key) random out) → chain_draws p (key_rounds key) random ≤ length random
enough p key random out c = ltb-false (length random) (chain_draws p (key_rounds key) random) c.1.0

-- ---- chains

module _ (key random out held : List ℕ) (k : ℕ) (made : Made key random out k held) where
  numbered : Numbered (make_tests (length key) random out)
  unfolding make_tests
  numbered = (lit< tt, (lit< tt, (lit< tt, tt)))

  clear : Clear (make_tests (length key) random out)
  clear = (parts (make_tests (length key) random out) numbered sealing key random out held k made).0

  made_size : size_of_key (length key) ≡ Some (key_size key)
  unfolding make_tests
  made_size = size_known (length key) clear.0

  made_count : k ≤ length random
  unfolding make_tests
  made_count = omega (arith, count_is (make_tests (length key) random out) numbered sealing key random out held k made, enough sealing key random out clear.1)

  valid : Chain (key_size key) (chain_made sealing (key_rounds key) random)
  valid = (maker_laws.chains (key_size key)).wanted random

  made_valid : Chain (key_size key) (chain_in key held)
  made_valid = rw (chain_is (make_tests (length key) random out) numbered sealing key random out held k made valid.size) valid

  made_taken : Bytes key → ChainTaken key (chain_in key held)
  made_taken hk = record {
    valid = made_valid;
    checked = ap (λ (n : ℕ). chain_checked n (chain_in key held)) (found_length key_length (length key) (key_size key) made_size)
        ∙ check_valid (chain_in key held) (key_size key) made_valid;
    books = λ schedule j n bout h. demand3_for_all schedule j (key_size key) key (chain_in key held) bout (n, made_size) hk made_valid h;
  }

-- ---- reading chains

module _ (key set random out held : List ℕ) (k : ℕ) (made : ReadingMade key set random out k held) where
  reading_numbered : Numbered (make_reading_tests (length key) set random out)
  unfolding make_reading_tests set_tests
  reading_numbered = (lit< tt, (lit< tt, (lit< tt, (lit< tt, (lit< tt, tt)))))

  reading_clear : Clear (make_reading_tests (length key) set random out)
  reading_clear = (parts (make_reading_tests (length key) set random out) reading_numbered (reading set) key random out held k made).0

  reading_size : size_of_key (length key) ≡ Some (key_size key)
  unfolding make_reading_tests
  reading_size = size_known (length key) reading_clear.0

  lone : LoneSet set
  unfolding make_reading_tests
  lone = set_tested set (clear_front (set_tests set) (draw_tests (reading set) (key_size key) random out) reading_clear.1)

  reading_count : k ≤ length random
  unfolding make_reading_tests set_tests
  reading_count =
      omega (
        arith,
        count_is (make_reading_tests (length key) set random out) reading_numbered (reading set) key random out held k made,
        enough (reading set) key random out reading_clear.1.1.1,
      )

  reading_taken : Bytes key → ReadingTaken key set (chain_in key held)
  reading_taken hk =
      let w = (maker_laws.reading_chains (key_size key) set lone).wanted random in
      let same = chain_is (make_reading_tests (length key) set random out) reading_numbered (reading set) key random out held k made w.0.size in
      let v : ReadingChain (key_size key) (chain_in key held) = rw same w.0 in
      record {
        valid = v;
        checked = ap (λ (n : ℕ). reading_chain_checked n (chain_in key held)) (found_length key_length (length key) (key_size key) reading_size)
            ∙ reading_valid (chain_in key held) (key_size key) v;
        first = ap first_set same ∙ w.1;
        books = λ schedule j n bout h. shows_for_all schedule j (key_size key) key (chain_in key held) bout (n, reading_size) hk v h;
      }

-- with a set that is valid, making a reading chain gives none of the refusals below 9
few_numbers : (z : KeySize) (set : List ℕ) → LoneSet set → (random out : List ℕ) (q : ℕ) → 0 < q → q < 9 → (make_reading_answer (key_length z) set random out).0.0 ≡ q → ⊥
few_numbers z set v random out q more less e = go (dec_lt (length out) (chain_length z)) (dec_lt (length random) (chain_draws (reading set) (rounds z) random))
  where
    laws : Makes (chain_draws (reading set) (rounds z)) (chain_made (reading set) (rounds z)) (ReadingFrom set z) (chain_length z) (make_reading_answer (key_length z) set)
    laws = maker_laws.reading_chains z set v

    go : Dec (length out < chain_length z) → Dec (length random < chain_draws (reading set) (rounds z) random) → ⊥
    go (yes a) d = let s = ap (λ (a : (ℕ × ℕ) × List ℕ). a.0.0) (laws.short random out a) in absurd (omega arith)
    go (no a) (yes d) = let s = ap (λ (a : (ℕ × ℕ) × List ℕ). a.0.0) (laws.ran_out random out (omega arith) d) in absurd (omega arith)
    go (no a) (no d) = let s = ap (λ (a : (ℕ × ℕ) × List ℕ). a.0.0) (laws.done random out (omega arith) (omega arith)) in absurd (omega arith)

-- so the archive's set of a chain that was made is not refused
never : (key random out held : List ℕ) (k : ℕ) → Made key random out k held → (random' out' : List ℕ) (q : ℕ) → 0 < q → q < 9
    → (make_reading_answer (length key) (archive_set key (chain_in key held)) random' out').0.0 ≡ q → ⊥
never key random out held k made random' out' q more less e =
    let l = found_length key_length (length key) (key_size key) (made_size key random out held k made) in
    few_numbers (key_size key) (archive_set key (chain_in key held)) (archive_set_lem key (chain_in key held) (made_valid key random out held k made)) random' out' q more less
    (ap (λ (n : ℕ). (make_reading_answer n (archive_set key (chain_in key held)) random' out').0.0) (sym l) ∙ e)

pub works_laws : WorksLaws
works_laws = record {
  chains = λ key random out held k hk made. (made_count key random out held k made, made_taken key random out held k made hk);
  reading_chains = λ key set random out held k hk made. (reading_count key set random out held k made, reading_taken key set random out held k made hk);
  reviews = λ key random out held random' out' held' k k' hk made rmade schedule bout bheld rout rheld built rbuilt m iv hm most li.
      reviews schedule key (chain_in key held) bout bheld (chain_in key held') rout rheld built rbuilt
      (reading_taken key (archive_set key (chain_in key held)) random' out' held' k' rmade hk).first hk m iv hm most li;
  sets = λ key random out held random' out' k made.
      (never key random out held k made random' out' 2 (lit< tt) (lit< tt), never key random out held k made random' out' 3 (lit< tt) (lit< tt));
}
