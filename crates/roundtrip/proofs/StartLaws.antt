-- The start of both round trips: what building gives makes the start's answer, and that tells what the tests say, what the buffer holds,
-- and what is cut out of chain and buffer.
use mathlib.Core.Path.{◌≡◌, refl, sym, ap, ◌∙◌}
use mathlib.Core.Bool.{Bool}
use mathlib.Core.List.{List, [], ◌++◌, append-nil}
use Prim.Native.Nat.{ℕ, suc, ◌+◌, ◌*◌, ◌≤◌}
use native.Mathlib.Numerals.{add-one}
use native.Mathlib.Omega.{arith}
use borrow.Author.Tests.{ltb-false}
use lib.Dec.{lit<}
use lib.ListN.{length, take, drop}
use Rattle.lists.specs.Refusals.{first}
use Rattle.lists.proofs.RefusalLaws.{Clear, first_clear, first_map}
use Rattle.cipher.specs.KeySize.{rounds, book_length, size_of_key}
use Rattle.cipher.specs.Schedules.{key_rows}
use Rattle.cipher.specs.Chain.{chain_tests_by}
use Rattle.cipher.specs.Answers.{schedule_of, key_size}
use Rattle.cipher.specs.Refusal.{number_of, outcome_of}
use Rattle.cipher.specs.declared.size.KeySize.{KeySize}
use Rattle.cipher.specs.declared.size.KeySize.TheVariants.{Bytes16}
use Rattle.std.specs.Prelude.{Option, Result, Ok, Err}
use Rattle.std.specs.Option.{ok_or}
use Rattle.cipher.specs.declared.refusal.Refusal.{Refusal}
use Rattle.cipher.specs.declared.refusal.Refusal.TheVariants.{KeyLength}
use Rattle.cipher.proofs.AnswerLaws.{number_more}
use Rattle.cipher.proofs.CheckLaws.{Numbered, told_refused}
use Rattle.book.specs.Answers.{built_into, build_answer}
use Rattle.claims.specs.Built.{Built, book_in, key_rounds, archive_set}
use Rattle.roundtrip.specs.Roundtrips.{key_book, over, build_call_tests}
use Rattle.roundtrip.specs.Steps.{start_told, start_answer}
use Rattle.claims.proofs.BuiltLaws.{not_refused, whole_length, built_named, built_chain}

-- an answer of which the number is a refusal's: the same test decides whatever is answered
module _ {Y : Type 0} (number : Y → ℕ) (refuse : ℕ → Y) (e : (q : ℕ) → number (refuse q) ≡ q) (go : Y) (d : number go ≡ 0) where
  refused_alike : {A : Type 0} (other : ℕ → A) (done : A) (ts : List (Bool × ℕ)) (q : Refusal) → number (first ts refuse go) ≡ number_of q → first ts other done ≡ other (number_of q)
  refused_alike other done ts q h =
      ap (λ (l : List (Bool × ℕ)). first l other done) (sym (append-nil ts))
      ∙ told_refused [] other done ts (number_of q) (number_more q) (sym (first_map number ts refuse go ∙ (λ i. first ts (λ q. e q i) (d i))) ∙ h)

module _ (schedule : ℕ) (key ch bk : List ℕ) where
  pub build_numbered : Numbered (build_call_tests schedule key ch bk)
  unfolding chain_tests_by
  build_numbered = (lit< tt, (lit< tt, (lit< tt, (lit< tt, (lit< tt, (lit< tt, (lit< tt, tt)))))))

  answer_is : build_answer schedule key ch bk ≡ first (build_call_tests schedule key ch bk) (λ q. (q, bk)) (0, over (key_book schedule key ch) bk)
  unfolding built_into
  answer_is =
      ap (λ (n : ℕ). first (build_call_tests schedule key ch bk) (λ q. (q, bk)) (0, key_book schedule key ch ++ drop n bk))
      (sym (whole_length (key_size key) (key_rows (schedule_of schedule) (key_size key) key) ch))

  -- building gave r, and held is what the buffer then holds
  module _ (held : List ℕ) (r : Result (Unit {0}) Refusal) (e : (outcome_of r, held) ≡ build_answer schedule key ch bk) where
    pub start_refused : (q : Refusal) → r ≡ Err q → ((number_of q, Bytes16), held) ≡ start_answer schedule key ch bk
    unfolding start_answer
    start_refused q d =
        ap (λ (y : ℕ × List ℕ). ((number_of q, Bytes16), y.1)) (e ∙ answer_is ∙ alike (λ q. (q, bk)) (0, over (key_book schedule key ch) bk))
        ∙ sym (alike (λ q. ((q, Bytes16), bk)) ((0, key_size key), over (key_book schedule key ch) bk))
      where
        alike : {B : Type 0} (other : ℕ → B) (done : B) → first (build_call_tests schedule key ch bk) other done ≡ other (number_of q)
        alike other done =
            refused_alike (λ (y : ℕ × List ℕ). y.0) (λ q. (q, bk)) (λ q. refl) (0, over (key_book schedule key ch) bk) refl other done (build_call_tests schedule key ch bk) q
            (ap (λ (y : ℕ × List ℕ). y.0) (sym (e ∙ answer_is)) ∙ ap outcome_of d)

    module _ {u : Unit {0}} (d : r ≡ Ok u) where
      built : Built schedule key ch bk held
      built = sym e ∙ ap (λ (y : Result (Unit {0}) Refusal). (outcome_of y, held)) d

      pub start_done : (z : Result KeySize Refusal) → z ≡ ok_or (size_of_key (length key)) KeyLength → (start_told z, held) ≡ start_answer schedule key ch bk
      unfolding start_answer
      start_done z f =
          let t = not_refused (λ (y : ℕ × List ℕ). y.0) (λ q. (q, bk)) (λ q. refl) (0, over (key_book schedule key ch) bk) (build_call_tests schedule key ch bk) build_numbered
          (ap (λ (y : ℕ × List ℕ). y.0) (sym answer_is ∙ built)) in
          let s : z ≡ Ok (key_size key) = f ∙ ap (λ (o : Option KeySize). ok_or o KeyLength) (built_named schedule key ch bk held built).1 in
          (λ i. (start_told (s i), ((e ∙ answer_is ∙ t.1) i).1))
          ∙ sym (first_clear (build_call_tests schedule key ch bk) (λ q. ((q, Bytes16), bk)) ((0, key_size key), over (key_book schedule key ch) bk) t.0)

  -- after it: r is what it gives and held what the buffer then holds
  module _ (held : List ℕ) (r : Result KeySize Refusal) (e : (start_told r, held) ≡ start_answer schedule key ch bk) where
    answer : (ℕ × KeySize) × List ℕ
    answer = first (build_call_tests schedule key ch bk) (λ q. ((q, Bytes16), bk)) ((0, key_size key), over (key_book schedule key ch) bk)

    told : (start_told r, held) ≡ answer
    unfolding start_answer answer
    told = e

    number_of_lem : (n : ℕ × KeySize) → start_told r ≡ n → answer.0.0 ≡ n.0
    number_of_lem n d = ap (λ (y : (ℕ × KeySize) × List ℕ). y.0.0) (sym told) ∙ ap (λ (y : ℕ × KeySize). y.0) d

    pub way_refused : {A : Type 0} (refuse : List ℕ → ℕ → A) (go : A) (q : Refusal) → r ≡ Err q → refuse held (number_of q) ≡ first (build_call_tests schedule key ch bk) (refuse bk) go
    unfolding answer
    way_refused refuse go q d =
        ap (λ (y : (ℕ × KeySize) × List ℕ). refuse y.1 (number_of q)) (told ∙ alike (λ q. ((q, Bytes16), bk)) ((0, key_size key), over (key_book schedule key ch) bk))
        ∙ sym (alike (refuse bk) go)
      where
        alike : {B : Type 0} (other : ℕ → B) (done : B) → first (build_call_tests schedule key ch bk) other done ≡ other (number_of q)
        alike other done =
            refused_alike (λ (y : (ℕ × KeySize) × List ℕ). y.0.0) (λ q. ((q, Bytes16), bk)) (λ q. refl) ((0, key_size key), over (key_book schedule key ch) bk) refl
            other done (build_call_tests schedule key ch bk) q (number_of_lem (number_of q, Bytes16) (ap start_told d))

    module _ (z : KeySize) (d : r ≡ Ok z) where
      clear : Clear (build_call_tests schedule key ch bk) × (answer ≡ ((0, key_size key), over (key_book schedule key ch) bk))
      unfolding answer
      clear =
          not_refused (λ (y : (ℕ × KeySize) × List ℕ). y.0.0) (λ q. ((q, Bytes16), bk)) (λ q. refl) ((0, key_size key), over (key_book schedule key ch) bk)
          (build_call_tests schedule key ch bk) build_numbered (number_of_lem (0, z) (ap start_told d))

      pub way_done : {A : Type 0} (refuse : ℕ → A) (go : A) → first (build_call_tests schedule key ch bk) refuse go ≡ go
      way_done refuse go = first_clear (build_call_tests schedule key ch bk) refuse go clear.0

      pub held_is : held ≡ over (key_book schedule key ch) bk
      held_is = ap (λ (y : (ℕ × KeySize) × List ℕ). y.1) (told ∙ clear.1)

      size_is : z ≡ key_size key
      size_is = ap (λ (y : Result KeySize Refusal). (start_told y).1) (sym d) ∙ ap (λ (y : (ℕ × KeySize) × List ℕ). y.0.1) (told ∙ clear.1)

      pub way_built : Built schedule key ch bk held
      way_built = answer_is ∙ way_done (λ q. (q, bk)) (0, over (key_book schedule key ch) bk) ∙ ap (λ (x : List ℕ). (0, x)) (sym held_is)

      -- what is cut out of chain and buffer
      pub sets_fit : 512 * (rounds z + 1) + 512 ≤ length ch
      sets_fit =
          let w : rounds z ≡ key_rounds key = ap rounds size_is in
          omega (arith, (built_chain schedule key ch bk held way_built).size)

      pub cut_set : take 512 (drop (512 * (rounds z + 1)) ch) ≡ archive_set key ch
      cut_set = ap (λ (n : ℕ). take 512 (drop (512 * n) ch)) (add-one (rounds z) ∙ ap suc (ap rounds size_is))

      pub book_fits : book_length z ≤ length bk
      unfolding chain_tests_by
      book_fits =
          let w : book_length z ≡ book_length (key_size key) = ap book_length size_is in
          omega (arith, ltb-false (length bk) (book_length (key_size key)) clear.0.1.1.1.1.1.1.0)

      pub cut_book : take (book_length z) held ≡ book_in key held
      cut_book = ap (λ (k : ℕ). take k held) (ap book_length size_is)
