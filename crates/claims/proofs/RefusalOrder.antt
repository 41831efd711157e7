-- Lowest number first: the tests of each operation follow the one order of refusals (specs/Order), as their numbers show.
use mathlib.Core.Path.{◌≡◌, refl}
use mathlib.Core.Bool.{Bool, true}
use mathlib.Core.List.{List}
use Prim.Native.Nat.{ℕ}
use Rattle.lists.specs.Refusals.{stands_in, stands_before, none_before, follows}
use Rattle.lists.proofs.OrderLaws.{goes_by}
use Rattle.cipher.specs.KeySize.{book_length}
use Rattle.cipher.specs.Lengths.{round_length}
use Rattle.cipher.specs.Refusal.{refusal_order}
use Rattle.cipher.specs.Chain.{set_tests, chain_tests_by}
use Rattle.cipher.specs.Answers.{key_tests, key_block_tests, chain_check_tests}
use Rattle.book.specs.Answers.{build_tests, build_tests_by}
use Rattle.reading.specs.Book.{reading_book_length}
use Rattle.reading_book.specs.Answers.{reading_chain_check_tests}
use Rattle.reader.specs.Answers.{read_tests}
use Rattle.pad.specs.Answers.{coding_tests}
use Rattle.driver.specs.Driver.{book_tests, run_round_tests, run_rounds_tests, seal_tests, block_call_tests, last_call_tests}
use Rattle.archive.specs.Archive.{all_open_tests, check_tests}
use Rattle.inkfile.specs.Reading.{record_tests}
use Rattle.maker.specs.Answers.{make_tests, make_reading_tests}
use Rattle.claims.specs.Model.{Call, block_call, last_call, State, refusals}
use Rattle.claims.specs.Order.{InOrder, field_tests, Order}

in_order : (ts : List (Bool × ℕ)) → follows refusal_order ts ≡ true → InOrder ts
in_order ts f = goes_by refusal_order ts f

model_order : (c : Call) (s : State) → follows refusal_order (refusals c s) ≡ true
unfolding follows stands_in stands_before none_before refusals
model_order (block_call m) s = refl
model_order (last_call m k) s = refl

pub order : Order
unfolding follows stands_in stands_before none_before set_tests chain_tests_by coding_tests record_tests make_tests make_reading_tests
order = record {
  on_block = λ schedule key b. in_order (key_block_tests schedule key b) refl;
  round_keys = λ schedule key. in_order (key_tests schedule key) refl;
  check_set = λ s. in_order (set_tests s) refl;
  check_chain = λ n ch. in_order (chain_check_tests n ch) refl;
  making = λ n random out. in_order (make_tests n random out) refl;
  making_reading = λ n set random out. in_order (make_reading_tests n set random out) refl;
  building = λ schedule key ch out. in_order (build_tests schedule key ch out book_length) refl;
  build_round = λ schedule key ch out. in_order (build_tests schedule key ch out (λ z. round_length)) refl;
  check_reading_chain = λ n ch. in_order (reading_chain_check_tests n ch) refl;
  building_reading = λ schedule key ch out. in_order (build_tests_by 3 0 schedule key ch out reading_book_length) refl;
  reading = λ bk iv sealed out. in_order (read_tests bk iv sealed out) refl;
  ink_record = λ file k at. in_order (record_tests file k at) refl;
  ink_field = λ k kind n length out. in_order (field_tests k kind n length out) refl;
  code = λ u n total room. in_order (coding_tests u n total room) refl;
  run_round = λ t b. in_order (run_round_tests t b) refl;
  run_rounds = λ bk b. in_order (run_rounds_tests bk b) refl;
  sealing = λ bk iv coded out. in_order (seal_tests bk iv coded out) refl;
  beginning = λ bk. in_order (book_tests bk) refl;
  at_block_call = λ bk m s. in_order (block_call_tests bk m s) refl;
  at_last_call = λ bk m k s. in_order (last_call_tests bk m k s) refl;
  opening = λ schedule key set iv sealed out. in_order (all_open_tests schedule key set iv sealed out) refl;
  checking = λ schedule key set message tag. in_order (check_tests schedule key set message tag) refl;
  model = λ c s. in_order (refusals c s) (model_order c s);
}
