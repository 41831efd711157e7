-- `build::build` meets its contract.
use Rattle.std.proofs.Common.{ℕ, List, ◌∷◌, sym, ap, ap₂, subst, ◌∙◌, arith}
use borrow.Rule.Slice.PartMut.{mid_len}
use lib.ListN.{set, length-set}
use Rattle.cipher.specs.KeySize.{rounds, book_length}
use Rattle.cipher.specs.Refusal.{outcome_of}
use Rattle.cipher.specs.Chain.{Chain}
use Rattle.cipher.specs.Book.{book_of}
use Rattle.cipher.specs.declared.size.KeySize.{KeySize}
use Rattle.cipher.proofs.PassedLaws.{passed}
use Rattle.cipher.proofs.SchedulesLaws.{key_named, rows_named}
use Rattle.cipher.proofs.CheckLaws.{chain_checked_lem}
use Rattle.book.proofs.AnswerLaws.{built_refused, built_unchained, built_room, built_done}
use Rattle.book.proofs.WholeLaws.{byte_joined}
use Rattle.book.proofs.build.build.Goals as goal

pub returns-in_err-key : goal.returns-in_err-key
returns-in_err-key c =
    ap (λ r. (outcome_of r, c.args.out.now)) (passed c.from_residual.ensures.1) ∙ sym (built_refused _ _ _ _ _ _ _ _ _ c.in_err-key.ensures)

pub returns-in_err-check_sized : goal.returns-in_err-check_sized
returns-in_err-check_sized c =
    ap (λ r. (outcome_of r, c.args.out.now)) (passed c.from_residual-in_err-check_sized.ensures.1)
    ∙ sym (built_unchained _ _ _ _ _ _ _ _ _ _ (key_named _ _ c.in_ok-key.ensures) _ c.in_err-check_sized.ensures)

pub returns-then-out-end : goal.returns-then-out-end
returns-then-out-end c =
    let b = c.book_len-end.ensures in
    let valid = chain_checked_lem _ _ (sym c.in_ok-check_sized.ensures) in
    sym (built_room _ _ _ _ _ _ _ _ _ _ (key_named _ _ c.in_ok-key.ensures) valid (omega arith))

pub fill-requires : goal.fill-requires
fill-requires c =
    let out = set c.args.out.now 0 c.key_len.result in
    let l = length-set c.args.out.now 0 c.key_len.result in
    let b = c.book_len-end.ensures in
    let same = c.round_keys.ensures.size in (
      subst (λ (z : KeySize). Chain z c.args.chain.now) (sym same) (chain_checked_lem _ _ (sym c.in_ok-check_sized.ensures)),
      mid_len 1 c.book_len-end.result out (omega (arith, c.if-out-end.false)) ∙ (omega (arith, ap rounds same)),
    )

pub returns : goal.returns
returns c =
    let b = c.book_len-end.ensures in
    let keys = c.round_keys.ensures in
    ap (λ (l : List ℕ). (0, l)) (byte_joined c.key_len.result c.fill.new.out c.args.out.now c.book_len-end.result (book_length c.in_ok-key.key.size) b (omega arith) (omega arith))
    ∙ built_done _ _ _ _ _ _ _ _ _ _ (key_named _ _ c.in_ok-key.ensures) (chain_checked_lem _ _ (sym c.in_ok-check_sized.ensures))
    (omega arith) _
    (ap₂ {C = List ℕ} (λ (k : ℕ) (l : List ℕ). k ∷ l) c.key_len.ensures
    (c.fill.ensures ∙ (λ i. book_of (rounds (keys.size i)) ((rows_named _ _ c.in_ok-key.ensures keys.rows) i) c.args.chain.now)))
