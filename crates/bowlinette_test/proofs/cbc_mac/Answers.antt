-- `cbc_mac` meets its contract.
use mathlib.Core.Path.{sym, ap, ◌∙◌}
use mathlib.Core.List.{List, []}
use Prim.Native.Nat.{ℕ}
use Rattle.lists.specs.Blocks.{zeros, blocks}
use Rattle.lists.specs.Refusals.{first}
use Rattle.lists.proofs.BlockLaws.{block_zeros}
use Rattle.cipher.specs.KeySize.{rounds}
use Rattle.words.specs.Word.{bytes}
use Rattle.cipher.specs.Lea as L
use Rattle.cipher.specs.Answers.{block_told}
use Rattle.cipher.specs.Cmac.{cbc_mac}
use Rattle.cipher.specs.declared.size.KeySize.{KeySize}
use Rattle.cipher.specs.declared.schedules.Schedule.{Schedule}
use Rattle.cipher.proofs.PassedLaws.{passed}
use Rattle.cipher.proofs.LeaLaws.{bytes_words}
use Rattle.cipher.proofs.CbcMacLaws.{mac_block}
use Rattle.cipher.proofs.SchedulesLaws.{key_named, rows_named}
use Rattle.cipher.proofs.AnswerLaws.{kind_refused, key_taken}
use Rattle.bowlinette_test.proofs.cbc_mac.Goals as goal

-- the CBC-MAC under a key of size z, by the schedule k
abbrev mac_of : List ℕ → List ℕ → Schedule → KeySize → ℕ × List ℕ
mac_of key text k z = (0, cbc_mac (L.encipher k z key) zeros (blocks text))

pub returns-in_err-key : goal.returns-in_err-key
returns-in_err-key c =
    let a = c.args in
    ap block_told (passed c.from_residual.ensures.1)
    ∙ sym (kind_refused a.schedule a.key.now (λ k z. []) (λ n. (n, zeros)) (mac_of a.key.now a.text.now) _ c.in_err-key.ensures)

pub returns : goal.returns
unfolding blocks first
returns c =
    let a = c.args in
    let bs = blocks a.text.now in
    let keys = c.round_keys-keys.ensures in
    let known = key_named _ _ c.in_ok-key.ensures in
    let value = c.bytes.ensures
    ∙ ap bytes c.cbc_mac-x.ensures
    ∙ bytes_words (mac_block _ _ zeros bs block_zeros)
    ∙ (λ i. cbc_mac (L.first_rounds ((rows_named _ _ c.in_ok-key.ensures keys.rows) i) (rounds (keys.size i))) zeros bs) in
    ap (λ (b : List ℕ). (0, b)) value ∙ sym (key_taken a.schedule a.key.now (λ k z. []) (λ n. (n, zeros)) (mac_of a.key.now a.text.now) _ _ known)
