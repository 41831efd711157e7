-- `schedules::lea_rows` meets its contract.
use Rattle.std.proofs.Common.{sym, ap, ◌∙◌}
use Rattle.cipher.specs.KeySize.{key_length}
use Rattle.cipher.specs.Schedules as S
use Rattle.cipher.specs.declared.size.KeySize.{KeySize}
use Rattle.cipher.proofs.schedules.lea_rows.Goals as goal

pub schedule16-requires : goal.schedule16-requires
schedule16-requires c = c.requires ∙ ap key_length c.in-Bytes16.is

pub schedule24-requires : goal.schedule24-requires
schedule24-requires c = c.requires ∙ ap key_length c.in-Bytes24.is

pub schedule32-requires : goal.schedule32-requires
schedule32-requires c = c.requires ∙ ap key_length c.in-Bytes32.is

pub returns-in-Bytes16 : goal.returns-in-Bytes16
unfolding S.schedule
returns-in-Bytes16 c =
    let a = c.args in
    c.schedule16.ensures ∙ sym (ap (λ (z : KeySize). S.schedule z a.key.now) c.in-Bytes16.is)

pub returns-in-Bytes24 : goal.returns-in-Bytes24
unfolding S.schedule
returns-in-Bytes24 c =
    let a = c.args in
    c.schedule24.ensures ∙ sym (ap (λ (z : KeySize). S.schedule z a.key.now) c.in-Bytes24.is)

pub returns-in-Bytes32 : goal.returns-in-Bytes32
unfolding S.schedule
returns-in-Bytes32 c =
    let a = c.args in
    c.schedule32.ensures ∙ sym (ap (λ (z : KeySize). S.schedule z a.key.now) c.in-Bytes32.is)
