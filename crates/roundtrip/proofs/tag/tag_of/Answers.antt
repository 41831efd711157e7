-- `tag::tag_of` meets its contract.
use Rattle.std.proofs.Common.{ℕ, List, Result, sym, ap, ◌∙◌}
use Rattle.std.specs.Result.{result_unwrap_or}
use Rattle.cipher.specs.declared.refusal.Refusal.{Refusal}
use Rattle.driver.specs.Driver.{tag_told}
use Rattle.driver.specs.declared.session.Session.{Session}
use Rattle.roundtrip.proofs.TagRoundtrip.{begun, tag_made}
use Rattle.roundtrip.proofs.tag.tag_of.Goals as goal

pub returns-in_default : goal.returns-in_default
returns-in_default c =
    let a = c.args in
    let s = c.call_blocks-s.result in
    tag_made a.book.now a.coded.now a.kind c.unwrap_or-fresh.result s c.last_call.result _
    (c.unwrap_or-fresh.ensures ∙ ap (result_unwrap_or c.begin.result) c.spent.ensures ∙ begun a.book.now c.begin.result c.begin.ensures.first)
    c.call_blocks-s.ensures c.last_call.ensures (ap (λ (r : Result (List ℕ × Session) Refusal). (tag_told r s).0.1) (sym c.in_default.is))

pub returns : goal.returns
returns c =
    let a = c.args in
    let s = c.call_blocks-s.result in
    tag_made a.book.now a.coded.now a.kind c.unwrap_or-fresh.result s c.last_call.result _
    (c.unwrap_or-fresh.ensures ∙ ap (result_unwrap_or c.begin.result) c.spent.ensures ∙ begun a.book.now c.begin.result c.begin.ensures.first)
    c.call_blocks-s.ensures c.last_call.ensures (ap (λ (r : Result (List ℕ × Session) Refusal). (tag_told r s).0.1) (sym c.in-Ok.is))
