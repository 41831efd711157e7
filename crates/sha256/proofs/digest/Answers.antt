-- `digest` meets its contract.
use Rattle.std.proofs.Common.{List, ℕ, ap, ◌∙◌, rules}
use Rattle.lists.specs.Tabulation.{tab}
use Rattle.lists.proofs.FromFnLaws.{tab_from_fn}
use Rattle.sha256.proofs.DigestLaws.{byte_of, sha256_tab}
use Rattle.sha256.proofs.digest.Goals as goal

pub returns : goal.returns
returns c =
    tab_from_fn _ _ _ (byte_of c.hash-h.result) 32 (λ i y q b w. search rules) c.from_fn.ensures.items
    ∙ ap (λ (h : List ℕ). tab 32 (byte_of h)) c.hash-h.ensures
    ∙ sha256_tab _
