-- `bowlinette_sha256` meets its contract.
use mathlib.Core.Path.{sym, ap, ◌∙◌}
use mathlib.Core.List.{List, []}
use Prim.Native.Nat.{ℕ}
use borrow.Author.Tests.{lt-ltb, le-ltb}
use lib.Dec.{ltb}
use lib.ListN.{length, replicate}
use Rattle.lists.specs.Refusals.{first}
use Rattle.lists.proofs.RefusalLaws.{first_hit, first_pass}
use Rattle.sha256.specs.Sha256.{sha256}
use Rattle.bowlinette.specs.Into.{into}
use Rattle.bowlinette_test.specs.Digest.{sha256_answer}
use Rattle.bowlinette_test.proofs.bowlinette_sha256.Goals as goal

pub returns-then-message-gt-ONE_BLOCK : goal.returns-then-message-gt-ONE_BLOCK
unfolding sha256_answer
returns-then-message-gt-ONE_BLOCK c =
    let a = c.args in
    let m = a.message.now in
    let e = first_hit {A = ℕ × List ℕ} (ltb 55 (length m)) 8 [] (λ n. (n, replicate 32 0)) (0, sha256 m) (lt-ltb 55 (length m) c.if-message-gt-ONE_BLOCK.true) in
    (λ i. (c.into.ensures i, a.out.now)) ∙ sym (ap (λ (t : ℕ × List ℕ). into t a.out.now) e)

pub returns : goal.returns
unfolding sha256_answer first
returns c =
    let a = c.args in
    let m = a.message.now in
    let e = first_pass {A = ℕ × List ℕ} (ltb 55 (length m)) 8 [] (λ n. (n, replicate 32 0)) (0, sha256 m) (le-ltb 55 (length m) c.if-message-gt-ONE_BLOCK.false) in
    (λ i. (0, c.digest-d.ensures i)) ∙ sym (ap (λ (t : ℕ × List ℕ). into t a.out.now) e)
