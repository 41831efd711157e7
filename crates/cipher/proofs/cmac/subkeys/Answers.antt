-- `cmac::subkeys` meets its contract.
use Rattle.std.proofs.Common.{sym, ap, ◌∙◌}
use Rattle.cipher.specs.KeySize.{rounds}
use Rattle.words.specs.Word.{bytes}
use Rattle.cipher.specs.Lea as L
use Rattle.cipher.specs.Cmac as C
use Rattle.cipher.proofs.LeaLaws.{words_zeros}
use Rattle.cipher.proofs.cmac.subkeys.Goals as goal

pub returns : goal.returns
unfolding L.first_rounds C.subkey1 C.subkey2
returns c =
    let k = c.args.keys in
    let lea = c.encipher.ensures ∙ ap (L.forward k.rows (rounds k.size)) (sym words_zeros) in
    let first = c.double-k1.ensures ∙ ap C.double (c.bytes-l.ensures ∙ ap bytes lea) in
    record { k1 = first; k2 = c.double-k2.ensures ∙ ap C.double first }
