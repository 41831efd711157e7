-- `session::record_of` meets its contract.
use mir.Val.{bool_byte}
use Rattle.std.proofs.Common.{◌≡◌, ◌%◌, ◌/◌, Bool, true, false, [], ◌∷◌, ◌++◌, get_or, refl, ◌∙◌, arith}
use Rattle.bowlinette.specs.Session.{record_of, flag_of}
use Rattle.bowlinette.proofs.session.record_of.Goals as goal

flag_is : (b : Bool) → bool_byte b ≡ flag_of b
flag_is true = refl
flag_is false = refl

pub returns : goal.returns
unfolding record_of
returns c =
    let s = c.args.s in
    let bytes = c.to_le_bytes-taken.ensures in
    let flag = c.from.ensures ∙ flag_is s.finished in
    let high : s.taken / 256 % 256 ≡ s.taken / 256 = omega arith in
    (λ i. c.copy_from_slice.ensures.after i ++ (get_or (bytes i) 0 0 ∷ get_or (bytes i) 1 0 ∷ flag i ∷ []))
    ∙ (λ i. s.block ++ (s.taken % 256 ∷ high i ∷ flag_of s.finished ∷ []))
