-- A session comes back out of its record as it went in, so that a C caller's calls are those of one session.
use mathlib.Core.Path.{◌≡◌, refl, ◌∙◌}
use mathlib.Core.Bool.{Bool, true, false, not}
use mathlib.Core.List.{[], ◌∷◌}
use Prim.Native.Nat.{◌+◌, ◌*◌, ◌/◌, ◌%◌, ◌<◌}
use native.Mathlib.Omega.{arith}
use lib.Dec.{eqb}
use lib.ListN.{length}
use lib.Seq.{take_at}
use Rattle.lists.proofs.ChunkLaws.{get_or_second}
use Rattle.driver.specs.declared.session.Session.{Session}
use Rattle.bowlinette.specs.Session.{session_in, flag_of, record_of}

flag_back : (b : Bool) → not (eqb (flag_of b) 0) ≡ b
flag_back true = refl
flag_back false = refl

pub record_back : (s : Session) → length s.block ≡ 16 → s.taken < 65536 → session_in (record_of s) ≡ s
unfolding session_in record_of
record_back s l h =
    let rest = s.taken % 256 ∷ s.taken / 256 ∷ flag_of s.finished ∷ [] in
    let low = get_or_second s.block rest 16 0 16 l refl in
    let high = get_or_second s.block rest 16 1 17 l refl in
    let end = get_or_second s.block rest 16 2 18 l refl in
    let count : s.taken % 256 + 256 * (s.taken / 256) ≡ s.taken = omega arith in
    (λ i. record { block = take_at s.block rest 16 l i; taken = low i + 256 * high i; finished = not (eqb (end i) 0) })
    ∙ (λ i. record { block = s.block; taken = count i; finished = flag_back s.finished i })
