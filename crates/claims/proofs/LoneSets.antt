-- The message set and set r of a valid chain, cut out of it, are valid lone sets, and code and decode as in their places.
use mathlib.Core.Path.{◌≡◌}
use mathlib.Core.List.{List}
use Prim.Native.Nat.{ℕ, suc, ◌*◌}
use native.Mathlib.Nat.{le_refl}
use native.Mathlib.Omega.{arith}
use lib.ListN.{drop, length-drop}
use Rattle.cipher.specs.Coding.{set_of, coded, decoded}
use Rattle.cipher.specs.Chain.{message_set, chain_set, Chain, LoneSet}
use Rattle.cipher.specs.Lengths.{set_length}
use Rattle.cipher.specs.Answers.{key_size}
use Rattle.cipher.proofs.CodingLaws.{coded_agree, decoded_agree}
use Rattle.cipher.proofs.ChainTests.{lone_agree, lone_set}
use Rattle.claims.specs.Built.{key_rounds, pad_set, archive_set}

module _ (key ch : List ℕ) (v : Chain (key_size key) ch) where
  abbrev after : List ℕ
  after = drop (set_length * suc (key_rounds key)) ch

  pub pad_set_lem : LoneSet (pad_set ch)
  pad_set_lem = lone_set ch (omega (arith, v.size)) v.codings.message

  pub archive_set_lem : LoneSet (archive_set key ch)
  archive_set_lem = lone_set after (omega (arith, v.size, length-drop (set_length * suc (key_rounds key)) ch)) (v.codings.sets (key_rounds key) (le_refl (key_rounds key)))

  pub pad_coded : coded (set_of (pad_set ch)) ≡ coded (message_set ch)
  pad_coded = coded_agree (set_of (pad_set ch)) (message_set ch) (lone_agree ch)

  pub archive_decoded : decoded (set_of (archive_set key ch)) ≡ decoded (chain_set ch (key_rounds key))
  archive_decoded = decoded_agree (set_of (archive_set key ch)) (chain_set ch (key_rounds key)) (lone_agree after)
