-- A valid reading chain gives what each reading round asks.
use mathlib.Core.List.{List}
use Prim.Native.Nat.{ℕ, ◌<◌}
use Rattle.cipher.specs.KeySize.{rounds}
use Rattle.cipher.specs.Chain.{round_codings}
use Rattle.cipher.specs.declared.size.KeySize.{KeySize}
use Rattle.cipher.proofs.ChainTests.{valid_codings}
use Rattle.reading.specs.Chain.{ReadingChain}
use Rattle.reading.specs.Tables.{ValidReadingRound}

pub valid_reading : (z : KeySize) (ch : List ℕ) → ReadingChain z ch → (l : ℕ) → l < rounds z → ValidReadingRound (round_codings (rounds z) ch l)
valid_reading z ch v l h = record {
  codings = valid_codings (rounds z) ch v.codings v.masks l h;
  word0 = unfold round_codings in v.words l h;
}
