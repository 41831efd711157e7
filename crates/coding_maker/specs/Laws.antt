-- What is claimed of codings from random bytes (document 02, 2026-03): each is a permutation, and every permutation comes out.
use Rattle.std.specs.Prelude.{◌≡◌, List, ◌++◌, ℕ, length, get_or}
use Rattle.lists.specs.Blocks.{Bytes}
use Rattle.cipher.specs.Lengths.{coding_length}
use Rattle.cipher.specs.Coding.{Permutation}
use Rattle.coding_maker.specs.Draw.{coding_from, coding_draws}

-- x comes out of some bytes, all of which are drawn, whatever stands behind them: `draws` counts, and `make` makes of bytes
pub record ComesOut (draws : List ℕ → ℕ) (make : List ℕ → List ℕ) (x : List ℕ) : Type 0 where
  pub from : List ℕ
  pub bytes : Bytes from
  pub all : (more : List ℕ) → draws (from ++ more) ≡ length from
  pub made : (more : List ℕ) → make (from ++ more) ≡ x

-- a permutation of 0 to 15, in 16 bytes
pub record IsCoding (x : List ℕ) : Type 0 where
  pub size : length x ≡ coding_length
  pub permutes : Permutation (λ v. get_or x v 0)

pub record CodingLaws : Type 0 where
  pub coding : (random : List ℕ) → IsCoding (coding_from random)
  pub every_coding : (x : List ℕ) → IsCoding x → ComesOut coding_draws coding_from x
