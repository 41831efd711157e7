-- What the tests' call for SHA-256 answers: refusal 8 of a message over 55 bytes, which has more than one block, or the digest.
use Rattle.std.specs.Prelude.{List, [], ◌∷◌, ℕ, ltb, length, replicate}
use Rattle.lists.specs.Refusals.{first}
use Rattle.sha256.specs.Sha256.{sha256}

unfoldable pub sha256_answer : List ℕ → ℕ × List ℕ
sha256_answer m = first ((ltb 55 (length m), 8) ∷ []) (λ n. (n, replicate 32 0)) (0, sha256 m)
