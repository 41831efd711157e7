-- A chain put together from its parts, and what these must be for it to be valid.
use Rattle.std.specs.Prelude.{ℕ, suc, ◌<◌, ◌≤◌, List, ◌++◌}
use Rattle.lists.specs.Tabulation.{tab, chunks, tables}
use Rattle.cipher.specs.Lengths.{coding_length}
use Rattle.cipher.specs.Coding.{Permutation, Permutations, Set, SameWord}

-- the bytes of a set
unfoldable pub set_bytes : Set → List ℕ
set_bytes S = tables 32 coding_length S

-- the bytes for a round: its middle codings G, then its masks, that at place k being m k
unfoldable pub coding_bytes : Set → (ℕ → ℕ) → List ℕ
coding_bytes G m = tables 24 coding_length G ++ tab 24 m

-- the chain of r rounds with the message set U, the sets S l, and for round l the middle codings G l and the masks M l
unfoldable pub chain_from : ℕ → Set → (ℕ → Set) → (ℕ → Set) → (ℕ → ℕ → ℕ) → List ℕ
chain_from r U S G M = set_bytes U ++ (chunks (suc r) (λ l. set_bytes (S l)) ++ chunks r (λ l. coding_bytes (G l) (M l)))

-- what the parts of a chain are that is valid with the word rule that goes from one word to another
pub record ValidParts (from to r : ℕ) (U : Set) (S G : ℕ → Set) (M : ℕ → ℕ → ℕ) : Type 0 where
  pub message : Permutations U
  pub sets : (l : ℕ) → l ≤ r → Permutations (S l)
  pub middles : (l i j : ℕ) → l < r → i < 3 → j < 8 → Permutation (G l i j)
  pub words : (l : ℕ) → l < r → SameWord from to (S l) (S (suc l))
  pub bits : (l k : ℕ) → l < r → k < 24 → M l k < 2
