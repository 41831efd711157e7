-- The tag of a message and its check under the same key and set r (document 01, demand 3 and "The model session of demand 3").
use Rattle.std.specs.Prelude.{◌≡◌, List, [], ◌∷◌, ℕ}
use Rattle.lists.specs.Blocks.{Block}
use Rattle.archive.specs.Archive.{check_answer}
use Rattle.claims.specs.Model.{Answer}
use Rattle.claims.specs.Calls.{tags_of}

-- among the answers is exactly one tag; with the key and the set s, checking says Valid to it for the message m, and Invalid to
-- every other 16 bytes
pub record OneTag (schedule : ℕ) (key s m : List ℕ) (answers : List Answer) : Type 0 where
  pub the_tag : List ℕ
  pub one : tags_of answers ≡ the_tag ∷ []
  pub valid : check_answer schedule key s m the_tag ≡ (0, 1)
  pub others : (t : List ℕ) → Block t → (t ≡ the_tag → ⊥) → check_answer schedule key s m t ≡ (0, 0)
