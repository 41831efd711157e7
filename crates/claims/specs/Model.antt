-- The model session (document 01, "The model session of demand 3"). It has the cipher under the key, the message set U and set r,
-- and neither the book nor the driver's session (01's terms).
use Rattle.std.specs.Prelude.{Bool, true, false, not, List, [], ◌∷◌, ℕ, zero, suc, eqb, leb, ltb, length}
use Rattle.lists.specs.Blocks.{zeros, xor_block, block_length}
use Rattle.lists.specs.Refusals.{first}
use Rattle.cipher.specs.Cmac.{subkey1, subkey2}
use Rattle.cipher.specs.Coding.{Set, coded, decoded}

-- a call of a session: with a block, or, as its last one, with a block and a kind (01's term). The bytes are any, of any length
pub data Call : Type 0 where
  block_call : List ℕ → Call
  last_call : List ℕ → ℕ → Call

-- what a call is answered: that it was taken, a tag, or the number of a refusal
pub data Answer : Type 0 where
  accepted : Answer
  tag : List ℕ → Answer
  refused : ℕ → Answer

-- what the model holds: the block X of document 01, how many block calls it has taken, and whether it has finished
pub record State : Type 0 where
  pub held : List ℕ
  pub taken : ℕ
  pub ended : Bool

-- the model before any call
abbrev pub begun : State
begun = record { held = zeros; taken = 0; ended = false }

-- the refusals that a call can meet ("Refusals from the input" and "from the state"), judged by the model's own count and end: 7
-- for a block of another length, 10 for a kind above 1, 21 where the model has finished, 22 for one block call too many
unfoldable pub refusals : Call → State → List (Bool × ℕ)
refusals (block_call m) s = (not (eqb (length m) block_length), 7) ∷ (s.ended, 21) ∷ (leb 65535 s.taken, 22) ∷ []
refusals (last_call m k) s = (not (eqb (length m) block_length), 7) ∷ (ltb 1 k, 10) ∷ (s.ended, 21) ∷ []

-- the subkey of the last block: K1 for kind 0, K2 for kind 1
unfoldable pub kind_key : (List ℕ → List ℕ) → ℕ → List ℕ
kind_key cipher zero = subkey1 cipher
kind_key cipher (suc k) = subkey2 cipher

-- after a block call: the block, decoded by U, is xored into X and the result enciphered; the count is one more
unfoldable pub block_taken : (List ℕ → List ℕ) → Set → List ℕ → State → State
block_taken cipher U m s = record { held = cipher (xor_block s.held (decoded U m)); taken = suc s.taken; ended = s.ended }

-- the tag of a last call: the same with the subkey xored in, coded by set r. The model has then finished
unfoldable pub tag_of : (List ℕ → List ℕ) → Set → Set → List ℕ → ℕ → State → List ℕ
tag_of cipher U S m k s = coded S (cipher (xor_block (xor_block s.held (decoded U m)) (kind_key cipher k)))

abbrev pub last_taken : State → State
last_taken s = record { held = s.held; taken = s.taken; ended = true }

-- a call on the model: its answer and the state after it. A refused call leaves the state as it is; one that meets no refusal is
-- taken
unfoldable pub model_call : (List ℕ → List ℕ) → Set → Set → Call → State → Answer × State
model_call cipher U S (block_call m) s = first (refusals (block_call m) s) (λ q. (refused q, s)) (accepted, block_taken cipher U m s)
model_call cipher U S (last_call m k) s = first (refusals (last_call m k) s) (λ q. (refused q, s)) (tag (tag_of cipher U S m k s), last_taken s)
