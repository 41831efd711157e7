-- Chains of codings (document 01, "Chain of codings", its second paragraph; chain, message set, middle coding and mask are
-- its terms): where everything stands in the bytes of a chain of r rounds, when a chain is valid, and the tests of the
-- refusals 2 to 5 ("Refusals from the input").
use Rattle.std.specs.Prelude.{◌≡◌, ℕ, zero, suc, ◌+◌, ◌*◌, ◌%◌, ◌<◌, ◌≤◌, Bool, not, ◌&&◌, ltb, List, [], ◌∷◌, length, drop, ◌==◌, nat_eq, nat_lt, slice_index}
use Rattle.lists.specs.Every.{every}
use Rattle.cipher.specs.KeySize.{rounds, chain_length}
use Rattle.cipher.specs.Lengths.{set_length, word_length, middles_length, round_codings_length}
use Rattle.cipher.specs.Coding.{Permutation, Permutations, Set, SameWord, coding_at, set_of}
use Rattle.cipher.specs.Tables.{RoundCodings}
use Rattle.cipher.specs.declared.size.KeySize.{KeySize}

-- ---- where everything stands

-- in front the message set U, after it the sets 0 to r
abbrev pub message_set : List ℕ → Set
message_set ch = set_of ch

abbrev pub chain_set : List ℕ → ℕ → Set
chain_set ch l = set_of (drop (set_length * suc l) ch)

-- after the sets, the bytes for each round; the chain from those of round l on
abbrev pub round_bytes : ℕ → List ℕ → ℕ → List ℕ
round_bytes r ch l = drop (set_length * (r + 2) + round_codings_length * l) ch

-- of them 24 codings of 16 bytes: the middle codings G, that of half byte j of sum i at place 8i + j
abbrev pub middle_set : ℕ → List ℕ → ℕ → Set
middle_set r ch l = set_of (round_bytes r ch l)

-- and 24 masks, a byte each. Of the bytes s for a round: the mask at place k
abbrev pub mask_byte : List ℕ → ℕ → ℕ
mask_byte s k = slice_index s (middles_length + k)

-- the mask of the carry into half byte j of sum i, at place 8i + j; the carry into half byte 0 has none, whatever stands there
abbrev pub mask_into : List ℕ → ℕ → ℕ → ℕ
mask_into s i zero = 0
mask_into s i (suc j) = mask_byte s (8 * i + suc j)

-- the mask of the carry out of half byte j of sum i: that of the next half byte, and for the top one that at place 8i (02, 2026-06)
abbrev pub mask_out_of : List ℕ → ℕ → ℕ → ℕ
mask_out_of s i j = mask_byte s (8 * i + suc j % 8)

-- the same of the chain's round l
abbrev pub mask_at : ℕ → List ℕ → ℕ → ℕ → ℕ
mask_at r ch l k = mask_byte (round_bytes r ch l) k

abbrev pub mask_in : ℕ → List ℕ → ℕ → ℕ → ℕ → ℕ
mask_in r ch l i j = mask_into (round_bytes r ch l) i j

abbrev pub mask_out : ℕ → List ℕ → ℕ → ℕ → ℕ → ℕ
mask_out r ch l i j = mask_out_of (round_bytes r ch l) i j

-- all that the tables of round l are built from
unfoldable pub round_codings : ℕ → List ℕ → ℕ → RoundCodings
round_codings r ch l = record {
  before = chain_set ch l;
  after = chain_set ch (suc l);
  middle = middle_set r ch l;
  mask_in = mask_in r ch l;
  mask_out = mask_out r ch l;
}

-- ---- valid chains

-- every coding of the chain permutes 0 to 15
pub record CodingRule (r : ℕ) (ch : List ℕ) : Type 0 where
  pub message : Permutations (message_set ch)
  pub sets : (l : ℕ) → l ≤ r → Permutations (chain_set ch l)
  pub middles : (l i j : ℕ) → l < r → i < 3 → j < 8 → Permutation (middle_set r ch l i j)

-- after each round, word `to` is coded as word `from` was before it
abbrev pub SameWords : ℕ → ℕ → ℕ → List ℕ → Type 0
SameWords from to r ch = (l : ℕ) → l < r → SameWord from to (chain_set ch l) (chain_set ch (suc l))

-- masks are bits (02, 2026-06: those at j = 0 too)
abbrev pub MaskRule : ℕ → List ℕ → Type 0
MaskRule r ch = (l k : ℕ) → l < r → k < 24 → mask_at r ch l k < 2

-- a chain for a key of size z that is valid with the word rule that goes from one word to another
pub record ChainBy (from to : ℕ) (z : KeySize) (ch : List ℕ) : Type 0 where
  pub size : length ch ≡ chain_length z
  pub codings : CodingRule (rounds z) ch
  pub words : SameWords from to (rounds z) ch
  pub masks : MaskRule (rounds z) ch

-- a valid chain: its word rule is the word 3 rule, that word 3 is coded as word 0 was
abbrev pub Chain : KeySize → List ℕ → Type 0
Chain z ch = ChainBy 0 3 z ch

-- a valid set that comes alone
pub record LoneSet (s : List ℕ) : Type 0 where
  pub size : length s ≡ set_length
  pub codings : Permutations (set_of s)

-- ---- the same rules as tests

-- each of the n values of f is below m and differs from all before it
unfoldable pub is_one_to_one : ℕ → ℕ → (ℕ → ℕ) → Bool
is_one_to_one n m f = every n (λ i. nat_lt (f i) m && every i (λ k. not (f k == f i)))

-- the first n codings in s are permutations
unfoldable pub are_permutations : ℕ → List ℕ → Bool
are_permutations n s = every n (λ k. is_one_to_one 16 16 (coding_at s k))

-- the codings of U and the sets 0 to r, which lie one after another, and those of each round
unfoldable pub coding_rule_holds : ℕ → List ℕ → Bool
coding_rule_holds r ch = are_permutations (32 * (r + 2)) ch && every r (λ l. are_permutations 24 (round_bytes r ch l))

-- word `to` of the set in `after` is coded as word `from` of the one in `before`: a word has eight codings
abbrev pub word_kept : ℕ → ℕ → List ℕ → List ℕ → Bool
word_kept from to before after = every word_length (λ k. nat_eq (slice_index after (word_length * to + k)) (slice_index before (word_length * from + k)))

-- the same between each set of a chain of r rounds and the next
unfoldable pub words_kept : ℕ → ℕ → ℕ → List ℕ → Bool
words_kept from to r ch = every r (λ l. word_kept from to (drop (set_length * suc l) ch) (drop (set_length * suc (suc l)) ch))

-- the masks of a round, whose bytes s begins with (02, 2026-06: one bound for all)
abbrev pub masks_hold : List ℕ → Bool
masks_hold s = every 24 (λ k. ltb (mask_byte s k) 2)

unfoldable pub mask_rule_holds : ℕ → List ℕ → Bool
mask_rule_holds r ch = every r (λ l. masks_hold (round_bytes r ch l))

-- ---- the refusals 2 and 3 of a set that comes alone, and 2 to 5 of a chain for a key of size z, with any word rule and with its own

unfoldable pub set_tests : List ℕ → List (Bool × ℕ)
set_tests s = (not (length s == set_length), 2) ∷ (not (are_permutations 32 s), 3) ∷ []

unfoldable pub chain_tests_by : ℕ → ℕ → KeySize → List ℕ → List (Bool × ℕ)
chain_tests_by from to z ch =
    (not (length ch == chain_length z), 2)
    ∷ (not (coding_rule_holds (rounds z) ch), 3)
    ∷ (not (words_kept from to (rounds z) ch), 4)
    ∷ (not (mask_rule_holds (rounds z) ch), 5)
    ∷ []

abbrev pub chain_tests : KeySize → List ℕ → List (Bool × ℕ)
chain_tests z ch = chain_tests_by 0 3 z ch
