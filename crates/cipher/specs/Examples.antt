-- What examples by hand are told with (document 01, "Table of examples"): a round of identity codings, its masks, and indices of tables.
use Rattle.std.specs.Prelude.{ℕ, ◌+◌, ◌*◌, cond, ◌==◌}
use Rattle.cipher.specs.Coding.{Set}
use Rattle.cipher.specs.Tables.{RoundCodings}
use Rattle.cipher.specs.Chain.{mask_into, mask_out_of}
use Rattle.cipher.specs.ChainParts.{coding_bytes}

-- every coding leaves every number as it is
abbrev pub unchanged : Set
unchanged w j v = v

-- a round with such codings, and with the mask m k at place k = 8i + j
abbrev pub identity_round : (ℕ → ℕ) → RoundCodings
identity_round m = record {
  before = unchanged;
  after = unchanged;
  middle = unchanged;
  mask_in = mask_into (coding_bytes unchanged m);
  mask_out = mask_out_of (coding_bytes unchanged m);
}

-- no mask set, and only the one at place p
abbrev pub none : ℕ → ℕ
none k = 0

abbrev pub only : ℕ → ℕ → ℕ
only p k = cond (k == p) 1 0

-- the index of (c, p, q), and of (p, q)
abbrev pub triple : ℕ → ℕ → ℕ → ℕ
triple c p q = 256 * c + 16 * p + q

abbrev pub pair : ℕ → ℕ → ℕ
pair p q = 16 * p + q
