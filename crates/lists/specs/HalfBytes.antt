-- Half bytes of a number, lowest first. Both definitions recurse from the low end, so each law is one induction.
use Rattle.std.specs.Prelude.{ℕ, zero, suc, ◌+◌, ◌*◌, ◌/◌, ◌%◌}

-- half byte j of w
unfoldable pub half_byte : ℕ → ℕ → ℕ
half_byte w zero = w % 16
half_byte w (suc j) = half_byte (w / 16) j

-- the number whose n half bytes are f 0 to f (n - 1)
unfoldable pub joined : ℕ → (ℕ → ℕ) → ℕ
joined zero f = zero
joined (suc n) f = f zero + joined n (λ j. f (suc j)) * 16
