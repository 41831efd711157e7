-- Parts that are drawn one after another from the same bytes (document 02, 2026-03: first U, then the sets, then the rounds).
use Rattle.std.specs.Prelude.{List, ℕ, zero, suc, ◌+◌, drop}

-- how many bytes the parts before part n draw, where part k draws u k of what is left
unfoldable pub begins : (ℕ → List ℕ → ℕ) → ℕ → List ℕ → ℕ
begins u zero s = zero
begins u (suc n) s = begins u n s + u n (drop (begins u n s) s)

-- the bytes that are left for part n
abbrev pub left : (ℕ → List ℕ → ℕ) → ℕ → List ℕ → List ℕ
left u n s = drop (begins u n s) s
