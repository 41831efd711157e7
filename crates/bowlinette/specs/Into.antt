-- What a C caller gets from an answer: its number, and behind the pointers the value, or, after a refusal, what was
-- there before.
use Rattle.std.specs.Prelude.{ℕ, zero, suc, Result, Ok, Err}
use Rattle.cipher.specs.Refusal.{number_of}
use Rattle.cipher.specs.declared.refusal.Refusal.{Refusal}

abbrev pub into : {A : Type 0} → ℕ × A → A → ℕ × A
into (zero, value) old = (zero, value)
into (suc n, value) old = (suc n, old)

-- the same of a result: its value and 0, or the number of its refusal and what was there
abbrev pub delivered : {A : Type 0} → Result A Refusal → A → ℕ × A
delivered (Ok value) old = (0, value)
delivered (Err q) old = (number_of q, old)

-- the same of an answer that comes with a buffer, or several: what is told stands behind pointers of its own
abbrev pub kept : {A B : Type 0} → (ℕ × A) × B → A → (ℕ × A) × B
kept ((zero, told), out) old = ((zero, told), out)
kept ((suc n, told), out) old = ((suc n, old), out)

-- 1 for the one answer that says Valid, 0 for Invalid and for every refusal
abbrev pub valid_only : ℕ × ℕ → ℕ
valid_only (zero, verdict) = verdict
valid_only (suc n, verdict) = 0
