-- What a schedule's number and a key name (specs/Schedules), of the code's own value.
use Rattle.std.specs.Prelude.{ℕ, List, Result, Ok, Err}
use Rattle.cipher.specs.declared.size.KeySize.{KeySize}
use Rattle.cipher.specs.declared.schedules.Schedule.{Schedule}
use Rattle.cipher.specs.declared.schedules.Key.{Key}
use Rattle.cipher.specs.declared.refusal.Refusal.{Refusal}

abbrev pub key_told : Result Key Refusal → Result (Schedule × KeySize × List ℕ) Refusal
key_told (Ok k) = Ok (k.schedule, k.size, k.bytes.now)
key_told (Err q) = Err q
