-- The two schedules and their numbers (document 02, 2026-07): 0 for LEA's own, 1 for WF-LEA's.
use Rattle.std.specs.Prelude.{◌≡◌, ℕ, cond, List, length, ◌==◌, Option, Some, None, Result, Ok, Err}
use Rattle.std.specs.Option.{ok_or}
use Rattle.words.specs.Word.{words4}
use Rattle.lea_schedule.specs.Schedule.{step16, row16, step24, row24, step32, row32, words6, words8, filled}
use Rattle.wf_lea.specs.WfLea.{rows}
use Rattle.cipher.specs.KeySize.{rounds, size_of_key}
use Rattle.cipher.specs.declared.size.KeySize.{KeySize}
use Rattle.cipher.specs.declared.size.KeySize.TheVariants.{Bytes16, Bytes24, Bytes32}
use Rattle.cipher.specs.declared.schedules.Schedule.{Schedule}
use Rattle.cipher.specs.declared.schedules.Schedule.TheVariants.{Lea, WfLea}
use Rattle.cipher.specs.declared.refusal.Refusal.{Refusal}
use Rattle.cipher.specs.declared.refusal.Refusal.TheVariants.{KeyLength, ScheduleNumber}

-- the schedule numbered n, and the same where another number is refused
unfoldable pub schedule_found : ℕ → Option Schedule
schedule_found n = cond (n == 0) (Some Lea) (cond (n == 1) (Some WfLea) None)

unfoldable pub numbered : ℕ → Result Schedule Refusal
numbered n = ok_or (schedule_found n) ScheduleNumber

-- the number s and the key name a schedule and a size: they are not refused
abbrev pub Named : ℕ → List ℕ → Schedule → KeySize → Type 0
Named s key k z = (schedule_found s ≡ Some k) × (size_of_key (length key) ≡ Some z)

-- what they name, with the key, or why there is nothing: the number is refused before the key's length
unfoldable pub key_of : Option Schedule → Option KeySize → List ℕ → Result (Schedule × KeySize × List ℕ) Refusal
key_of None z key = Err ScheduleNumber
key_of (Some k) None key = Err KeyLength
key_of (Some k) (Some z) key = Ok (k, z, key)

abbrev pub key_read : ℕ → List ℕ → Result (Schedule × KeySize × List ℕ) Refusal
key_read s key = key_of (schedule_found s) (size_of_key (length key)) key

-- LEA's rows of a key of a size
unfoldable pub schedule : KeySize → List ℕ → List (List ℕ)
schedule Bytes16 key = filled step16 row16 24 (words4 key)
schedule Bytes24 key = filled step24 row24 28 (words6 key)
schedule Bytes32 key = filled step32 row32 32 (words8 key)

-- the rows of round keys that a key of a size supplies under a schedule: whatever has a key takes its rows from here, and only here
-- a schedule's rows are named
unfoldable pub key_rows : Schedule → KeySize → List ℕ → List (List ℕ)
key_rows Lea z key = schedule z key
key_rows WfLea z key = rows key (rounds z)
