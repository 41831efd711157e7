-- What the inner functions of reading answer, and the answer of reading as `Reading` has it.
use Rattle.std.specs.Prelude.{Bool, not, ◌&&◌, List, ◌++◌, map, ℕ, ◌-◌, eqb, leb, replicate, Result, Ok, Err}
use Rattle.lists.specs.Refusals.{first}
use Rattle.cipher.specs.declared.refusal.Refusal.{Refusal}
use Rattle.cipher.specs.Refusal.{number_of}
use Rattle.inkfile.specs.declared.read.Head.{Head}
use Rattle.inkfile.specs.declared.read.Record.{Record}
use Rattle.inkfile.specs.declared.read.Records.{Records}
use Rattle.inkfile.specs.declared.read.Ink.{Ink}
use Rattle.inkfile.specs.Reading.{kind_at, length_at, record_tests, records_read, kinds_to, offsets_to, lengths_to, Told}

-- of a record: a refusal's number or 0, its kind byte and its length
abbrev pub seen_told : Result Head Refusal → ℕ × ℕ × ℕ
seen_told (Ok s) = (0, s.kind, s.length)
seen_told (Err q) = (number_of q, 0, 0)

unfoldable pub seen_answer : List ℕ → ℕ → ℕ → ℕ × ℕ × ℕ
seen_answer file k at = first (record_tests file k at) (λ q. (q, 0, 0)) (0, kind_at file at, length_at file at)

-- whether a file of which some bytes are left goes on behind k records
unfoldable pub goes_on : ℕ → ℕ → Bool
goes_on left k = not (leb 4 k && eqb left 0)

-- of all records: a refusal's number or 0, how many they are, and three lists of eight
abbrev pub no_records : Refusal → ℕ × ℕ × List ℕ × List ℕ × List ℕ
no_records q = (number_of q, 0, replicate 8 0, replicate 8 0, replicate 8 0)

abbrev pub kinds_in : List Record → List ℕ
kinds_in rs = map (λ (r : Record). r.kind) rs

abbrev pub offsets_in : List Record → List ℕ
offsets_in rs = map (λ (r : Record). r.offset) rs

abbrev pub lengths_in : List Record → List ℕ
lengths_in rs = map (λ (r : Record). r.length) rs

abbrev pub records_told : Result Records Refusal → ℕ × ℕ × List ℕ × List ℕ × List ℕ
records_told (Ok r) = (0, r.count, kinds_in r.all, offsets_in r.all, lengths_in r.all)
records_told (Err q) = no_records q

-- the first c of eight, zeros behind them
abbrev pub filled_up : List ℕ → ℕ → List ℕ
filled_up l c = l ++ replicate (8 - c) 0

unfoldable pub records_of_walk : List ℕ → ℕ × ℕ → ℕ × ℕ × List ℕ × List ℕ × List ℕ
records_of_walk file a =
    (a.0, a.1, filled_up (kinds_to file a.1) a.1, filled_up (offsets_to file a.1) a.1, filled_up (lengths_to file a.1) a.1)

abbrev pub records_answer : List ℕ → ℕ × ℕ × List ℕ × List ℕ × List ℕ
records_answer file = records_of_walk file (records_read file)

-- the answer of reading
abbrev pub ink_told : Result Ink Refusal → Told
ink_told (Ok r) =
    record {
      refusal = 0;
      pad_number = r.pad_number;
      iv = r.iv;
      sealed = r.sealed;
      sealed_length = r.sealed_length;
      tag = r.tag;
      count = r.count;
      kinds = kinds_in r.remarks;
      offsets = offsets_in r.remarks;
      lengths = lengths_in r.remarks;
    }
ink_told (Err q) =
    record {
      refusal = number_of q;
      pad_number = 0;
      iv = 0;
      sealed = 0;
      sealed_length = 0;
      tag = 0;
      count = 0;
      kinds = replicate 4 0;
      offsets = replicate 4 0;
      lengths = replicate 4 0;
    }
