-- What the inner functions of writing answer.
use Rattle.std.specs.Prelude.{List, ◌++◌, map, ℕ, ◌+◌, ◌*◌, length, sum_by, slice_range}
use denote.Ref.{Bor}
use Rattle.lists.specs.Refusals.{first}
use Rattle.inkfile.specs.declared.write.Given.{Given}
use Rattle.inkfile.specs.Format.{Record, head_length, record_of, run_of, Fields, records_of}
use Rattle.inkfile.specs.Writing.{run_tests, remarks_of}

-- four bodies, as the code lends them, and the fields with them
abbrev pub lent : List (Bor (List ℕ)) → List (List ℕ)
lent bs = map (λ (b : Bor (List ℕ)). b.now) bs

abbrev pub given : Given → Fields
given g =
    record { pad_number = g.number.now; iv = g.iv.now; sealed = g.sealed.now; tag = g.tag.now; remarks = remarks_of g.kinds.now (lent g.bodies) }

-- the first fault of all remarks, a fifth among them, and of all fields
unfoldable pub remarks_fault : List Record → ℕ
remarks_fault rs = first (run_tests 4 rs) (λ q. q) 0

unfoldable pub fields_fault : Fields → ℕ
fields_fault f = first (run_tests 0 (records_of f)) (λ q. q) 0

-- the first four records
unfoldable pub fixed_bytes : Fields → List ℕ
fixed_bytes f = ((record_of (0x01, f.pad_number) ++ record_of (0x02, f.iv)) ++ record_of (0x03, f.sealed)) ++ record_of (0x04, f.tag)

abbrev pub fixed_size : Fields → ℕ
fixed_size f = 4 * head_length + length f.pad_number + length f.iv + length f.sealed + length f.tag

-- and the remarks: their bytes in a file, and how many
abbrev pub remarks_bytes : List Record → List ℕ
remarks_bytes rs = run_of rs

abbrev pub remarks_size : List Record → ℕ
remarks_size rs = length (remarks_bytes rs)

-- the same, as the code adds them up
abbrev pub bodies_size : Given → ℕ
bodies_size g = sum_by (λ b. head_length + length b.now) (slice_range g.bodies 0 (length g.kinds.now))
