-- One ink file byte by byte: its fields, what is told of it, and what is told of it with one fault. docs/FORMAT.md shows it.
use Rattle.std.specs.Prelude.{◌≡◌, List, [], ◌∷◌, ◌++◌, ℕ, take, set, replicate}
use Rattle.inkfile.specs.Format.{Fields, ink_of}
use Rattle.inkfile.specs.Reading.{read_ink_answer}
use Rattle.inkfile.specs.Writing.{write_ink_answer}

-- two remarks: the letters "hi", and nothing
unfoldable pub example_fields : Fields
example_fields =
    record {
      pad_number = 1 ∷ 2 ∷ 3 ∷ 4 ∷ 5 ∷ 6 ∷ 7 ∷ 8 ∷ [];
      iv = replicate 16 0x11;
      sealed = replicate 16 0x22;
      tag = replicate 16 0x33;
      remarks = (0x1f, 0x68 ∷ 0x69 ∷ []) ∷ (0x10, []) ∷ [];
    }

unfoldable pub example_file : List ℕ
example_file =
    (0xa5 ∷ 0x01 ∷ 8 ∷ 0 ∷ 0 ∷ 0 ∷ 1 ∷ 2 ∷ 3 ∷ 4 ∷ 5 ∷ 6 ∷ 7 ∷ 8 ∷ [])
    ++ ((0xa5 ∷ 0x02 ∷ 16 ∷ 0 ∷ 0 ∷ 0 ∷ []) ++ (replicate 16 0x11
    ++ ((0xa5 ∷ 0x03 ∷ 16 ∷ 0 ∷ 0 ∷ 0 ∷ []) ++ (replicate 16 0x22
    ++ ((0xa5 ∷ 0x04 ∷ 16 ∷ 0 ∷ 0 ∷ 0 ∷ []) ++ (replicate 16 0x33
    ++ ((0xa5 ∷ 0x1f ∷ 2 ∷ 0 ∷ 0 ∷ 0 ∷ 0x68 ∷ 0x69 ∷ []) ++ (0xa5 ∷ 0x10 ∷ 0 ∷ 0 ∷ 0 ∷ 0 ∷ []))))))))

pub record MarkedInk : Type 0 where
  pub looks : ink_of example_fields ≡ example_file
  pub told : read_ink_answer example_file
      ≡ record {
        refusal = 0;
        pad_number = 6;
        iv = 20;
        sealed = 42;
        sealed_length = 16;
        tag = 64;
        count = 2;
        kinds = 0x1f ∷ 0x10 ∷ 0 ∷ 0 ∷ [];
        offsets = 86 ∷ 94 ∷ 0 ∷ 0 ∷ [];
        lengths = 2 ∷ 0 ∷ 0 ∷ 0 ∷ [];
      }
  -- written into a buffer of its 94 bytes, and into one of 93
  pub written : write_ink_answer example_fields (replicate 94 7) ≡ ((0, 94), example_file)
  pub no_room : write_ink_answer example_fields (replicate 93 7) ≡ ((9, 0), replicate 93 7)
  -- the first remark's kind 20; the second's length 1, past the end; its head cut short by a byte; sealed blocks of no bytes
  pub unknown_kind : (read_ink_answer (set example_file 81 0x20)).refusal ≡ 30
  pub past_end : (read_ink_answer (set example_file 90 1)).refusal ≡ 31
  pub cut_short : (read_ink_answer (take 93 example_file)).refusal ≡ 30
  pub no_blocks : (read_ink_answer (set example_file 38 0)).refusal ≡ 31
  -- kind 20 and at the same record a length past the end
  pub kind_first : (read_ink_answer (set (set example_file 81 0x20) 85 0xff)).refusal ≡ 30
