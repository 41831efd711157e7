-- The laws of ink files, all of them.
use Rattle.inkfile.specs.Laws.{InkLaws}
use Rattle.inkfile.proofs.FileLaws.{write_read, read_write, accepted_exactly, writing_once}
use Rattle.inkfile.proofs.CallLaws.{called_fields, called_told}
use Rattle.inkfile.proofs.ReadRefusals.{read_refused, nothing_told}
use Rattle.inkfile.proofs.WriteLaws as W

pub ink_laws : InkLaws
ink_laws =
    record {
      survives = write_read;
      left = W.write_left;
      restored = read_write;
      again = W.write_again;
      called = called_fields;
      called_told = called_told;
      exactly = accepted_exactly;
      once = writing_once;
      read_refused = read_refused;
      nothing_told = nothing_told;
      write_refused = W.write_refused;
      written = W.written_exactly;
    }
