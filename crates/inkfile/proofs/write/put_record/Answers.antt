-- `write::put_record` meets its contract.
use Rattle.std.proofs.Common.{◌+◌, length, refl, sym, ap}
use Rattle.words.specs.Word.{bytes_of}
use Rattle.inkfile.proofs.PutLaws.{part_over, record_over}
use Rattle.inkfile.proofs.write.put_record.Goals as goal

pub returns : goal.returns
unfolding bytes_of
returns c =
    let a = c.args in
    let n = length a.body.now in
    let h = c.head-h.ensures in (
      refl,
      record_over _ _ _ _ _ _ _ h c.requires (part_over _ _ c.head-h.result a.at 6 c.copy_from_slice.ensures.after (sym (ap length h)))
          (part_over _ _ _ (a.at + 6) n c.put.ensures refl),
    )
