-- `write::Given::put_fixed` meets its contract.
use Rattle.inkfile.specs.WritingSteps.{given}
use Rattle.inkfile.proofs.PutLaws.{fixed_over}
use Rattle.inkfile.proofs.write.Given.put_fixed.Goals as goal

pub returns : goal.returns
returns c =
    fixed_over (given c.args.self.now) _ _ _ _ _ _ _ _ _ c.put_record-a.ensures c.put_record-b.ensures c.put_record-c.ensures c.put_record.ensures c.requires
