-- The plan (specs/Plan) that the code's own says.
use Rattle.maker.specs.Plan.{Plan}
use Rattle.maker.specs.declared.plan.Plan as D

abbrev pub planned : D.Plan → Plan
planned p = record { from = p.from; to = p.to; given = p.given.now }
