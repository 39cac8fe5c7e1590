-- The part that is lent holds the marks. Assumes nothing.
use Rattle.std.proofs.Common.{take, refl}
use Rattle.plate.specs.Headers.{standing}
use Rattle.runs.specs.Plates.{header_of}
use Rattle.runs.proofs.Parts.{marked_marks, unmarked_marks}
use Rattle.runs.proofs.ruler_steps.route.Goals as goal

pub returns-in-Ok-clause-marks : goal.returns-in-Ok-clause-marks
returns-in-Ok-clause-marks g c =
    let n = c.min-lent.result in
    marked_marks g.R.Length.Length.kind (g.R.Ruler.ruling c.args.ruler.now).sum
    (standing (header_of c.args.plate.now)) c.args.first.now c.args.second.now
    (take n c.args.marks.now) c.route.new.marks c.route.result c.route.ensures
    n c.args.marks.now refl c.in-Ok.count c.route.auto.marks c.in-Ok.is

pub returns-in-Err-clause-marks : goal.returns-in-Err-clause-marks
returns-in-Err-clause-marks g c =
    let n = c.min-lent.result in
    unmarked_marks g.R.Length.Length.kind (g.R.Ruler.ruling c.args.ruler.now).sum
    (standing (header_of c.args.plate.now)) c.args.first.now c.args.second.now
    (take n c.args.marks.now) c.route.new.marks c.route.result c.route.ensures
    n c.args.marks.now refl c.in-Err.refusal c.in-Err.is
