-- What is written is what was measured of the spots. Assumes nothing.
use Rattle.plate_c.specs.Answers.{asked}
use Rattle.plate_c.proofs.Handing.{handed_over}
use Rattle.plate_c.proofs.measured.Goals as goal

pub returns-clause-outcome : goal.returns-clause-outcome
returns-clause-outcome c =
    let plate = asked c.args.dimensions c.args.spots.now in
    let opened = c.entered-draft.ensures in
    let found = c.measure-counts.ensures in (
      c.in_ok-size.ensures.0,
      handed_over plate _ _ _ c.measure-counts.new.map c.args.out.now _ _
          opened.size opened.cells opened.groups found.map found.counts c.write_records.ensures,
    )
