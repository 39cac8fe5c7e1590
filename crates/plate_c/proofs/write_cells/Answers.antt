-- Each cell is written from its spot. Assumes nothing.
use Rattle.std.proofs.Common.{◌∙◌, arith}
use Rattle.plate_c.specs.Answers.{spot_cell}
use Rattle.plate_c.proofs.Writing.{written_more, written_over}
use Rattle.plate_c.proofs.write_cells.Goals as goal

pub loop-number-preserved : goal.loop-number-preserved
loop-number-preserved c =
    let xs = c.args.spots.now in
    let old = c.args.cells.now in
    let i = c.loop-number.number in
    rw c.from.ensures
    (written_more spot_cell xs old _ i _ (omega arith) (omega arith) c.loop-number.invariant)

pub returns : goal.returns
returns c =
    let xs = c.args.spots.now in
    let old = c.args.cells.now in
    c.loop-number.invariant ∙ written_over spot_cell xs old _ (omega arith) c.requires
