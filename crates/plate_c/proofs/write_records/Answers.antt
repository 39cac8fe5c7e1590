-- Each record is written from the map. Assumes nothing.
use Rattle.std.proofs.Common.{◌∙◌, arith}
use Rattle.plate_c.specs.Answers.{record_of}
use Rattle.plate_c.proofs.Writing.{written_more, written_all}
use Rattle.plate_c.proofs.write_records.Goals as goal

pub loop-number-preserved : goal.loop-number-preserved
loop-number-preserved c =
    let xs = c.args.found.now in
    let old = c.args.out.now in
    let i = c.loop-number.number in
    rw c.from.ensures
    (written_more record_of xs old _ i _ (omega arith) (omega arith) c.loop-number.invariant)

pub returns : goal.returns
returns c =
    let xs = c.args.found.now in
    let old = c.args.out.now in
    c.loop-number.invariant ∙ written_all record_of xs old _ (omega arith)
