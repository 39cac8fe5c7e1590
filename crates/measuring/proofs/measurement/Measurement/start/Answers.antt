use Rattle.std.proofs.Common.{◌≡◌, ◌-◌, ◌<◌, length, sym, ap, ◌∙◌, arith, rules}
use Rattle.std.proofs.lemmas.List.{get_or-take, get_or_default}
use Rattle.board.specs.Sizes.{area}
use Rattle.board.specs.Tables.{barred_cell, source_pad}
use Rattle.measuring.specs.Tracking.{begun}
use Rattle.measuring.proofs.measurement.Measurement.start.Goals as goal

pub loop-number-preserved : goal.loop-number-preserved
loop-number-preserved g c =
    let job = c.args.self.now in
    let number = c.loop-number.number in
    let within : number < length job.cells.now = omega (arith, job.within) in
    let pad = ap (λ cell. source_pad cell job.groups.now job.group) (get_or_default job.cells.now number barred_cell _ within ∙ sym (get_or-take (c.area.result - 0) job.cells.now number _ (omega arith))) ∙ sym c.source_pad-pad.ensures in
    record {
      few = search rules;
      room = search rules;
      tracks = c.start_cell.ensures.tracks _ (ap (begun g.G.Length.Length.kind number) pad) c.loop-number.invariant.tracks;
    }

pub returns-clause-tracks : goal.returns-clause-tracks
returns-clause-tracks g c =
    let all : c.loop-number.number ≡ area c.args.self.now.size = omega arith in
    rw all at c.loop-number.invariant.tracks
