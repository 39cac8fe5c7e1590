-- A call by a gauge leaves the marks. Assumes nothing.
use Rattle.std.proofs.Common.{None}
use Rattle.runs.proofs.Replied.{carried_too}
use Rattle.runs.proofs.steps.ByGaugeCaller.carry_out.Goals as goal

pub returns : goal.returns
returns g c =
    let made = c.carry_out in
    carried_too g.G.Length.Length.kind
    (g.G.Gauge.crossing c.args.self.now.gauge.now) None c.args.call c.args.plate made.result
    c.args.cells.now made.new.cells c.args.groups.now made.new.groups
    c.args.first.now made.new.first c.args.second.now made.new.second c.args.entries.now
    made.new.entries c.args.list.now made.new.list c.args._marks.now made.ensures
