-- Over a gauge, by its law. Assumes nothing.
use Rattle.std.proofs.Common.{map}
use Rattle.runs.specs.Measurers.{by_gauge}
use Rattle.runs.specs.declared.call.RulerCall.TheVariants.{Plain}
use Rattle.runs.proofs.Laws.{gauge_runs}
use Rattle.runs.proofs.Openings.{ran}
use Rattle.runs.proofs.running.run.Goals as goal

pub returns : goal.returns
returns g c =
    let kind = g.G.Length.Length.kind in
    let crossing = g.G.Gauge.crossing c.args.gauge.now in
    let law = gauge_runs g.met.G.Length.Length.lawful crossing
    (g.met.G.Gauge.lawful c.args.gauge.now) in
    let space = c.args.space in
    ran space.dimensions (by_gauge kind crossing)
    (map Plain space.calls.now) _ _ law _ c.run_in_space.ensures
