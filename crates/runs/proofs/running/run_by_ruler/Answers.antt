-- Over a ruler, by its laws. Assumes nothing.
use Rattle.std.proofs.Common.{map, sym}
use Rattle.std.proofs.lemmas.List.{map-id}
use Rattle.runs.specs.Measurers.{by_ruler}
use Rattle.runs.proofs.Laws.{ruler_runs}
use Rattle.runs.proofs.Openings.{ran}
use Rattle.runs.proofs.running.run_by_ruler.Goals as goal

pub returns : goal.returns
returns g c =
    let kind = g.R.Length.Length.kind in
    let crossing = g.R.Gauge.crossing c.args.ruler.now in
    let ruling = g.R.Ruler.ruling c.args.ruler.now in
    let law = ruler_runs g.met.R.Length.Length.lawful ruling
    (g.met.R.Ruler.ruled c.args.ruler.now) crossing (g.met.R.Ruler.adds c.args.ruler.now) in
    let space = c.args.space in
    rw (sym (map-id space.calls.now))
    (ran space.dimensions (by_ruler kind crossing ruling.sum)
    (map (λ call. call) space.calls.now) _ _ law _ c.run_in_space.ensures)
