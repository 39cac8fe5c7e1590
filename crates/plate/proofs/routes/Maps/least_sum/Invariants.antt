use Rattle.std.proofs.Common.{◌≡◌}
use Rattle.measuring.specs.MapReadings.{least_sum}
use Rattle.plate.proofs.routes.Maps.least_sum.Given as goal

abbrev pub invariant-loop-number : goal.invariant-loop-number
invariant-loop-number g l =
    l.best ≡ least_sum g.R.Length.Length.kind (g.R.Ruler.ruling l.self.ruler.now).sum l.self.first.now l.self.second.now l.number
