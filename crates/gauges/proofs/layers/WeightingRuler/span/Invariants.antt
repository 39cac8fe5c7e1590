use Rattle.std.proofs.Common.{◌≡◌}
use Rattle.gauges.specs.Layers.{times}
use Rattle.gauges.proofs.layers.WeightingRuler.span.Given as goal

abbrev pub invariant-loop : goal.invariant-loop
invariant-loop g l = l.sum ≡ times l.counter (λ a. (g.R.Ruler.ruling l.self.gauge).sum a l.own) g.R.Length.Length.kind.zero
