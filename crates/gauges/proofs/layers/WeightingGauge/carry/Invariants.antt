use Rattle.std.proofs.Common.{◌≡◌, ◌<◌, false}
use Rattle.gauges.specs.Layers.{times}
use Rattle.gauges.proofs.layers.WeightingGauge.carry.Given as goal

abbrev pub invariant-loop : goal.invariant-loop
invariant-loop g l =
    let below = g.G.Gauge.crossing l.self.gauge in
    (l.carried ≡ times l.counter (below.carried l.step) l.initial.carried) × (0 < l.counter → below.barred l.step ≡ false)
