use Rattle.std.proofs.Common.{ap, ◌∙◌}
use Rattle.measuring.specs.Measurements.{meant}
use Rattle.measuring.proofs.Turns.{dropped, ranked_one, taken}
use Rattle.measuring.proofs.measurement.Measurement.take_up.Goals as goal

pub returns-then-map-offer-clause-turns : goal.returns-then-map-offer-clause-turns
returns-then-map-offer-clause-turns g c steps least ranks =
    dropped (meant g.G.Length.Length.kind g.G.Gauge.crossing c.args.self.now) g.met.G.Length.Length.lawful c.args.rank steps _ _ c.args.offer c.index-map-offer.result ranks c.index-map-offer.is (ap (λ r. r.reached) c.index-map-offer.is ∙ c.if-map-offer.true)

pub returns-clause-turns : goal.returns-clause-turns
returns-clause-turns g c steps least ranks =
    let m = meant g.G.Length.Length.kind g.G.Gauge.crossing c.args.self.now in
    let found = taken m g.met.G.Length.Length.lawful c.args.rank steps _ _ c.args.offer c.index-map-offer.result ranks least c.index-map-offer.is (ap (λ r. r.reached) c.index-map-offer.is ∙ c.if-map-offer.false) in
    ranked_one m g.met.G.Length.Length.lawful c.args.rank steps _ _ _ _ _ c.args.offer found.0 ranks found.1 found.3 c.rank_cell.ensures.counts (c.rank_cell.ensures.tracks _ found.0 found.1 found.2 ranks.tracks)
