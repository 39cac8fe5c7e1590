use Rattle.std.proofs.Common.{◌≡◌, take, refl, ap, arith}
use Rattle.measuring.specs.Measurements.{meant}
use Rattle.measuring.proofs.Turns.{due, finished_all, finished_empty, ranks_shuffled, started, turned}
use Rattle.measuring.proofs.measurement.Measurement.rank_all.Goals as goal

pub loop-reached-init : goal.loop-reached-init
loop-reached-init g c = record {
  room = refl;
  few = omega arith;
  within = omega arith;
  steps = omega arith;
  ranks = started (meant g.G.Length.Length.kind g.G.Gauge.crossing c.args.self.now) _ _ c.start.ensures.tracks;
}

pub take_up-requires-clause-cell : goal.take_up-requires-clause-cell
take_up-requires-clause-cell g c =
    (due _ g.met.G.Length.Length.lawful _ _ _ _ _ (ranks_shuffled c.in-Some.ensures.taken.1 c.loop-reached.invariant.ranks)).0

pub loop-reached-preserved-in-Some-take_up : goal.loop-reached-preserved-in-Some-take_up
loop-reached-preserved-in-Some-take_up g c =
    let popped = c.in-Some.ensures.taken in
    let few = c.in-Some-take_up.ensures.few in
    let eight = c.in-Some-take_up.ensures.eight in
    let pops = c.in-Some.ensures in
    let room = c.in-Some-take_up.ensures.room in
    record {
      room = omega (arith, pops.room);
      few = omega (arith, pops.len);
      within = omega arith;
      steps = omega arith;
      ranks = turned popped.1 popped.2 c.loop-reached.invariant.ranks (c.in-Some-take_up.ensures.turns c.loop-reached.steps);
    }

pub loop-reached-preserved : goal.loop-reached-preserved
loop-reached-preserved g c =
    let popped = c.in-Some.ensures.taken in
    let few = c.in_default-take_up.ensures.few in
    let pops = c.in-Some.ensures in
    let room = c.in_default-take_up.ensures.room in
    record {
      room = omega (arith, pops.room);
      few = omega (arith, pops.len);
      within = omega arith;
      steps = omega arith;
      ranks = turned popped.1 popped.2 c.loop-reached.invariant.ranks (c.in_default-take_up.ensures.turns c.loop-reached.steps);
    }

pub returns-after-loop-reached : goal.returns-after-loop-reached
returns-after-loop-reached g c =
    let end = finished_all (meant g.G.Length.Length.kind g.G.Gauge.crossing c.args.self.now) g.met.G.Length.Length.lawful _ _ _ _ c.loop-reached.invariant.ranks (omega arith) (omega arith) in
    record { bound = omega arith; map = end.map_is; reached = end.reached_is; steps = end.steps_is }

pub returns-in_default : goal.returns-in_default
returns-in_default g c =
    let none : c.loop-reached.queue.len ≡ 0 = c.in_default.ensures.taken.0 in
    let end = finished_empty (meant g.G.Length.Length.kind g.G.Gauge.crossing c.args.self.now) g.met.G.Length.Length.lawful _ _ _ _ c.loop-reached.invariant.ranks (omega arith) (ap (λ n. take n c.loop-reached.queue.entries.now) none) (omega arith) in
    record { bound = omega arith; map = end.map_is; reached = end.reached_is; steps = end.steps_is }
