use Rattle.std.proofs.Common.{◌≡◌, ◌+◌, ◌-◌, ◌*◌, ◌≤◌, length}
use Rattle.queue.specs.Queues.{queued}
use Rattle.measuring.specs.Measurements.{meant}
use Rattle.measuring.specs.Tracking.{Ranks}
use Rattle.measuring.proofs.measurement.Measurement.rank_all.Given as goal

abbrev pub invariant-loop-reached : goal.invariant-loop-reached
invariant-loop-reached g l = record {
  room : length l.queue.entries.now ≡ length l.initial.queue.entries.now;
  few : l.queue.len ≤ l.area + 8 * l.reached;
  within : l.reached ≤ l.area;
  steps : l.steps ≤ 8 * l.reached;
  ranks : Ranks (meant g.G.Length.Length.kind g.G.Gauge.crossing l.self) l.reached l.steps l.map (queued l.queue);
}

abbrev pub decreases-loop-reached : goal.decreases-loop-reached
decreases-loop-reached g l = 10 * (l.area - l.reached) + l.queue.len
