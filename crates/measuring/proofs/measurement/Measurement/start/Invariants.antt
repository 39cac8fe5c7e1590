use Rattle.std.proofs.Common.{◌≡◌, ◌≤◌, length}
use Rattle.queue.specs.Queues.{queued}
use Rattle.measuring.specs.Measurements.{meant}
use Rattle.measuring.specs.Tracking.{Tracks, starting}
use Rattle.measuring.proofs.measurement.Measurement.start.Given as goal

abbrev pub invariant-loop-number : goal.invariant-loop-number
invariant-loop-number g l = record {
  few : l.queue.len ≤ l.number;
  room : length l.queue.entries.now ≡ length l.initial.queue.entries.now;
  tracks : Tracks g.G.Length.Length.kind l.number (starting (meant g.G.Length.Length.kind g.G.Gauge.crossing l.self)) l.map (queued l.queue);
}
