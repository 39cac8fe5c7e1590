use Rattle.std.proofs.Common.{◌≡◌, ◌+◌, ◌*◌, ◌≤◌, cond, ltb, length}
use Rattle.queue.specs.Queues.{queued}
use Rattle.measuring.specs.Measurements.{meant}
use Rattle.measuring.specs.Tracking.{Walked}
use Rattle.measuring.proofs.measurement.Measurement.offer_around.Given as goal

abbrev pub invariant-loop-row : goal.invariant-loop-row
invariant-loop-row g l =
    let itself = cond (ltb l.from.at.row l.row) 1 0 in
    record {
      room : length l.queue.entries.now ≡ length l.initial.queue.entries.now;
      few : l.queue.len + 3 * l.first + itself ≤ l.initial.queue.len + 3 * l.row;
      steps : l.steps + 3 * l.first + itself ≤ 3 * l.row;
      walked : Walked (meant g.G.Length.Length.kind g.G.Gauge.crossing l.self) l.from 0 0 l.row 0 l.steps l.initial.map (queued l.initial.queue) l.map (queued l.queue);
    }
