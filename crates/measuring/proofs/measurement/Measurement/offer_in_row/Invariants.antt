use Rattle.std.proofs.Common.{◌≡◌, ◌+◌, ◌≤◌, cond, ◌&&◌, eqb, ltb, length}
use Rattle.queue.specs.Queues.{queued}
use Rattle.measuring.specs.Measurements.{meant}
use Rattle.measuring.specs.Tracking.{Walked}
use Rattle.measuring.proofs.measurement.Measurement.offer_in_row.Given as goal

abbrev pub invariant-loop-column : goal.invariant-loop-column
invariant-loop-column g l =
    let itself = cond (eqb l.row l.from.at.row && ltb l.from.at.column l.column) 1 0 in
    record {
      room : length l.queue.entries.now ≡ length l.initial.queue.entries.now;
      few : l.queue.len + l.first + itself ≤ l.initial.queue.len + l.column;
      steps : l.steps + l.first + itself ≤ l.column;
      walked : Walked (meant g.G.Length.Length.kind g.G.Gauge.crossing l.self) l.from l.row 0 l.row l.column l.steps l.initial.map (queued l.initial.queue) l.map (queued l.queue);
    }
