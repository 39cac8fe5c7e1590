use Rattle.std.proofs.Common.{◌-◌, ◌<◌, length, set}
use Rattle.std.specs.List.Sorted.{IsPermutation}
use Rattle.queue.specs.Heaps.{Holed}
use Rattle.queue.proofs.heap.sift_down.Given as goal

abbrev pub invariant-loop-hole : goal.invariant-loop-hole
invariant-loop-hole g l = record {
  within : l.hole < length l.entries;
  holed : Holed g.O.Order.le l.entries l.hole;
  shuffled : (x : g.row.O-Entry.Denot) → IsPermutation (set l.initial.entries 0 x) (set l.entries l.hole x);
}

abbrev pub decreases-loop-hole : goal.decreases-loop-hole
decreases-loop-hole g l = length l.entries - l.hole
