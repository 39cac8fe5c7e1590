use Rattle.std.proofs.Common.{◌<◌, length, set}
use Rattle.std.specs.List.Sorted.{IsPermutation}
use Rattle.queue.specs.Heaps.{Holed, BelowAll}
use Rattle.queue.proofs.heap.sift_up.Given as goal

abbrev pub invariant-loop-hole : goal.invariant-loop-hole
invariant-loop-hole g l =
    let le = g.O.Order.le in
    record {
      within : l.hole < length l.entries;
      holed : Holed le l.entries l.hole;
      below : BelowAll le l.entries l.hole l.moving;
      shuffled : IsPermutation (set l.initial.entries l.at l.moving) (set l.entries l.hole l.moving);
    }

abbrev pub decreases-loop-hole : goal.decreases-loop-hole
decreases-loop-hole g l = l.hole
