use Rattle.std.proofs.Common.{◌+◌, ◌*◌, ◌^◌, ◌<◌, ◌≤◌}
use Rattle.gauges.proofs.formulas.root_within.Given as goal

abbrev pub invariant-loop-width : goal.invariant-loop-width
invariant-loop-width l = (1 ≤ l.width) × (l.root + l.width < 2 ^ 32) × (l.root * l.root ≤ l.square) × (l.square < (l.root + l.width) * (l.root + l.width))

abbrev pub decreases-loop-width : goal.decreases-loop-width
decreases-loop-width l = l.width
