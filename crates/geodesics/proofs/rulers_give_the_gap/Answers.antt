-- A shortest path between the groups is a shortest path of group 1 to its end, whose length is a
-- least sum. Assumes nothing.
use Rattle.geodesics.proofs.GapSums.{published_gap}
use Rattle.geodesics.proofs.rulers_give_the_gap.Goals as goal

pub returns : goal.returns
returns c = published_gap
