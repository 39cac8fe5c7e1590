-- Two shortest paths to a cell join there, and every path between the groups parts there. Assumes
-- nothing.
use Rattle.geodesics.proofs.Gaps.{gap_is_least}
use Rattle.geodesics.proofs.gap_is_least.Goals as goal

pub returns : goal.returns
returns g c = gap_is_least g.met.K.Length.lawful
