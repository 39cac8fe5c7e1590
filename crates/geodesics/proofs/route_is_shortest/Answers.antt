-- A cell's sum is the gap exactly when a path of that length leads through it. Assumes nothing.
use Rattle.geodesics.proofs.Gaps.{route_is_shortest}
use Rattle.geodesics.proofs.route_is_shortest.Goals as goal

pub returns : goal.returns
returns g c = route_is_shortest g.met.K.Length.lawful
