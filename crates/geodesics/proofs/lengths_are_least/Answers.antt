-- The end of every path is ranked, with at most its length. Assumes nothing.
use Rattle.geodesics.proofs.LeastPaths.{least_lengths}
use Rattle.geodesics.proofs.lengths_are_least.Goals as goal

pub returns : goal.returns
returns g c = least_lengths g.met.K.Length.lawful
