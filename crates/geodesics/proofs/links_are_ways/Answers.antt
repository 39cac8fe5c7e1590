-- A cell links to one that was ranked before it. Assumes nothing.
use Rattle.geodesics.proofs.LeastPaths.{links_are_ways}
use Rattle.geodesics.proofs.links_are_ways.Goals as goal

pub returns : goal.returns
returns g c = links_are_ways g.met.K.Length.lawful
