-- The next cell is determined by those ranked before. Assumes nothing.
use Rattle.geodesics.proofs.SameBoards.{one_map}
use Rattle.geodesics.proofs.there_is_one_map.Goals as goal

pub returns : goal.returns
returns g c = one_map g.met.K.Length.lawful
