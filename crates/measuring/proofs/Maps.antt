-- How long a measured map is. Assumes nothing.
use Rattle.std.proofs.Common.{◌≡◌, length}
use Rattle.std.proofs.lemmas.List.FromFn.{length-map-range_with_len}
use Rattle.board.specs.Sizes.{area}
use Rattle.measuring.specs.Maps.{measured_map, record_at}
use Rattle.measuring.specs.Paths.{Measuring}
use Rattle.measuring.specs.Rankings.{ranking}

-- a record for each cell
pub map_length : {L R : Type 0} (m : Measuring L R) → length (measured_map m) ≡ area m.board.size
unfolding measured_map
map_length m = length-map-range_with_len (record_at m.kind (ranking m)) 0 (area m.board.size)
