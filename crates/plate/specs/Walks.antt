-- The way in a map that has as many records as the plate has cells. Assumes nothing.
use Rattle.std.specs.Prelude.{ℕ, cond, List, [], length, Ok, Option, Result}
use Rattle.board.specs.declared.record.MapRecord.{MapRecord}
use Rattle.lengths.specs.Kinds.{Kind}
use Rattle.measuring.specs.Ways.{at, way_within}
use Rattle.plate.specs.Readings.{fitting_way}
use Rattle.plate.specs.declared.refusal.Refusal.{Refusal}

-- the way from a cell; none where the links are torn
abbrev pub way_on : {L R : Type 0} → Kind L R → List (MapRecord R) → ℕ → Option (List ℕ)
way_on kind map j = way_within (kind.encode kind.zero) map (length map) j

-- its cells, where they fit a list of so many; none where the cell is unreached
abbrev pub way_at : {L R : Type 0} → Kind L R → List (MapRecord R) → ℕ → ℕ → Result (List ℕ) Refusal
way_at kind map j room =
    cond (at (kind.encode kind.zero) map j).reached (fitting_way room (way_on kind map j)) (Ok [])
