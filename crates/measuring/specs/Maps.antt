-- The measured map and its two counts, and what measuring does to the tables. Assumes nothing.
use Rattle.std.specs.Prelude.{◌≡◌, ℕ, ◌*◌, true, cond, List, [], ◌∷◌, ◌++◌, map, length, drop, sum_by, ◌==◌}
use Rattle.std.specs.List.{range_with_len}
use Rattle.board.specs.Records.{unreached_record}
use Rattle.board.specs.Sizes.{area}
use Rattle.board.specs.declared.record.MapRecord.{MapRecord}
use Rattle.board.specs.declared.size.Size.{Size}
use Rattle.lengths.specs.Kinds.{Kind}
use Rattle.measuring.specs.Boards.{open_neighbours}
use Rattle.measuring.specs.Paths.{Measuring}
use Rattle.measuring.specs.Rankings.{Bid, ranking}
use Rattle.measuring.specs.declared.Counts.{Counts}

abbrev pub ranked_record : {L R : Type 0} → Kind L R → ℕ → Bid L → MapRecord R
ranked_record kind rank r = record {
  length = kind.encode r.length;
  reached = true;
  pad = r.pad;
  link = r.link;
  rank = rank;
}

-- the record of a cell once these are ranked, the last one first; a rank is how many were ranked before
unfoldable pub record_at : {L R : Type 0} → Kind L R → List (Bid L) → ℕ → MapRecord R
record_at kind [] j = unreached_record (kind.encode kind.zero)
record_at kind (r ∷ rs) j =
    cond (r.cell == j) (ranked_record kind (length rs) r) (record_at kind rs j)

-- the map: a record for each cell of the board
unfoldable pub measured_map : {L R : Type 0} → Measuring L R → List (MapRecord R)
measured_map m = map (record_at m.kind (ranking m)) (range_with_len 0 (area m.board.size))

-- how many cells are reached
unfoldable pub reached_count : {L R : Type 0} → Measuring L R → ℕ
reached_count m = length (ranking m)

-- how many steps are put to the gauge: one for each open neighbour of a reached cell
unfoldable pub step_count : {L R : Type 0} → Measuring L R → ℕ
step_count m = sum_by (λ r. open_neighbours m.board r.cell) (ranking m)

-- the two counts
abbrev pub counts_of : {L R : Type 0} → Measuring L R → Counts
counts_of m = record { reached = reached_count m; steps = step_count m }

-- how many queue entries each cell needs: its own start, and an offer from each of eight neighbours
abbrev pub entries_per_cell : ℕ
entries_per_cell = 9

-- how many measuring needs
abbrev pub entries_needed : Size → ℕ
entries_needed size = entries_per_cell * area size

-- a map table with the measured map in its needed part
abbrev pub filled : {L R : Type 0} → Measuring L R → List (MapRecord R) → List (MapRecord R)
filled m old = measured_map m ++ drop (area m.board.size) old

-- what measuring does: the map's part is filled, the counts are given, and what lies beyond is as
-- it was
pub record Fills {L R E : Type 0} (m : Measuring L R) (old new : List (MapRecord R))
    (entries entries' : List E) (r : Counts) : Type 0 where
  pub map : new ≡ filled m old
  pub counts : r ≡ counts_of m
  pub beyond :
      drop (entries_needed m.board.size) entries' ≡ drop (entries_needed m.board.size) entries
