-- The boards of the worked examples, and what is read off them. Assumes nothing.
use Rattle.std.specs.Prelude.{ℕ, List, [], ◌∷◌, Some, None, Option, false, true}
use Rattle.std.proofs.Common.{lit≤}
use Rattle.board.specs.Sizes.{area}
use Rattle.board.specs.Tables.{barred_cell}
use Rattle.board.specs.declared.cell.Cell.{Cell}
use Rattle.board.specs.declared.record.MapRecord.{MapRecord}
use Rattle.board.specs.declared.size.Size.{Size}
use Rattle.gauges.specs.Meanings.{Ruling, adding}
use Rattle.gauges.specs.Rulers.{counted_chessboard, whole_ruling}
use Rattle.gauges.specs.declared.step.Step.{Step}
use Rattle.lengths.specs.Kinds.{Kind}
use Rattle.lengths.specs.Counteds.{counted_kind}
use Rattle.lengths.specs.Wholes.{whole_kind}
use Rattle.lengths.specs.declared.counted.Counted.{Counted}
use Rattle.lengths.specs.declared.whole.Whole.{Whole}
use Rattle.measuring.specs.Boards.{Board}
use Rattle.measuring.specs.Maps.{counts_of, measured_map}
use Rattle.measuring.specs.Paths.{Measuring, measuring}
use Rattle.measuring.specs.MapReadings.{distance_at, least_sum, nearest_at, route_marks}
use Rattle.measuring.specs.declared.Counts.{Counts}

-- an open cell with its height and pad
abbrev pub spot : ℕ → ℕ → Cell
spot height pad = record { height = height; pad = pad; barred = false }

abbrev pub wall : Cell
wall = barred_cell

abbrev pub board : Size → List Cell → List ℕ → Board
board size cells groups = record { size = size; cells = cells; groups = groups }

-- pad 1 in group 1 and pad 2 in group 2
abbrev pub apart : List ℕ
apart = 1 ∷ 2 ∷ []

abbrev pub size_1_1 : Size
size_1_1 = record {
  rows = 1;
  columns = 1;
  some_rows = lit≤ tt;
  few_rows = lit≤ tt;
  some_columns = lit≤ tt;
  few_columns = lit≤ tt;
}

abbrev pub size_1_3 : Size
size_1_3 = record {
  rows = 1;
  columns = 3;
  some_rows = lit≤ tt;
  few_rows = lit≤ tt;
  some_columns = lit≤ tt;
  few_columns = lit≤ tt;
}

abbrev pub size_2_2 : Size
size_2_2 = record {
  rows = 2;
  columns = 2;
  some_rows = lit≤ tt;
  few_rows = lit≤ tt;
  some_columns = lit≤ tt;
  few_columns = lit≤ tt;
}

abbrev pub size_2_3 : Size
size_2_3 = record {
  rows = 2;
  columns = 3;
  some_rows = lit≤ tt;
  few_rows = lit≤ tt;
  some_columns = lit≤ tt;
  few_columns = lit≤ tt;
}

abbrev pub size_3_3 : Size
size_3_3 = record {
  rows = 3;
  columns = 3;
  some_rows = lit≤ tt;
  few_rows = lit≤ tt;
  some_columns = lit≤ tt;
  few_columns = lit≤ tt;
}

-- one cell, in group 1
abbrev pub one_cell : Board
one_cell = board size_1_1 (spot 0 1 ∷ []) apart

-- a hill between two pads, a wall between them, and a flat strip with both pads in group 1
abbrev pub strip : Board
strip = board size_1_3 (spot 0 1 ∷ spot 5 0 ∷ spot 0 2 ∷ []) apart

abbrev pub parted : Board
parted = board size_1_3 (spot 0 1 ∷ wall ∷ spot 0 2 ∷ []) apart

abbrev pub shared : Board
shared = board size_1_3 (spot 0 1 ∷ spot 0 0 ∷ spot 0 2 ∷ []) (1 ∷ 1 ∷ [])

-- two walls that touch at their corners, and a pad on either side
abbrev pub diagonal : Board
diagonal = board size_2_2 (spot 0 1 ∷ wall ∷ wall ∷ spot 0 2 ∷ []) apart

-- a hill that a second row goes round
abbrev pub two_rows : Board
two_rows = board size_2_3 (spot 0 1 ∷ spot 9 0 ∷ spot 0 2 ∷ spot 0 0 ∷ spot 0 0 ∷ spot 0 0 ∷ []) apart

-- a low hill, and a wall in the middle
abbrev pub three_rows : Board
three_rows =
    board size_3_3 (spot 0 1 ∷ spot 1 0 ∷ spot 0 2 ∷ spot 0 0 ∷ wall ∷ spot 0 0 ∷ spot 0 0 ∷ spot 0 0 ∷ spot 0 0 ∷ []) apart

-- the record of a reached cell with its length, pad, link and rank, and that of an unreached one
abbrev pub ranked : ℕ → ℕ → ℕ → ℕ → MapRecord ℕ
ranked length pad link rank =
    record { length = length; reached = true; pad = pad; link = link; rank = rank }

abbrev pub unreached : MapRecord ℕ
unreached = record { length = 0; reached = false; pad = 0; link = 0; rank = 0 }

-- both maps of a board by a ruler, with what is read off them
module _ {L R : Type 0} (kind : Kind L R) (ruler : Ruling L) (b : Board) where
  abbrev pub group_by : ℕ → Measuring L R
  group_by group = measuring kind (adding ruler) b group

  abbrev pub gap_by : Option L
  gap_by =
      least_sum kind ruler.sum (measured_map (group_by 1)) (measured_map (group_by 2)) (area b.size)

  abbrev pub marks_by : List ℕ
  marks_by =
      route_marks kind ruler.sum (measured_map (group_by 1)) (measured_map (group_by 2)) (area b.size)

abbrev pub units : Option Whole → Option ℕ
units None = None
units (Some length) = Some length.units

abbrev pub parts : Option Counted → Option (ℕ × ℕ)
parts None = None
parts (Some length) = Some (length.units, length.steps)

-- by whole lengths
module _ (formula : Step → ℕ) (b : Board) where
  abbrev pub gap : Option ℕ
  gap = units (gap_by whole_kind (whole_ruling formula) b)

  abbrev pub marks : List ℕ
  marks = marks_by whole_kind (whole_ruling formula) b

  abbrev pub map_of : ℕ → List (MapRecord ℕ)
  map_of group = measured_map (group_by whole_kind (whole_ruling formula) b group)

  abbrev pub counts : ℕ → Counts
  counts group = counts_of (group_by whole_kind (whole_ruling formula) b group)

  abbrev pub distance : ℕ → ℕ → Option ℕ
  distance group j = units (distance_at whole_kind (map_of group) j)

  abbrev pub nearest : ℕ → ℕ → Option ℕ
  nearest group j = nearest_at whole_kind (map_of group) j

-- by counted lengths
abbrev pub counted_gap : Board → Option (ℕ × ℕ)
counted_gap b = parts (gap_by counted_kind counted_chessboard b)

abbrev pub counted_marks : Board → List ℕ
counted_marks b = marks_by counted_kind counted_chessboard b
