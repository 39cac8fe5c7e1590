-- A board as its tables hold it: sources, neighbours and steps. Cells go by their numbers. Assumes
-- nothing.
use Rattle.std.specs.Prelude.{ℕ, ◌/◌, ◌%◌, Bool, cond, not, ◌&&◌, List, nat_lt, slice_index_or}
use Rattle.board.specs.Sizes.{area}
use Rattle.board.specs.Tables.{barred_cell, source_pad}
use Rattle.board.specs.declared.cell.Cell.{Cell}
use Rattle.board.specs.declared.size.Size.{Size}
use Rattle.gauges.specs.Steps.{neighbours}
use Rattle.gauges.specs.declared.step.Point.{Point}
use Rattle.gauges.specs.declared.step.Step.{Step}
use Rattle.measuring.specs.Sums.{how_many}

pub record Board : Type 0 where
  pub size : Size
  pub cells : List Cell
  pub groups : List ℕ

abbrev pub on : Size → List Cell → List ℕ → Board
on size cells groups = record { size = size; cells = cells; groups = groups }

-- what lies beyond the table counts as barred
abbrev pub cell : Board → ℕ → Cell
cell b i = slice_index_or b.cells i barred_cell

abbrev pub is_open : Board → ℕ → Bool
is_open b i = nat_lt i (area b.size) && not (cell b i).barred

-- the pad by which a cell is a source of the group: an open cell whose pad is in it; 0 where it is
-- no source
abbrev pub source_of : Board → ℕ → ℕ → ℕ
source_of b group i = cond (nat_lt i (area b.size)) (source_pad (cell b i) b.groups group) 0

-- where a cell is, and how high
abbrev pub point : Board → ℕ → Point
point b i = record {
  row = i / b.size.columns;
  column = i % b.size.columns;
  height = (cell b i).height;
}

-- the step from one cell to another
abbrev pub step : Board → ℕ → ℕ → Step
step b i j = record { from = point b i; to = point b j }

-- whether j is a neighbour of i, and open
abbrev pub open_neighbour : Board → ℕ → ℕ → Bool
open_neighbour b i j =
    neighbours (point b i).row (point b i).column (point b j).row (point b j).column &&
    is_open b j

-- how many open neighbours a cell has
abbrev pub open_neighbours : Board → ℕ → ℕ
open_neighbours b i = how_many (open_neighbour b i) (area b.size)
