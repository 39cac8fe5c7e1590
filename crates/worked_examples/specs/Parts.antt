-- What single words of the definitions come to: numbers of cells and pads, rows of a table, layers and figures. Assumes nothing.
use Rattle.std.specs.Prelude.{◌≡◌, ℕ, [], ◌∷◌, List, Some, None, replicate, nat_lt, true, false}
use lib.Chars.{codes}
use Rattle.board.specs.Sizes.{area, area_asked, cell_at}
use Rattle.board.specs.Tables.{bare_cell, group_of}
use Rattle.board.specs.declared.cell.Cell.{Cell}
use Rattle.gauges.specs.Layers.{fenced, weighted_crossing, weighted_ruling}
use Rattle.gauges.specs.Meanings.{adding}
use Rattle.gauges.specs.Rulers.{chessboard}
use Rattle.gauges.specs.declared.rectangle.Rectangle.{Rectangle}
use Rattle.gauges.specs.declared.step.Step.{Step}
use Rattle.lengths.specs.Counteds.{counted, counted_kind}
use Rattle.lengths.specs.Wholes.{whole, whole_kind}
use Rattle.measuring.specs.Sums.{how_many, sum_before, sum_below}
use Rattle.plate.specs.Edits.{cells_edited, groups_edited}
use Rattle.plate.specs.Headers.{outdated, renewed, standing}
use Rattle.plate.specs.Refusals.{current}
use Rattle.plate.specs.declared.edit.Edit.TheVariants.{Set, Bar, Enrol}
use Rattle.sheets.specs.Lines.{figure_of}
use Rattle.worked_examples.specs.Boards.{size_2_3, spot, wall}
use Rattle.worked_examples.specs.Orders.{plate, rectangle}

-- a flat step from the first cell of a board to the one beside it
abbrev pub flat : Step
flat =
    record { from = record { row = 0; column = 0; height = 0 }; to = record { row = 0; column = 1; height = 0 } }

-- the rectangle of one cell
abbrev pub around : ℕ → ℕ → Rectangle
around row column = rectangle row column row column

-- the cells of a bare plate, and of one on which all are hills
abbrev pub bare : List Cell
bare = replicate 6 bare_cell

abbrev pub hills : List Cell
hills = replicate 6 (spot 9 3)

pub record Parts : Type 0 where
  pub last_cell : cell_at size_2_3 1 2 ≡ 5
  pub six_cells : area size_2_3 ≡ 6
  pub six_asked : area_asked (record { rows = 2; columns = 3 }) ≡ 6
  pub cell_set : cells_edited size_2_3 (Set 1 0 7 2) bare ≡
      bare_cell ∷ bare_cell ∷ bare_cell ∷ spot 7 2 ∷ bare_cell ∷ bare_cell ∷ []
  pub cell_barred : cells_edited size_2_3 (Bar 0 2) hills ≡
      spot 9 3 ∷ spot 9 3 ∷ wall ∷ spot 9 3 ∷ spot 9 3 ∷ spot 9 3 ∷ []
  pub wall_opened : cells_edited size_2_3 (Set 0 0 0 0) (replicate 6 wall) ≡ bare_cell ∷ replicate 5 wall
  pub enrolled_cells : cells_edited size_2_3 (Enrol 2 1) hills ≡ hills
  pub second_pad : groups_edited (Enrol 2 1) (replicate 3 0) ≡ 0 ∷ 1 ∷ 0 ∷ []
  pub pad_taken_out : groups_edited (Enrol 3 0) (replicate 3 2) ≡ 2 ∷ 2 ∷ 0 ∷ []
  pub set_groups : groups_edited (Set 0 0 7 2) (replicate 3 2) ≡ replicate 3 2
  pub barred_groups : groups_edited (Bar 0 0) (replicate 3 2) ≡ replicate 3 2
  pub outdated_both : outdated (plate true true) ≡ plate false false
  pub renewed_first : renewed 1 (plate false false) ≡ plate true false
  pub renewed_second : renewed 2 (plate false false) ≡ plate false true
  pub renewed_beside : renewed 2 (plate true false) ≡ plate true true
  pub renewed_again : renewed 1 (plate true true) ≡ plate true true
  pub standing_of_first : standing (record { size = size_2_3; first = true; second = false }) ≡ plate true false
  pub current_first : current (plate true false) 1 ≡ true
  pub current_second : current (plate true false) 2 ≡ false
  pub sum_of_four : sum_below (λ j. j) 4 ≡ 6
  pub sum_of_none : sum_below (λ j. j) 0 ≡ 0
  pub count_of_four : how_many (λ j. nat_lt 1 j) 4 ≡ 2
  pub sum_before_second_row : sum_before (λ j. j) size_2_3 1 0 ≡ 3
  pub sum_before_last : sum_before (λ j. j) size_2_3 1 2 ≡ 10
  pub byte_of_3 : group_of (1 ∷ 2 ∷ 3 ∷ []) 3 ≡ 0
  pub pad_65 : group_of (replicate 70 1) 65 ≡ 0
  pub bad_row : counted_kind.decode (record { units = 1; steps = 2 }) ≡ counted 0 0
  pub weighted_span : (weighted_ruling whole_kind 3 chessboard).span flat ≡ whole 3
  pub weighted_carry : (weighted_crossing 3 (adding chessboard)).carried flat (whole 4) ≡ whole 7
  pub second_rectangle : fenced (around 3 3 ∷ around 0 1 ∷ []) flat ≡ true
  pub beside_both : fenced (around 1 0 ∷ around 0 2 ∷ []) flat ≡ false
  pub zero_first : figure_of (codes "01") ≡ None
  pub zero_alone : figure_of (codes "0") ≡ Some 0
  pub greatest : figure_of (codes "65535") ≡ Some 65535
  pub above : figure_of (codes "65536") ≡ None
