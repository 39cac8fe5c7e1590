-- Plain sums over lists of neighbours, to a cell and between the groups. Assumes nothing.
use Rattle.std.specs.Prelude.{◌≡◌, [], ◌∷◌, Some, None}
use Rattle.gauges.specs.Rulers.{chessboard_units, euclid_units, three_four_units}
use Rattle.geodesics.specs.GapSums.{sum_between}
use Rattle.geodesics.specs.Transform.{plain_sum}
use Rattle.worked_examples.specs.Boards.{diagonal, one_cell, parted, strip, two_rows}

-- by chessboard unless named; a list has its end first
pub record Sums : Type 0 where
  pub source_alone : plain_sum chessboard_units one_cell 1 (0 ∷ []) ≡ Some 0
  pub to_the_hill : plain_sum chessboard_units strip 1 (1 ∷ 0 ∷ []) ≡ Some 6
  pub from_no_source : plain_sum chessboard_units strip 1 (0 ∷ 1 ∷ []) ≡ None
  pub of_no_cell : plain_sum chessboard_units strip 1 [] ≡ None
  pub across : sum_between chessboard_units strip 2 (1 ∷ 0 ∷ []) ≡ Some 12
  pub across_by_three_four : sum_between (three_four_units 1) strip 2 (1 ∷ 0 ∷ []) ≡ Some 16
  pub across_by_euclid : sum_between euclid_units strip 2 (1 ∷ 0 ∷ []) ≡ Some 2610
  pub turned_back : sum_between chessboard_units strip 2 (1 ∷ 2 ∷ 1 ∷ 0 ∷ []) ≡ Some 24
  pub ends_at_no_source : sum_between chessboard_units strip 1 (0 ∷ []) ≡ None
  pub ends_in_group_1 : sum_between chessboard_units strip 0 [] ≡ None
  pub begins_in_group_2 : sum_between chessboard_units strip 2 [] ≡ None
  pub over_two_cells : sum_between chessboard_units strip 2 (0 ∷ []) ≡ None
  pub through_a_wall : sum_between chessboard_units parted 2 (1 ∷ 0 ∷ []) ≡ None
  pub between_walls : sum_between chessboard_units diagonal 3 (0 ∷ []) ≡ Some 1
  pub round_the_hill : sum_between chessboard_units two_rows 2 (4 ∷ 0 ∷ []) ≡ Some 2
  pub over_the_hill : sum_between chessboard_units two_rows 2 (1 ∷ 0 ∷ []) ≡ Some 20
