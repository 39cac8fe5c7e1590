-- The worked examples. Assumes nothing.
use Rattle.std.specs.Prelude.{◌≡◌, ℕ, ◌++◌, [], ◌∷◌, length, replicate, Some, None, Err}
use lib.Chars.{codes}
use Rattle.gauges.specs.declared.refusal.Refusal.TheVariants as setting
use Rattle.plate.specs.declared.refusal.Refusal.TheVariants as refusal
use Rattle.sheets.specs.declared.refusal.Refusal.TheVariants.{Order, Long}
use Rattle.ending.specs.Ends.{stop_text}
use Rattle.ending.specs.declared.stop.Stop.TheVariants.{Refused, Setting}
use Rattle.gauges.specs.Rulers.{chessboard_units, euclid_units, three_four_units}
use Rattle.gauges.specs.declared.step.Step.{Step}
use Rattle.console.specs.Gaps.{gap_text, sheet_gap}
use Rattle.sheets.specs.Lines.{edit_next, fault_at, plate_asked}
use Rattle.worked_examples.specs.Boards.{counted_gap, counted_marks, counts, diagonal, distance, gap, map_of, marks, nearest, one_cell, parted, ranked, shared, strip, three_rows, two_rows, unreached}
use Rattle.worked_examples.specs.Refusals.{fence_printed, in_sheets, layers_of_calls, layers_of_sheets, numbers, torn_printed}
use Rattle.worked_examples.specs.Sheets.{fault_printed, gap_printed, none_printed, plate_line, pad_printed, sheet, sheet_at_fault, sheet_of_pad_65}

-- a step from the first cell of a board, of this height, along its row, along its column or across a corner
abbrev pub row_step : ℕ → Step
row_step height =
    record { from = record { row = 0; column = 0; height = height }; to = record { row = 0; column = 1; height = 0 } }

abbrev pub column_step : ℕ → Step
column_step height =
    record { from = record { row = 0; column = 0; height = height }; to = record { row = 1; column = 0; height = 0 } }

abbrev pub corner_step : ℕ → Step
corner_step height =
    record { from = record { row = 0; column = 0; height = height }; to = record { row = 1; column = 1; height = 0 } }

-- by chessboard unless named
pub record WorkedExamples : Type 0 where
  pub one_cell_counts : counts chessboard_units one_cell 1 ≡ record { reached = 1; steps = 0 }
  pub one_cell_distance : distance chessboard_units one_cell 1 0 ≡ Some 0
  pub strip_gap : gap chessboard_units strip ≡ Some 12
  pub strip_three_four : gap (three_four_units 1) strip ≡ Some 16
  pub strip_euclid : gap euclid_units strip ≡ Some 2610
  pub strip_counted : counted_gap strip ≡ Some (12, 2)
  pub strip_counts : counts chessboard_units strip 1 ≡ record { reached = 3; steps = 4 }
  pub strip_marks : marks chessboard_units strip ≡ 1 ∷ 1 ∷ 1 ∷ []
  pub parted_counts : counts chessboard_units parted 1 ≡ record { reached = 1; steps = 0 }
  pub parted_map : map_of chessboard_units parted 1 ≡ ranked 0 1 0 0 ∷ unreached ∷ unreached ∷ []
  pub parted_gap : gap chessboard_units parted ≡ None
  pub parted_marks : marks chessboard_units parted ≡ 0 ∷ 0 ∷ 0 ∷ []
  pub diagonal_gap : gap chessboard_units diagonal ≡ Some 1
  pub two_rows_counts : counts chessboard_units two_rows 1 ≡ record { reached = 6; steps = 22 }
  pub two_rows_map :
      map_of chessboard_units two_rows 1
      ≡ ranked 0 1 0 0 ∷ ranked 10 1 0 5 ∷ ranked 2 1 4 3 ∷ ranked 1 1 0 1 ∷ ranked 1 1 0 2 ∷ ranked 2 1 4 4 ∷ []
  pub two_rows_gap : gap chessboard_units two_rows ≡ Some 2
  pub two_rows_marks : marks chessboard_units two_rows ≡ 1 ∷ 0 ∷ 1 ∷ 0 ∷ 1 ∷ 0 ∷ []
  pub three_rows_counts : counts chessboard_units three_rows 1 ≡ record { reached = 8; steps = 24 }
  pub three_rows_gap : gap chessboard_units three_rows ≡ Some 4
  pub three_rows_marks : marks chessboard_units three_rows ≡ 1 ∷ 1 ∷ 1 ∷ 1 ∷ 0 ∷ 1 ∷ 0 ∷ 1 ∷ 0 ∷ []
  pub three_rows_counted : counted_gap three_rows ≡ Some (4, 2)
  pub three_rows_counted_marks : counted_marks three_rows ≡ 1 ∷ 1 ∷ 1 ∷ 0 ∷ 0 ∷ 0 ∷ 0 ∷ 0 ∷ 0 ∷ []
  pub shared_nearest : nearest chessboard_units shared 1 1 ≡ Some 1
  pub flat_row : euclid_units (row_step 0) ≡ 256
  pub flat_column : euclid_units (column_step 0) ≡ 256
  pub flat_corner : euclid_units (corner_step 0) ≡ 362
  pub steep_corner : euclid_units (corner_step 65535) ≡ 16776960
  pub three_four_row : three_four_units 2 (row_step 5) ≡ 13
  pub three_four_column : three_four_units 2 (column_step 5) ≡ 13
  pub three_four_corner : three_four_units 2 (corner_step 5) ≡ 14
  pub refusal_numbers : numbers ≡ 1 ∷ 2 ∷ 3 ∷ 4 ∷ 5 ∷ 6 ∷ 7 ∷ 8 ∷ 9 ∷ 10 ∷ 11 ∷ 12 ∷ 13 ∷ 14 ∷ []
  pub refusal_numbers_in_sheets : in_sheets ≡ 1 ∷ 2 ∷ 3 ∷ 4 ∷ 5 ∷ 6 ∷ 7 ∷ 8 ∷ []
  pub layers_by_plate : layers_of_calls ≡ replicate 8 (codes "plate")
  pub layers_by_sheet : layers_of_sheets ≡ codes "sheet" ∷ codes "figure" ∷ codes "sheet" ∷ codes "sheet" ∷ []
  pub refusal_printed : stop_text (Refused refusal.Torn) ≡ Some torn_printed
  pub setting_printed : stop_text (Setting setting.Fence) ≡ Some fence_printed
  pub second_plate : plate_asked (length (plate_line ++ plate_line)) 1 plate_line ≡ Err (fault_at 2 0 Order)
  pub edit_too_soon : edit_next (length sheet) 0 sheet ≡ Err (fault_at 1 0 Order)
  pub long_before_order : edit_next 32769 0 sheet ≡ Err (fault_at 0 0 Long)
  pub sheet_none_printed : gap_text (sheet_gap plate_line) ≡ none_printed
  pub sheet_gap_printed : gap_text (sheet_gap sheet) ≡ gap_printed
  pub pad_fault_printed : gap_text (sheet_gap sheet_of_pad_65) ≡ pad_printed
  pub sheet_fault_printed : gap_text (sheet_gap sheet_at_fault) ≡ fault_printed
