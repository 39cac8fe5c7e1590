-- The line that `gap` prints of a sheet. Assumes nothing.
use Rattle.std.specs.Prelude.{ℕ, List, [], ◌∷◌, ◌++◌, Some, None, Ok, Err, Option, Result, replicate, decimal}
use lib.Chars.{codes}
use Rattle.board.specs.Sizes.{area}
use Rattle.board.specs.Tables.{bare_cell, pads}
use Rattle.board.specs.declared.cell.Cell.{Cell}
use Rattle.board.specs.declared.size.Size.{Size}
use Rattle.gauges.specs.Rulers.{chessboard}
use Rattle.lengths.specs.Wholes.{whole_kind}
use Rattle.lengths.specs.declared.whole.Whole.{Whole}
use Rattle.measuring.specs.Boards.{Board, on}
use Rattle.measuring.specs.ByChessboard.{by_chessboard}
use Rattle.measuring.specs.MapReadings.{least_sum}
use Rattle.measuring.specs.Maps.{measured_map}
use Rattle.sheets.specs.Reading.{Reading, reading}
use Rattle.sheets.specs.Words.{fault_text}
use Rattle.sheets.specs.declared.fault.Fault.{Fault}

-- the gap of a board by chessboard: the least sum of a cell's distances in the maps of both groups, or none
abbrev pub board_gap : Board → Option Whole
board_gap b =
    least_sum whole_kind chessboard.sum
    (measured_map (by_chessboard b 1)) (measured_map (by_chessboard b 2)) (area b.size)

-- the gap of the plate that a reading gives, or its fault
abbrev pub gap_or_fault : Result Size Fault → List Cell → List ℕ → Result (Option Whole) Fault
gap_or_fault (Ok size) cells groups = Ok (board_gap (on size cells groups))
gap_or_fault (Err fault) cells groups = Err fault

abbrev pub gap_read : Reading → Result (Option Whole) Fault
gap_read r = gap_or_fault r.answer r.cells r.groups

-- what a sheet comes to that is read into tables for 256 cells
abbrev pub sheet_read : List ℕ → Reading
sheet_read sheet = reading sheet (replicate 256 bare_cell) (replicate pads 0)

-- the gap of such a sheet
abbrev pub sheet_gap : List ℕ → Result (Option Whole) Fault
sheet_gap sheet = gap_read (sheet_read sheet)

-- a line: `gap`, tab, the number; or `gap`, tab, `none`; or the fault
abbrev pub gap_text : Result (Option Whole) Fault → List ℕ
gap_text (Ok (Some gap)) = codes "gap" ++ (9 ∷ decimal gap.units) ++ (10 ∷ [])
gap_text (Ok None) = codes "gap" ++ (9 ∷ codes "none") ++ (10 ∷ [])
gap_text (Err fault) = fault_text fault ++ (10 ∷ [])
