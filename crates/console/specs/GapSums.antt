-- What the gap of a sheet and its line say of lists of neighbours between the groups of its board. Assumes nothing.
use Rattle.std.specs.Prelude.{◌≡◌, ◌↔◌, ℕ, ◌^◌, ◌<◌, List, Some, None, Ok, Err, Option, Result, IsOkAnd, MatchOption}
use Rattle.board.specs.declared.size.Size.{Size}
use Rattle.console.specs.Gaps.{gap_text, sheet_read}
use Rattle.gauges.specs.Rulers.{chessboard_units}
use Rattle.geodesics.specs.GapSums.{LeastSumBetween, NoListBetween}
use Rattle.lengths.specs.Wholes.{whole}
use Rattle.lengths.specs.declared.whole.Whole.{Whole}
use Rattle.measuring.specs.Boards.{Board, on}
use Rattle.sheets.specs.declared.fault.Fault.{Fault}

-- a gap is the least plain sum by chessboard over the lists of neighbours from group 1 to group 2, and below 2^40;
-- none is given only where there is no such list
abbrev pub IsLeastGap : Board → Option Whole → Type 0
IsLeastGap b gap =
    MatchOption gap (NoListBetween chessboard_units b)
    (λ gap. LeastSumBetween chessboard_units b gap.units)

-- a line is that of a least gap, so that a number that it prints is the least sum, and it is `none` exactly where
-- there is no list
pub record PrintsLeastGap (b : Board) (line : List ℕ) : Type 0 where
  pub gap : Option Whole
  pub text : line ≡ gap_text (Ok gap)
  pub least : IsLeastGap b gap
  pub number : (n : ℕ) → n < 2 ^ 64 → line ≡ gap_text (Ok (Some (whole n))) →
      LeastSumBetween chessboard_units b n
  pub none : (line ≡ gap_text (Ok None)) ↔ NoListBetween chessboard_units b

-- the board of the plate that a sheet gives
abbrev pub sheet_board : List ℕ → Size → Board
sheet_board sheet size = let r = sheet_read sheet in on size r.cells r.groups

-- where a sheet gives a plate, the gap is least on that plate's board, and else it is the sheet's fault
pub record GivesLeastGap (sheet : List ℕ) (given : Result (Option Whole) Fault) : Type 0 where
  pub plate : (size : Size) → (sheet_read sheet).answer ≡ Ok size →
      IsOkAnd given (IsLeastGap (sheet_board sheet size))
  pub at_fault : (fault : Fault) → (sheet_read sheet).answer ≡ Err fault → given ≡ Err fault

-- likewise the line
pub record TellsLeastGap (sheet line : List ℕ) : Type 0 where
  pub plate : (size : Size) → (sheet_read sheet).answer ≡ Ok size →
      PrintsLeastGap (sheet_board sheet size) line
  pub at_fault : (fault : Fault) → (sheet_read sheet).answer ≡ Err fault → line ≡ gap_text (Err fault)
