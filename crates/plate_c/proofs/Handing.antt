-- What is handed over of a plate that was made of spots. Assumes nothing.
use Rattle.std.proofs.Common.{◌≡◌, ℕ, List, ◌++◌, map, length, drop, ap, ◌∙◌}
use Rattle.board.specs.Sizes.{Sized}
use Rattle.board.specs.declared.cell.Cell.{Cell}
use Rattle.board.specs.declared.record.MapRecord.{MapRecord}
use Rattle.board.specs.declared.size.Size.{Size}
use Rattle.measuring.specs.Boards.{on}
use Rattle.measuring.specs.ByChessboard.{by_chessboard}
use Rattle.measuring.specs.Maps.{counts_of, measured_map}
use Rattle.measuring.specs.declared.Counts.{Counts}
use Rattle.measuring.proofs.Maps.{map_length}
use Rattle.plate_c.specs.Answers.{Asked, Measured, only_pad_1, record_of, spot_cell, spots_measured}
use Rattle.plate_c.specs.declared.Record.{Record}

pub handed_over : (plate : Asked) (size : Size) (cells : List Cell) (groups : List ℕ) →
    (found : List (MapRecord ℕ)) (out out' : List Record) (counts : Counts) →
    Sized size plate.dimensions →
    cells ≡ map spot_cell plate.spots →
    groups ≡ only_pad_1 →
    found ≡ measured_map (by_chessboard (on size cells groups) 1) →
    counts ≡ counts_of (by_chessboard (on size cells groups) 1) →
    out' ≡ map record_of found ++ drop (length found) out →
    Measured plate out out' counts
handed_over plate size cells groups found out out' counts sized cells' groups' found' counts' written =
    let map_is = found' ∙ (λ i. measured_map (by_chessboard (on size (cells' i) (groups' i)) 1)) in
    let long = ap length map_is ∙ map_length (spots_measured size plate.spots) in
    record {
      size = size;
      sized = sized;
      table = written ∙ (λ i. map record_of (map_is i) ++ drop (long i) out);
      counted = counts' ∙ (λ i. counts_of (by_chessboard (on size (cells' i) (groups' i)) 1));
    }
