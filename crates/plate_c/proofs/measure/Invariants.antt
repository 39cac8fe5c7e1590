-- Each measuring gives the same map and counts. Assumes nothing.
use Rattle.std.proofs.Common.{◌≡◌, length}
use Rattle.measuring.specs.Boards.{on}
use Rattle.measuring.specs.ByChessboard.{by_chessboard}
use Rattle.measuring.specs.Maps.{counts_of, entries_needed, measured_map}
use Rattle.plate_c.proofs.measure.Given as goal

abbrev pub invariant-loop : goal.invariant-loop
invariant-loop l =
    let m = by_chessboard (on l.fn.draft.header.size l.cells l.groups) 1 in
    record {
      size : l.draft.header.size ≡ l.fn.draft.header.size;
      map : l.map ≡ measured_map m;
      entries : length l.entries ≡ entries_needed l.fn.draft.header.size;
      counts : l.counts ≡ counts_of m;
    }
