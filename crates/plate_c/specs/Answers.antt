-- What measuring for C answers and writes. Assumes nothing.
use Rattle.std.specs.Prelude.{◌≡◌, ℕ, ◌*◌, Bool, false, cond, not, ◌||◌, List, ◌++◌, map, length, drop, replicate, Some, None, Option, ◌==◌, nat_lt}
use Rattle.std.specs.List.{list_any}
use Rattle.board.specs.Outcomes.{refuse}
use Rattle.board.specs.Sizes.{Sized, area, area_asked, bad_size}
use Rattle.board.specs.Tables.{pads}
use Rattle.board.specs.declared.cell.Cell.{Cell}
use Rattle.board.specs.declared.record.MapRecord.{MapRecord}
use Rattle.board.specs.declared.size.Dimensions.{Dimensions}
use Rattle.board.specs.declared.size.Size.{Size}
use Rattle.lengths.specs.declared.whole.Whole.{Whole}
use Rattle.measuring.specs.Boards.{on}
use Rattle.measuring.specs.ByChessboard.{by_chessboard}
use Rattle.measuring.specs.Maps.{counts_of, entries_per_cell, measured_map}
use Rattle.measuring.specs.Paths.{Measuring}
use Rattle.measuring.specs.declared.Counts.{Counts}
use Rattle.plate.specs.Edits.{groups_edited}
use Rattle.plate.specs.Refusals.{number}
use Rattle.plate.specs.declared.edit.Edit.TheVariants as edit
use Rattle.plate.specs.declared.refusal.Refusal.{Refusal}
use Rattle.plate.specs.declared.refusal.Refusal.TheVariants as refusal
use Rattle.queue.specs.declared.offer.Offer.{Offer}
use Rattle.plate_c.specs.declared.Record.{Record}
use Rattle.plate_c.specs.declared.Room.{Room}
use Rattle.plate_c.specs.declared.Spot.{Spot}

-- a plate that is to be measured: its dimensions, and a spot for each cell
pub record Asked : Type 0 where
  pub dimensions : Dimensions
  pub spots : List Spot

abbrev pub asked : Dimensions → List Spot → Asked
asked dimensions spots = record { dimensions = dimensions; spots = spots }

abbrev pub by_sides : (rows columns : ℕ) → Dimensions
by_sides rows columns = record { rows = rows; columns = columns }

-- a table has no room for a board of so many cells: each takes one, and the queue's nine for each cell
abbrev pub short_of : Room → ℕ → Bool
short_of room n =
    nat_lt room.cells n ||
    (nat_lt room.map n || (nat_lt room.entries (entries_per_cell * n) || nat_lt room.records n))

-- spots that are not one for each cell, or a table with no room
abbrev pub bad_tables : Asked → Room → Bool
bad_tables plate room =
    let n = area_asked plate.dimensions in
    not (length plate.spots == n) || short_of room n

-- a spot with a pad above 64
abbrev pub unknown_pad : List Spot → Bool
unknown_pad spots = list_any (λ spot. nat_lt pads spot.pad) spots

-- a size that no plate has; spots or tables that do not fit it; an unknown pad
abbrev pub plate_refusal : Asked → Room → Option Refusal
plate_refusal plate room =
    refuse (bad_size plate.dimensions) refusal.Size
    (refuse (bad_tables plate room) refusal.Tables
    (refuse (unknown_pad plate.spots) refusal.Pad None))

-- an open cell with a spot's height and pad
abbrev pub spot_cell : Spot → Cell
spot_cell spot = record { height = spot.height; pad = spot.pad; barred = false }

-- the pad groups in which pad 1 is in group 1, and no other pad in any
abbrev pub only_pad_1 : List ℕ
only_pad_1 = groups_edited (edit.Enrol 1 1) (replicate pads 0)

-- group 1 of the plate of these spots, measured by chessboard
abbrev pub spots_measured : Size → List Spot → Measuring Whole ℕ
spots_measured size spots = by_chessboard (on size (map spot_cell spots) only_pad_1) 1

-- a map's record as C reads it
abbrev pub record_of : MapRecord ℕ → Record
record_of r = record {
  length = r.length;
  link = r.link;
  rank = r.rank;
  pad = r.pad;
  reached = cond r.reached 1 0;
}

-- what measuring hands over: the map in the table's first part, and the counts
pub record Measured (plate : Asked) (out out' : List Record) (counts : Counts) : Type 0 where
  pub size : Size
  pub sized : Sized size plate.dimensions
  pub table : out' ≡
      map record_of (measured_map (spots_measured size plate.spots)) ++ drop (area size) out
  pub counted : counts ≡ counts_of (spots_measured size plate.spots)

-- how much the tables and the records for C have room for
abbrev pub room_in : List Cell → List (MapRecord ℕ) → List (Offer ℕ) → List Record → Room
room_in cells map entries out = record {
  cells = length cells;
  map = length map;
  entries = length entries;
  records = length out;
}

-- two counts
abbrev pub counted : (reached steps : ℕ) → Counts
counted reached steps = record { reached = reached; steps = steps }

-- the number that a call answers: 0, or that of the refusal by which it is sent back
abbrev pub answer_number : Option Refusal → ℕ
answer_number None = 0
answer_number (Some e) = number e

-- what the records and the counts are after a call: those of the plate; where the call is sent back, as they were
abbrev pub HandsOver : Option Refusal → Asked → (out out' : List Record) →
    (counts counts' : Counts) → Type 0
HandsOver None plate out out' counts counts' = Measured plate out out' counts'
HandsOver (Some e) plate out out' counts counts' = (out' ≡ out) × (counts' ≡ counts)
