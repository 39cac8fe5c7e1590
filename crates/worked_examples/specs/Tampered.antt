-- What tables of any content are read as: torn and odd ways, bad pads and rows, bad group bytes, walls with a height. Assumes nothing.
use Rattle.std.specs.Prelude.{◌≡◌, ℕ, List, [], ◌∷◌, Some, None, Ok, Err, Option, Result, replicate, true, false}
use Rattle.board.specs.Tables.{bare_cell, barred_cell, source_pad}
use Rattle.board.specs.declared.cell.Cell.{Cell}
use Rattle.board.specs.declared.record.MapRecord.{MapRecord}
use Rattle.plate.specs.declared.refusal.Refusal.{Refusal}
use Rattle.plate.specs.declared.refusal.Refusal.TheVariants.{Short, Torn}
use Rattle.gauges.specs.Rulers.{chessboard_units}
use Rattle.lengths.specs.Counteds.{counted_kind}
use Rattle.lengths.specs.Wholes.{whole_kind, whole_sum}
use Rattle.lengths.specs.declared.counted_row.CountedRow.{CountedRow}
use Rattle.measuring.specs.MapReadings.{distance_at, least_sum, nearest_at}
use Rattle.plate.specs.Readings.{how_many_of, way_cells, written}
use Rattle.worked_examples.specs.Boards.{apart, board, counts, gap, map_of, parts, parted, ranked, size_1_1, size_1_3, spot, units, unreached}
use Rattle.worked_examples.specs.Limits.{measured}

-- a reached record with this link, and one linked to no cell of a plate of 1 × 3
abbrev pub linked : ℕ → MapRecord ℕ
linked link = ranked 1 1 link 1

abbrev pub astray : MapRecord ℕ
astray = linked 3

-- the way from a cell of a plate of 1 × 3 in this map, into a list of so many cells
abbrev pub way_in : List (MapRecord ℕ) → ℕ → ℕ → Result (List ℕ) Refusal
way_in map column room = way_cells whole_kind measured map 0 column 1 room

-- a link that leaves the plate, with a reached record behind the needed ones; a link to an unreached cell; and circles of one, two and three steps
abbrev pub leaving : List (MapRecord ℕ)
leaving = linked 0 ∷ linked 0 ∷ astray ∷ linked 3 ∷ []

abbrev pub meeting_unreached : List (MapRecord ℕ)
meeting_unreached = linked 0 ∷ unreached ∷ linked 1 ∷ []

abbrev pub circle_of_2 : List (MapRecord ℕ)
circle_of_2 = linked 1 ∷ linked 0 ∷ linked 1 ∷ []

abbrev pub circle_of_3 : List (MapRecord ℕ)
circle_of_3 = linked 1 ∷ linked 2 ∷ linked 0 ∷ []

-- a way over all cells of the plate, and a cell whose link is no neighbour
abbrev pub one_by_one : List (MapRecord ℕ)
one_by_one = linked 0 ∷ linked 0 ∷ linked 1 ∷ []

abbrev pub jumping : List (MapRecord ℕ)
jumping = linked 0 ∷ linked 0 ∷ linked 0 ∷ []

-- a cell linked to itself at length 9, which no source has
abbrev pub self_linked : List (MapRecord ℕ)
self_linked = linked 0 ∷ ranked 9 0 1 1 ∷ linked 1 ∷ []

-- an unreached cell whose record was written into
abbrev pub written_into : MapRecord ℕ
written_into = record { length = 7; reached = false; pad = 65; link = 9; rank = 9 }

abbrev pub unreached_last : List (MapRecord ℕ)
unreached_last = linked 0 ∷ linked 0 ∷ written_into ∷ []

-- the pad and the distance that a reached record with these is read as
abbrev pub pad_read : ℕ → Option ℕ
pad_read pad = nearest_at whole_kind (ranked 4 pad 0 0 ∷ []) 0

abbrev pub counted_record : ℕ → ℕ → MapRecord CountedRow
counted_record n m =
    record { length = record { units = n; steps = m }; reached = true; pad = 1; link = 0; rank = 0 }

abbrev pub counted_read : ℕ → ℕ → Option (ℕ × ℕ)
counted_read n m = parts (distance_at counted_kind (counted_record n m ∷ []) 0)

-- the gap of one cell with these two records
abbrev pub gap_read : MapRecord ℕ → MapRecord ℕ → Option ℕ
gap_read first second = units (least_sum whole_kind whole_sum (first ∷ []) (second ∷ []) 1)

abbrev pub greatest : ℕ
greatest = 18446744073709551615

-- a barred cell with a height and a pad, which only tampering leaves
abbrev pub tall_wall : Cell
tall_wall = record { height = 9; pad = 2; barred = true }

pub record Tampered : Type 0 where
  pub link_leaves : way_in leaving 2 3 ≡ Err Torn
  pub link_meets_unreached : way_in meeting_unreached 2 3 ≡ Err Torn
  pub goes_round_two : way_in circle_of_2 2 3 ≡ Err Torn
  pub goes_round_three : way_in circle_of_3 0 3 ≡ Err Torn
  pub all_cells : way_in one_by_one 2 3 ≡ Ok (2 ∷ 1 ∷ 0 ∷ [])
  pub torn_before_short : way_in circle_of_2 2 0 ≡ Err Torn
  pub leaving_before_short : way_in leaving 2 0 ≡ Err Torn
  pub unreached_before_short : way_in meeting_unreached 2 0 ≡ Err Torn
  pub sound_is_short : way_in one_by_one 2 0 ≡ Err Short
  pub source_is_short : way_in one_by_one 0 0 ≡ Err Short
  pub unreached_into_none : way_in unreached_last 2 0 ≡ Ok []
  pub no_source_ends : way_in self_linked 2 2 ≡ Ok (2 ∷ 1 ∷ [])
  pub no_neighbour_next : way_in jumping 2 2 ≡ Ok (2 ∷ 0 ∷ [])
  pub way_counted : how_many_of (way_in jumping 2 2) ≡ Ok 2
  pub torn_counted : how_many_of (way_in leaving 2 2) ≡ Err Torn
  pub way_written : written (way_in jumping 2 4) (7 ∷ 7 ∷ 7 ∷ 7 ∷ []) ≡ 2 ∷ 0 ∷ 7 ∷ 7 ∷ []
  pub torn_writes_nothing : written (way_in leaving 2 4) (7 ∷ 7 ∷ 7 ∷ 7 ∷ []) ≡ 7 ∷ 7 ∷ 7 ∷ 7 ∷ []
  pub short_writes_nothing : written (way_in one_by_one 2 2) (7 ∷ 7 ∷ []) ≡ 7 ∷ 7 ∷ []
  pub pad_64 : pad_read 64 ≡ Some 64
  pub pad_65 : pad_read 65 ≡ Some 0
  pub pad_255 : pad_read 255 ≡ Some 0
  pub unreached_pad : nearest_at whole_kind unreached_last 2 ≡ None
  pub unreached_distance : units (distance_at whole_kind unreached_last 2) ≡ None
  pub fair_row : counted_read 2 2 ≡ Some (2, 2)
  pub bad_row : counted_read 2 3 ≡ Some (0, 0)
  pub unreached_in_second : gap_read (linked 0) written_into ≡ None
  pub unreached_in_first : gap_read written_into (linked 0) ≡ None
  pub greatest_gap : gap_read (ranked greatest 1 0 0) (ranked 0 1 0 0) ≡ Some greatest
  pub sum_beyond : gap_read (ranked greatest 1 0 0) (ranked 5 1 0 0) ≡ Some greatest
  pub wall_put : barred_cell ≡ record { height = 0; pad = 0; barred = true }
  pub bare_put : bare_cell ≡ record { height = 0; pad = 0; barred = false }
  pub tall_wall_map : map_of chessboard_units (board size_1_3 (spot 0 1 ∷ tall_wall ∷ spot 0 2 ∷ []) apart) 2 ≡ map_of chessboard_units parted 2
  pub tall_wall_gap : gap chessboard_units (board size_1_3 (spot 0 1 ∷ tall_wall ∷ spot 0 2 ∷ []) apart) ≡ None
  pub tall_wall_source : source_pad tall_wall apart 2 ≡ 0
  pub open_source : source_pad (spot 9 2) apart 2 ≡ 2
  pub source_64 : source_pad (spot 0 64) (replicate 64 2) 2 ≡ 64
  pub no_source_65 : source_pad (spot 0 65) (replicate 70 1) 1 ≡ 0
  pub no_source_0 : source_pad (spot 0 0) (replicate 64 1) 1 ≡ 0
  pub byte_3_first : source_pad (spot 0 1) (3 ∷ []) 1 ≡ 0
  pub byte_3_second : source_pad (spot 0 1) (3 ∷ []) 2 ≡ 0
  pub map_of_pad_65 : counts chessboard_units (board size_1_1 (spot 0 65 ∷ []) (replicate 70 1)) 1 ≡ record { reached = 0; steps = 0 }
  pub map_of_byte_3 : counts chessboard_units (board size_1_1 (spot 0 1 ∷ []) (3 ∷ [])) 2 ≡ record { reached = 0; steps = 0 }
