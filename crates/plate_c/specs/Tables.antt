-- What C lends to measure in, before and after a call. Assumes nothing.
use Rattle.std.specs.Prelude.{◌≡◌, ℕ, ◌*◌, drop}
use Rattle.measuring.specs.Maps.{entries_per_cell}
use Rattle.plate_c.specs.declared.Room.{Room}
use Rattle.plate_c.specs.declared.lent.Tables.{Tables}

-- how much there is room for, with so many records for C
abbrev pub room_of : Tables → ℕ → Room
room_of t records = record {
  cells = t.cells.len;
  map = t.map.len;
  entries = t.entries.len;
  records = records;
}

-- each table lies where it lay, is as long as it was, and holds behind the part that a board of so many cells needs what it
-- held
pub record Stay (n : ℕ) (old new : Tables) : Type 0 where
  pub cells_at : new.cells.at ≡ old.cells.at
  pub cells_len : new.cells.len ≡ old.cells.len
  pub cells_behind : drop n new.cells.cells ≡ drop n old.cells.cells
  pub map_at : new.map.at ≡ old.map.at
  pub map_len : new.map.len ≡ old.map.len
  pub map_behind : drop n new.map.map ≡ drop n old.map.map
  pub entries_at : new.entries.at ≡ old.entries.at
  pub entries_len : new.entries.len ≡ old.entries.len
  pub entries_behind :
      drop (entries_per_cell * n) new.entries.entries ≡ drop (entries_per_cell * n) old.entries.entries
