-- The lent tables, as a loan of their values leaves them. Assumes nothing.
use Rattle.std.specs.Prelude.{ℕ, List}
use Rattle.std.specs.Borrow.{Array, Fml, Lends, MutBor, u64}
use Rattle.board.specs.contracts.cell.Cell.{the_row as cell_row}
use Rattle.board.specs.contracts.record.MapRecord.{the_row as record_row}
use Rattle.board.specs.declared.cell.Cell.{Cell}
use Rattle.board.specs.declared.record.MapRecord.{MapRecord}
use Rattle.queue.specs.contracts.offer.Offer.{the_row as offer_row}
use Rattle.queue.specs.declared.offer.Offer.{Offer}
use Rattle.plate_c.specs.contracts.lent.LentCells.{the_row as lent_cells}
use Rattle.plate_c.specs.contracts.lent.LentEntries.{the_row as lent_entries}
use Rattle.plate_c.specs.contracts.lent.LentMap.{the_row as lent_map}
use Rattle.plate_c.specs.declared.lent.LentCells.{LentCells}
use Rattle.plate_c.specs.declared.lent.LentEntries.{LentEntries}
use Rattle.plate_c.specs.declared.lent.LentMap.{LentMap}

-- the same table with other values
abbrev pub with_cells : LentCells → List Cell → LentCells
with_cells t xs = record t { cells = xs }

abbrev pub with_map : LentMap → List (MapRecord ℕ) → LentMap
with_map t xs = record t { map = xs }

abbrev pub with_entries : LentEntries → List (Offer ℕ) → LentEntries
with_entries t xs = record t { entries = xs }

-- the table ends with the values that the slice ends with
abbrev pub LendsCells : MutBor LentCells → MutBor (List Cell) → Fml
LendsCells t r = Lends lent_cells (Array cell_row 0) t r (with_cells t.now)

abbrev pub LendsMap : MutBor LentMap → MutBor (List (MapRecord ℕ)) → Fml
LendsMap t r = Lends lent_map (Array (record_row u64) 0) t r (with_map t.now)

abbrev pub LendsEntries : MutBor LentEntries → MutBor (List (Offer ℕ)) → Fml
LendsEntries t r = Lends lent_entries (Array (offer_row u64) 0) t r (with_entries t.now)
