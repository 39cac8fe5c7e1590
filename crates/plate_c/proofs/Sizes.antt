-- How many bytes C lends for each cell, map record and entry, and how these are aligned. Assumes nothing.
use Rattle.std.proofs.Common.{◌≡◌, refl}
use Rattle.std.specs.Align.{type_align}
use Rattle.std.specs.Borrow.{u64}
use Rattle.std.specs.Mem.{type_size}
use Rattle.board.specs.contracts.cell.Cell.{the_row as cell_row}
use Rattle.board.specs.contracts.record.MapRecord.{the_row as record_row}
use Rattle.queue.specs.contracts.offer.Offer.{the_row as offer_row}

pub cell_takes : type_size cell_row ≡ 4
cell_takes = refl

pub record_takes : type_size (record_row u64) ≡ 16
record_takes = refl

pub entry_takes : type_size (offer_row u64) ≡ 16
entry_takes = refl

pub cell_lies : type_align cell_row ≡ 2
cell_lies = refl

pub record_lies : type_align (record_row u64) ≡ 8
record_lies = refl

pub entry_lies : type_align (offer_row u64) ≡ 8
entry_lies = refl
