-- Where a reader is in its sheet, and where it goes. Assumes nothing.
use Rattle.std.specs.Prelude.{◌≡◌, ℕ, ◌+◌, ◌<◌, ◌≤◌, List, [], ◌∷◌, length, drop, Some, None, Ok, Err, Option, Result}
use Rattle.board.specs.declared.size.Dimensions.{Dimensions}
use Rattle.plate.specs.declared.edit.Edit.{Edit}
use Rattle.sheets.specs.Lines.{edit_next, ended, ended_lines, left_over, leftover, plate_asked}
use Rattle.sheets.specs.Reading.{Entered, Reading, edits_read}
use Rattle.sheets.specs.Tokens.{fields_left}
use Rattle.sheets.specs.declared.fault.Fault.{Fault}
use Rattle.sheets.specs.declared.line.Line.{Line}
use Rattle.sheets.specs.declared.reader.SheetReader.{SheetReader}

-- a text begins with a part that this byte ends, and has this rest behind it
pub record Parts (end : ℕ) (bytes first behind : List ℕ) : Type 0 where
  pub ended : ended end bytes ≡ first ∷ ended end behind
  pub left_over : left_over end bytes ≡ left_over end behind
  pub rest : behind ≡ drop (length first + 1) bytes
  pub within : length first + 1 ≤ length bytes

-- no part of a text is ended by this byte
pub record Unended (end : ℕ) (bytes : List ℕ) : Type 0 where
  pub ended : ended end bytes ≡ []
  pub left_over : left_over end bytes ≡ bytes

-- so many fields of a line are read
pub record Reads (count : ℕ) (old new : Line) : Type 0 where
  pub line : new.place.line ≡ old.place.line
  pub field : new.place.field ≡ old.place.field + count
  pub rest : fields_left new.rest ≡ drop count (fields_left old.rest)

-- the bytes that are not read yet
abbrev pub unread : SheetReader → List ℕ
unread r = drop r.place r.sheet.now

-- what a reader reads as the plate's line, and as the next one after it
abbrev pub next_plate : SheetReader → Result Dimensions Fault
next_plate r = plate_asked (length r.sheet.now) r.line (unread r)

abbrev pub next_edit : SheetReader → Result (Option Edit) Fault
next_edit r = edit_next (length r.sheet.now) r.line (unread r)

-- the reader has passed one line
pub record Passes (old new : SheetReader) : Type 0 where
  pub sheet : new.sheet ≡ old.sheet
  pub line : new.line ≡ old.line + 1
  pub on : old.place < new.place
  pub lines : drop 1 (ended_lines (unread old)) ≡ ended_lines (unread new)
  pub rest : leftover (unread old) ≡ leftover (unread new)

-- where a reader is after its next line: past an edit, and else where it was
abbrev pub Goes : SheetReader → SheetReader → Result (Option Edit) Fault → Type 0
Goes old new (Ok (Some e)) = Passes old new
Goes old new (Ok None) = new ≡ old
Goes old new (Err fault) = new ≡ old

-- what follows of a sheet from where its reader is
abbrev pub reading_on : SheetReader → Entered → Reading
reading_on r s = edits_read (ended_lines (unread r)) (leftover (unread r)) (r.line + 1) s
