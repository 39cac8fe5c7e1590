-- What reading a sheet comes to: a plate's size or the first fault, and the tables afterwards. Assumes nothing.
use Rattle.std.specs.Prelude.{◌≡◌, ℕ, ◌+◌, ◌==◌, false, cond, List, [], ◌∷◌, length, drop, nat_le, Some, None, Ok, Err, Option, Result, option_map}
use Rattle.board.specs.Outcomes.{after}
use Rattle.board.specs.Sizes.{bad_side}
use Rattle.board.specs.declared.cell.Cell.{Cell}
use Rattle.board.specs.declared.size.Dimensions.{Dimensions}
use Rattle.board.specs.declared.size.Size.{Size}
use Rattle.plate.specs.Edits.{cells_edited, groups_edited, opened_cells, opened_groups}
use Rattle.plate.specs.Refusals.{edit_refusal, open_refusal}
use Rattle.plate.specs.declared.edit.Edit.{Edit}
use Rattle.plate.specs.declared.edit.Edit.TheVariants as edit
use Rattle.plate.specs.declared.header.Draft.{Draft}
use Rattle.plate.specs.declared.refusal.Refusal.{Refusal as PlateRefusal}
use Rattle.plate.specs.declared.refusal.Refusal.TheVariants as plate_refusal
use Rattle.sheets.specs.Lines.{edit_in, ended_lines, fault_at, fields_of, leftover, plate_asked}
use Rattle.sheets.specs.Sizes.{size_of}
use Rattle.sheets.specs.declared.fault.Fault.{Fault}
use Rattle.sheets.specs.declared.refusal.Refusal.TheVariants as refusal

-- what the lines so far have entered: the size of the plate, and its tables
pub record Entered : Type 0 where
  pub size : Size
  pub cells : List Cell
  pub groups : List ℕ

abbrev pub entered : Size → List Cell → List ℕ → Entered
entered size cells groups = record { size = size; cells = cells; groups = groups }

-- what a draft and its tables have of them
abbrev pub entered_on : Draft → List Cell → List ℕ → Entered
entered_on draft cells groups = entered draft.header.size cells groups

-- the plate's size or the fault, and the tables afterwards
pub record Reading : Type 0 where
  pub answer : Result Size Fault
  pub cells : List Cell
  pub groups : List ℕ

abbrev pub come_to : Result Size Fault → List Cell → List ℕ → Reading
come_to answer cells groups = record { answer = answer; cells = cells; groups = groups }

-- the size of the plate that is given, or the fault
abbrev pub size_or_fault : Result Draft Fault → Result Size Fault
size_or_fault (Ok draft) = Ok draft.header.size
size_or_fault (Err fault) = Err fault

-- no map of the plate is current
pub record IsUnmeasured (draft : Draft) : Type 0 where
  pub first : draft.header.first ≡ false
  pub second : draft.header.second ≡ false

abbrev pub read_whole : Entered → Reading
read_whole s = come_to (Ok s.size) s.cells s.groups

-- the lines before the fault have done their work, but no plate comes back
abbrev pub stopped : Fault → List Cell → List ℕ → Reading
stopped fault cells groups = come_to (Err fault) cells groups

-- the plate's own answer to an edit
abbrev pub plate_answer : Edit → Entered → Option PlateRefusal
plate_answer e s = edit_refusal s.size (length s.cells) (length s.groups) e

-- what is entered after an edit that is accepted
abbrev pub edited : Edit → Entered → Entered
edited e s = entered s.size (cells_edited s.size e s.cells) (groups_edited e s.groups)

-- what is entered after an edit; one that is sent back leaves it as it was
abbrev pub after_edit : Edit → Entered → Entered
after_edit e s = after (plate_answer e s) s (edited e s)

-- the field that a refusal speaks of: the row where that is off the plate, else the column
abbrev pub field_off : Size → ℕ → ℕ
field_off size row = cond (nat_le size.rows row) 1 2

abbrev pub set_field : Size → ℕ → PlateRefusal → ℕ
set_field size row plate_refusal.Off = field_off size row
set_field size row plate_refusal.Pad = 4
set_field size row _ = 0

abbrev pub bar_field : Size → ℕ → PlateRefusal → ℕ
bar_field size row plate_refusal.Off = field_off size row
bar_field size row _ = 0

abbrev pub enrol_field : PlateRefusal → ℕ
enrol_field plate_refusal.Pad = 1
enrol_field plate_refusal.Group = 2
enrol_field _ = 0

abbrev pub edit_field : Edit → Size → PlateRefusal → ℕ
edit_field (edit.Set row column height pad) size r = set_field size row r
edit_field (edit.Bar row column) size r = bar_field size row r
edit_field (edit.Enrol pad group) size r = enrol_field r

-- the fault of an edit of this line that the plate refuses so
abbrev pub refused_at : ℕ → Edit → Entered → PlateRefusal → Fault
refused_at line e s r = fault_at line (edit_field e s.size r) (refusal.Plate r)

-- what an edit of this line is at fault in, if anything
abbrev pub edit_fault : ℕ → Edit → Entered → Option Fault
edit_fault line e s = option_map (refused_at line e s) (plate_answer e s)

-- nothing, or a fault
abbrev pub done_or : Option Fault → Result Unit Fault
done_or None = Ok tt
done_or (Some fault) = Err fault

-- the field of the rows where these are bad, else of the columns; too short a table has none
abbrev pub open_field : Dimensions → PlateRefusal → ℕ
open_field asked plate_refusal.Size = cond (bad_side asked.rows) 1 2
open_field asked _ = 0

-- the fault of a plate's line that the plate refuses so
abbrev pub not_opened_at : Dimensions → PlateRefusal → Fault
not_opened_at asked r = fault_at 1 (open_field asked r) (refusal.Plate r)

-- what the plate's line is at fault in, if anything
abbrev pub open_fault : Dimensions → List Cell → List ℕ → Option Fault
open_fault asked cells groups =
    option_map (not_opened_at asked) (open_refusal asked (length cells) (length groups))

-- a plate just opened
abbrev pub opened : Dimensions → List Cell → List ℕ → Entered
opened asked cells groups = entered (size_of asked) (opened_cells asked cells) (opened_groups groups)

-- what goes on, unless this fault comes first and leaves the tables so
abbrev pub unless_at_fault : Option Fault → List Cell → List ℕ → Reading → Reading
unless_at_fault None cells groups on = on
unless_at_fault (Some fault) cells groups on = stopped fault cells groups

-- one line's edit is made, and what is behind it is read
abbrev pub edit_read : Result Edit Fault → (Edit → Reading) → ℕ → Entered → Reading
edit_read (Err fault) on line s = stopped fault s.cells s.groups
edit_read (Ok e) on line s = unless_at_fault (edit_fault line e s) s.cells s.groups (on e)

-- what no line feed ends is a fault of its line, unless nothing is left
abbrev pub end_fault : List ℕ → ℕ → Option Fault
end_fault rest line = cond (length rest == 0) None (Some (fault_at line 0 refusal.Line))

-- the lines after the first, from this number on, and what no line feed ends
unfoldable pub edits_read : List (List ℕ) → List ℕ → ℕ → Entered → Reading
edits_read [] rest line s = unless_at_fault (end_fault rest line) s.cells s.groups (read_whole s)
edits_read (first ∷ lines) rest line s =
    edit_read (edit_in line (fields_of first))
    (λ e. edits_read lines rest (line + 1) (edited e s)) line s

-- what opening the plate of a first line comes to
abbrev pub opening : Dimensions → List Cell → List ℕ → Reading
opening asked cells groups =
    unless_at_fault (open_fault asked cells groups) cells groups
    (read_whole (opened asked cells groups))

-- the first line's call, and then the lines after it
abbrev pub plate_read : Result Dimensions Fault → List (List ℕ) → List ℕ → List Cell → List ℕ →
    Reading
plate_read (Err fault) lines rest cells groups = stopped fault cells groups
plate_read (Ok asked) lines rest cells groups =
    unless_at_fault (open_fault asked cells groups) cells groups
    (edits_read lines rest 2 (opened asked cells groups))

-- a whole sheet: its length is judged before its first line
abbrev pub reading : List ℕ → List Cell → List ℕ → Reading
reading sheet cells groups =
    plate_read (plate_asked (length sheet) 0 sheet)
    (drop 1 (ended_lines sheet)) (leftover sheet) cells groups
