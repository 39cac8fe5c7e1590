-- The field of a fault of the plate's: a place off a plate of one column or of one row, and the other numbers. Assumes nothing.
use Rattle.std.specs.Prelude.{◌≡◌, ℕ, [], Some, None, Option}
use Rattle.board.specs.declared.size.Dimensions.{Dimensions}
use Rattle.plate.specs.declared.edit.Edit.TheVariants.{Set, Bar, Enrol}
use Rattle.plate.specs.declared.refusal.Refusal.{Refusal}
use Rattle.plate.specs.declared.refusal.Refusal.TheVariants as refusal
use Rattle.sheets.specs.Lines.{fault_at}
use Rattle.sheets.specs.Reading.{edit_fault, open_fault, opened}
use Rattle.sheets.specs.declared.fault.Fault.{Fault}
use Rattle.sheets.specs.declared.refusal.Refusal.TheVariants.{Plate}

abbrev pub dimensions : ℕ → ℕ → Dimensions
dimensions rows columns = record { rows = rows; columns = columns }

-- what a cell line and a bar line, the second lines of their sheets, are at fault in at a place of a plate of one column and three rows
abbrev pub cell_of_column : ℕ → ℕ → Option Fault
cell_of_column row column = edit_fault 2 (Set row column 0 0) (opened (dimensions 3 1) [] [])

abbrev pub bar_of_column : ℕ → ℕ → Option Fault
bar_of_column row column = edit_fault 2 (Bar row column) (opened (dimensions 3 1) [] [])

-- the same of a plate of one row and three columns
abbrev pub cell_of_row : ℕ → ℕ → Option Fault
cell_of_row row column = edit_fault 2 (Set row column 0 0) (opened (dimensions 1 3) [] [])

abbrev pub bar_of_row : ℕ → ℕ → Option Fault
bar_of_row row column = edit_fault 2 (Bar row column) (opened (dimensions 1 3) [] [])

-- a fault of the second line
abbrev pub at_field : ℕ → Refusal → Option Fault
at_field field e = Some (fault_at 2 field (Plate e))

pub record Fields : Type 0 where
  pub cell_column_on : cell_of_column 2 0 ≡ None
  pub cell_column_wrong_column : cell_of_column 2 1 ≡ at_field 2 refusal.Off
  pub cell_column_wrong_row : cell_of_column 3 0 ≡ at_field 1 refusal.Off
  pub cell_column_both_wrong : cell_of_column 3 1 ≡ at_field 1 refusal.Off
  pub bar_column_on : bar_of_column 2 0 ≡ None
  pub bar_column_wrong_column : bar_of_column 2 1 ≡ at_field 2 refusal.Off
  pub bar_column_wrong_row : bar_of_column 3 0 ≡ at_field 1 refusal.Off
  pub bar_column_both_wrong : bar_of_column 3 1 ≡ at_field 1 refusal.Off
  pub cell_row_on : cell_of_row 0 2 ≡ None
  pub cell_row_wrong_column : cell_of_row 0 3 ≡ at_field 2 refusal.Off
  pub cell_row_wrong_row : cell_of_row 1 2 ≡ at_field 1 refusal.Off
  pub cell_row_both_wrong : cell_of_row 1 3 ≡ at_field 1 refusal.Off
  pub bar_row_on : bar_of_row 0 2 ≡ None
  pub bar_row_wrong_column : bar_of_row 0 3 ≡ at_field 2 refusal.Off
  pub bar_row_wrong_row : bar_of_row 1 2 ≡ at_field 1 refusal.Off
  pub bar_row_both_wrong : bar_of_row 1 3 ≡ at_field 1 refusal.Off
  pub cell_pad : edit_fault 2 (Set 0 0 0 65) (opened (dimensions 3 1) [] []) ≡ at_field 4 refusal.Pad
  pub enrol_pad : edit_fault 2 (Enrol 0 1) (opened (dimensions 3 1) [] []) ≡ at_field 1 refusal.Pad
  pub enrol_group : edit_fault 2 (Enrol 1 3) (opened (dimensions 3 1) [] []) ≡ at_field 2 refusal.Group
  pub open_rows : open_fault (dimensions 257 1) [] [] ≡ Some (fault_at 1 1 (Plate refusal.Size))
  pub open_columns : open_fault (dimensions 1 0) [] [] ≡ Some (fault_at 1 2 (Plate refusal.Size))
  pub open_both : open_fault (dimensions 0 257) [] [] ≡ Some (fault_at 1 1 (Plate refusal.Size))
  pub open_tables : open_fault (dimensions 1 1) [] [] ≡ Some (fault_at 1 0 (Plate refusal.Tables))
