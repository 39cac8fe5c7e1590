-- Where several numbers apply to a sheet or to one of its lines, which one is answered, with its line and field. Assumes nothing.
use Rattle.std.specs.Prelude.{◌≡◌, ℕ, List, [], ◌∷◌, ◌++◌, map, replicate, cond, ◌==◌, Some, None, Ok, Err, Option, Result}
use lib.Chars.{codes}
use Rattle.board.specs.Tables.{bare_cell}
use Rattle.plate.specs.declared.refusal.Refusal.TheVariants.{Size, Tables, Off, Pad, Group}
use Rattle.sheets.specs.Lines.{edit_next, fault_at, plate_asked}
use Rattle.sheets.specs.Reading.{reading}
use Rattle.sheets.specs.declared.fault.Fault.{Fault}
use Rattle.sheets.specs.declared.refusal.Refusal.TheVariants.{Plate, Line, Figure, Order, Long}

-- a text with a tab for each space, and as a line with its end
abbrev pub tabbed : List ℕ → List ℕ
tabbed text = map (λ b. cond (b == 32) 9 b) text

abbrev pub line : List ℕ → List ℕ
line text = tabbed text ++ 10 ∷ []

-- the fault of an answer
abbrev pub fault_of : {X : Type 0} → Result X Fault → Option Fault
fault_of (Ok x) = None
fault_of (Err fault) = Some fault

-- the fault of a whole sheet, which is read into tables of so many cells and 64 groups
abbrev pub fault_in : ℕ → List ℕ → Option Fault
fault_in cells sheet = fault_of (reading sheet (replicate cells bare_cell) (replicate 64 0)).answer

-- the fault of these lines alone, and behind the line of a plate of 2 × 3
abbrev pub first_lines : List ℕ → Option Fault
first_lines lines = fault_in 6 lines

abbrev pub later_lines : List ℕ → Option Fault
later_lines lines = fault_in 6 (line (codes "plate 2 3") ++ lines)

-- the fault of a reader that is asked for the plate's line and for a further one: it has read so many lines of a sheet of so many bytes
abbrev pub plate_line_of : ℕ → ℕ → List ℕ → Option Fault
plate_line_of bytes lines unread = fault_of (plate_asked bytes lines unread)

abbrev pub further_line_of : ℕ → ℕ → List ℕ → Option Fault
further_line_of bytes lines unread = fault_of (edit_next bytes lines unread)

abbrev pub too_many : ℕ
too_many = 32769

abbrev pub most : ℕ
most = 32768

-- each clause is named after its line and what is at fault in it
pub record SheetOrders : Type 0 where
  pub long_and_line : plate_line_of too_many 0 (line (codes "word")) ≡ Some (fault_at 0 0 Long)
  pub long_and_order : plate_line_of too_many 0 (line (codes "bar 0 0")) ≡ Some (fault_at 0 0 Long)
  pub long_and_figure : plate_line_of too_many 0 (line (codes "plate x 3")) ≡ Some (fault_at 0 0 Long)
  pub long_and_second_plate : plate_line_of too_many 1 (line (codes "plate 2 3")) ≡ Some (fault_at 0 0 Long)
  pub long_and_too_soon : further_line_of too_many 0 (line (codes "bar 0 0")) ≡ Some (fault_at 0 0 Long)
  pub not_too_long : plate_line_of most 0 (line (codes "plate 2 3")) ≡ None
  pub asked_again : plate_line_of most 3 (line (codes "word")) ≡ Some (fault_at 4 0 Order)
  pub asked_too_soon : further_line_of most 0 (line (codes "word")) ≡ Some (fault_at 1 0 Order)
  pub empty_sheet : first_lines [] ≡ Some (fault_at 1 0 Order)
  pub empty_first_line : first_lines (line []) ≡ Some (fault_at 1 0 Line)
  pub first_word_and_order : first_lines (line (codes "word 0 0")) ≡ Some (fault_at 1 0 Line)
  pub first_fields_and_order : first_lines (line (codes "bar 0")) ≡ Some (fault_at 1 0 Line)
  pub first_no_end_and_order : first_lines (tabbed (codes "bar 0 0")) ≡ Some (fault_at 1 0 Line)
  pub first_order_and_figure : first_lines (line (codes "bar x 0")) ≡ Some (fault_at 1 0 Order)
  pub first_cell_and_figure : first_lines (line (codes "cell 0 0 0 x")) ≡ Some (fault_at 1 0 Order)
  pub first_enrol_and_figure : first_lines (line (codes "enrol 1 x")) ≡ Some (fault_at 1 0 Order)
  pub first_line_and_figure : first_lines (line (codes "plate x")) ≡ Some (fault_at 1 0 Line)
  pub first_two_figures : first_lines (line (codes "plate x y")) ≡ Some (fault_at 1 1 Figure)
  pub first_figure_and_size : first_lines (line (codes "plate 0 x")) ≡ Some (fault_at 1 2 Figure)
  pub first_size_and_tables : first_lines (line (codes "plate 1 257")) ≡ Some (fault_at 1 2 (Plate Size))
  pub first_both_sizes : first_lines (line (codes "plate 0 0")) ≡ Some (fault_at 1 1 (Plate Size))
  pub first_tables_and_later_line : fault_in 5 (line (codes "plate 2 3") ++ line (codes "word")) ≡ Some (fault_at 1 0 (Plate Tables))
  pub first_size_and_later_line : first_lines (line (codes "plate 0 3") ++ codes "word") ≡ Some (fault_at 1 1 (Plate Size))
  pub second_plate_and_fields : later_lines (line (codes "plate 2")) ≡ Some (fault_at 2 0 Line)
  pub second_plate_and_no_end : later_lines (tabbed (codes "plate 2 3")) ≡ Some (fault_at 2 0 Line)
  pub second_plate_and_figures : later_lines (line (codes "plate x y")) ≡ Some (fault_at 2 0 Order)
  pub second_plate_and_size : later_lines (line (codes "plate 0 0")) ≡ Some (fault_at 2 0 Order)
  pub fields_and_figure : later_lines (line (codes "bar x")) ≡ Some (fault_at 2 0 Line)
  pub no_end_and_figure : later_lines (tabbed (codes "bar x 0")) ≡ Some (fault_at 2 0 Line)
  pub empty_field_is_a_field : later_lines (line (codes "bar 0 ")) ≡ Some (fault_at 2 2 Figure)
  pub four_figures : later_lines (line (codes "cell 0 x y z")) ≡ Some (fault_at 2 2 Figure)
  pub last_two_figures : later_lines (line (codes "cell 0 0 01 z")) ≡ Some (fault_at 2 3 Figure)
  pub two_bar_figures : later_lines (line (codes "bar x y")) ≡ Some (fault_at 2 1 Figure)
  pub two_enrol_figures : later_lines (line (codes "enrol x y")) ≡ Some (fault_at 2 1 Figure)
  pub figure_and_off : later_lines (line (codes "cell 2 0 0 x")) ≡ Some (fault_at 2 4 Figure)
  pub figure_and_bar_off : later_lines (line (codes "bar 2 x")) ≡ Some (fault_at 2 2 Figure)
  pub figure_and_pad : later_lines (line (codes "enrol 65 x")) ≡ Some (fault_at 2 2 Figure)
  pub figure_and_group : later_lines (line (codes "enrol x 3")) ≡ Some (fault_at 2 1 Figure)
  pub row_off_and_pad : later_lines (line (codes "cell 2 0 0 65")) ≡ Some (fault_at 2 1 (Plate Off))
  pub column_off_and_pad : later_lines (line (codes "cell 0 3 0 65")) ≡ Some (fault_at 2 2 (Plate Off))
  pub both_off : later_lines (line (codes "bar 2 3")) ≡ Some (fault_at 2 1 (Plate Off))
  pub pad_and_group : later_lines (line (codes "enrol 65 3")) ≡ Some (fault_at 2 1 (Plate Pad))
  pub no_pad_and_group : later_lines (line (codes "enrol 0 3")) ≡ Some (fault_at 2 1 (Plate Pad))
  pub group_alone : later_lines (line (codes "enrol 64 3")) ≡ Some (fault_at 2 2 (Plate Group))
  pub earlier_line_goes_first : later_lines (line (codes "enrol 1 3") ++ line (codes "word")) ≡ Some (fault_at 2 2 (Plate Group))
  pub earlier_figure_goes_first : later_lines (line (codes "bar 0 x") ++ line (codes "plate 2 3")) ≡ Some (fault_at 2 2 Figure)
  pub earlier_line_before_no_end : later_lines (line (codes "bar 2 0") ++ codes "bar") ≡ Some (fault_at 2 1 (Plate Off))
  pub third_line : later_lines (line (codes "bar 0 0") ++ line (codes "cell 0 0 0 65")) ≡ Some (fault_at 3 4 (Plate Pad))
