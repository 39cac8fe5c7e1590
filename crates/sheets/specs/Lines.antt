-- The lines of a sheet, their fields, and what a line asks for or is at fault in. Assumes nothing.
use Rattle.std.specs.Prelude.{ℕ, ◌==◌, ◌+◌, ◌-◌, ◌*◌, Bool, true, cond, ◌&&◌, ◌||◌, List, [], ◌∷◌, ◌++◌, length, find, bytes_eq, nat_le, nat_lt, slice_index_or, Some, None, Ok, Err, Option, Result}
use Rattle.std.specs.Char.{is_ascii_digit}
use Rattle.std.specs.List.{list_all, list_any}
use Rattle.board.specs.declared.size.Dimensions.{Dimensions}
use Rattle.plate.specs.declared.edit.Edit.{Edit}
use Rattle.plate.specs.declared.edit.Edit.TheVariants as edit
use Rattle.sheets.specs.Words.{number_of, word_of}
use Rattle.sheets.specs.declared.fault.Fault.{Fault}
use Rattle.sheets.specs.declared.refusal.Refusal.{Refusal}
use Rattle.sheets.specs.declared.refusal.Refusal.TheVariants as refusal
use Rattle.sheets.specs.declared.token.Keyword.{Keyword}
use Rattle.sheets.specs.declared.token.Keyword.TheVariants.{Plate, Cell, Bar, Enrol}

-- a byte put before the first of some parts; where there is none, it begins none
abbrev pub with_first : ℕ → List (List ℕ) → List (List ℕ)
with_first b [] = []
with_first b (part ∷ parts) = (b ∷ part) ∷ parts

-- the parts of a text that this byte ends, without it
abbrev pub ended : ℕ → List ℕ → List (List ℕ)
ended end [] = []
ended end (b ∷ bs) = cond (b == end) ([] ∷ ended end bs) (with_first b (ended end bs))

-- what is left over behind the last such byte
abbrev pub left_over : ℕ → List ℕ → List ℕ
left_over end [] = []
left_over end (b ∷ bs) = cond (list_any (λ c. c == end) (b ∷ bs)) (left_over end bs) (b ∷ bs)

-- the lines of a sheet, each ended by a line feed, and what follows the last line feed
abbrev pub ended_lines : List ℕ → List (List ℕ)
ended_lines sheet = ended 10 sheet

abbrev pub leftover : List ℕ → List ℕ
leftover sheet = left_over 10 sheet

-- the fields of a line, parted by one tab
abbrev pub fields_of : List ℕ → List (List ℕ)
fields_of line = ended 9 line ++ left_over 9 line ∷ []

abbrev pub fault_at : ℕ → ℕ → Refusal → Fault
fault_at line field refusal = record { line = line; field = field; refusal = refusal }

-- what is made of an answer; a fault stays
abbrev pub and_then : {X Y : Type 0} → Result X Fault → (X → Result Y Fault) → Result Y Fault
and_then (Ok x) f = f x
and_then (Err fault) f = Err fault

-- the keyword that is written so
abbrev pub keyword_of : List ℕ → Option Keyword
keyword_of word = find (λ keyword. bytes_eq word (word_of keyword)) (Plate ∷ Cell ∷ Bar ∷ Enrol ∷ [])

-- how many figures follow a keyword
abbrev pub figures_of : Keyword → ℕ
figures_of Plate = 2
figures_of Cell = 4
figures_of Bar = 2
figures_of Enrol = 2

-- a word in a field of a line; 11 where it is none of the keywords
abbrev pub keyword_or_fault : ℕ → ℕ → Option Keyword → Result Keyword Fault
keyword_or_fault line field None = Err (fault_at line field refusal.Line)
keyword_or_fault line field (Some keyword) = Ok keyword

-- a keyword that this many figures follow; 11 where it asks for more or fewer
abbrev pub if_counted : ℕ → ℕ → Keyword → Result Keyword Fault
if_counted line count keyword =
    cond (count == figures_of keyword) (Ok keyword) (Err (fault_at line 0 refusal.Line))

-- the keyword of a line with these fields
abbrev pub keyword_in : ℕ → List (List ℕ) → Result Keyword Fault
keyword_in line fields =
    and_then (keyword_or_fault line 0 (keyword_of (slice_index_or fields 0 [])))
    (if_counted line (length fields - 1))

-- no digit at all, or a 0 before another
abbrev pub is_improper : List ℕ → Bool
is_improper [] = true
is_improper (d ∷ ds) = d == 48 && nat_le 1 (length ds)

-- the number that digits stand for, at most 65,535; none where a byte is no digit
abbrev pub number_in : List ℕ → Option ℕ
number_in digits =
    cond (list_all is_ascii_digit digits && nat_le (number_of digits) 65535)
    (Some (number_of digits)) None

-- the number that a figure stands for
abbrev pub figure_of : List ℕ → Option ℕ
figure_of digits = cond (is_improper digits) None (number_in digits)

-- a number with one more digit behind it
abbrev pub figure_on : ℕ → ℕ → Option ℕ
figure_on value digit =
    cond (is_ascii_digit digit && nat_le (value * 10 + (digit - 48)) 65535)
    (Some (value * 10 + (digit - 48))) None

abbrev pub figure_or_fault : ℕ → ℕ → Option ℕ → Result ℕ Fault
figure_or_fault line field None = Err (fault_at line field refusal.Figure)
figure_or_fault line field (Some value) = Ok value

-- a field of a line as a figure
abbrev pub figure_in : ℕ → List (List ℕ) → ℕ → Result ℕ Fault
figure_in line fields field = figure_or_fault line field (figure_of (slice_index_or fields field []))

-- two figures from this field on, from left to right
abbrev pub pair_in : ℕ → List (List ℕ) → ℕ → Result (ℕ × ℕ) Fault
pair_in line fields field =
    and_then (figure_in line fields field) (λ first.
    and_then (figure_in line fields (field + 1)) (λ second. Ok (first, second)))

-- rows and columns
abbrev pub as_dimensions : ℕ × ℕ → Result Dimensions Fault
as_dimensions pair = Ok (record { rows = pair.0; columns = pair.1 })

-- the dimensions that a first line asks for; no other keyword opens a plate
abbrev pub dimensions_asked : ℕ → List (List ℕ) → Keyword → Result Dimensions Fault
dimensions_asked line fields Plate = and_then (pair_in line fields 1) as_dimensions
dimensions_asked line fields Cell = Err (fault_at line 0 refusal.Order)
dimensions_asked line fields Bar = Err (fault_at line 0 refusal.Order)
dimensions_asked line fields Enrol = Err (fault_at line 0 refusal.Order)

-- the edit that a line after the first asks for; a second plate line is sent back
abbrev pub edit_asked : ℕ → List (List ℕ) → Keyword → Result Edit Fault
edit_asked line fields Plate = Err (fault_at line 0 refusal.Order)
edit_asked line fields Cell =
    and_then (pair_in line fields 1) (λ at.
    and_then (pair_in line fields 3) (λ content. Ok (edit.Set at.0 at.1 content.0 content.1)))
edit_asked line fields Bar = and_then (pair_in line fields 1) (λ at. Ok (edit.Bar at.0 at.1))
edit_asked line fields Enrol =
    and_then (pair_in line fields 1) (λ pair. Ok (edit.Enrol pair.0 pair.1))

-- a line of this number: 11 comes first, then 13, then 12 for each figure
abbrev pub dimensions_in : ℕ → List (List ℕ) → Result Dimensions Fault
dimensions_in line fields = and_then (keyword_in line fields) (dimensions_asked line fields)

abbrev pub edit_in : ℕ → List (List ℕ) → Result Edit Fault
edit_in line fields = and_then (keyword_in line fields) (edit_asked line fields)

-- what the first of some lines asks for; with none, the line has no end
abbrev pub first_asked : {X : Type 0} → (ℕ → List (List ℕ) → Result X Fault) → ℕ → List (List ℕ) →
    Result X Fault
first_asked asked line [] = Err (fault_at line 0 refusal.Line)
first_asked asked line (first ∷ lines) = asked line (fields_of first)

-- the length of a sheet is judged before anything else
abbrev pub too_long : ℕ → Result Unit Fault
too_long bytes = cond (nat_lt 32768 bytes) (Err (fault_at 0 0 refusal.Long)) (Ok tt)

-- what a sheet of this many bytes asks for as its plate, where so many lines are read and these
-- bytes are not: 14 comes first, then 13 where a line is read already or no byte is left
abbrev pub plate_asked : ℕ → ℕ → List ℕ → Result Dimensions Fault
plate_asked bytes lines unread =
    and_then (too_long bytes) (λ _.
    cond (nat_lt 0 lines || (length unread == 0)) (Err (fault_at (lines + 1) 0 refusal.Order))
    (first_asked dimensions_in (lines + 1) (ended_lines unread)))

abbrev pub some_edit : Edit → Result (Option Edit) Fault
some_edit e = Ok (Some e)

-- what the next line after the first asks for, if there is one; where no line is read yet, the
-- plate's line is missing
abbrev pub edit_next : ℕ → ℕ → List ℕ → Result (Option Edit) Fault
edit_next bytes lines unread =
    cond (lines == 0) (and_then (too_long bytes) (λ _. Err (fault_at 1 0 refusal.Order)))
    (cond (length unread == 0) (Ok None)
    (and_then (first_asked edit_in (lines + 1) (ended_lines unread)) some_edit))
