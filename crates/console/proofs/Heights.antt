-- A figure is at most 65,535, so every height that a sheet gives is of 16 bits.
use Rattle.std.proofs.Common.{◌≡◌, ℕ, ◌+◌, ◌<◌, ◌&&◌, Bool, true, false, cond, List, [], ◌∷◌, drop, length, nat_le, replicate, slice_index_or, Some, None, Option, Ok, Err, Result, refl, sym, subst, ⊎_elim, arith}
use Rattle.std.proofs.Math.ListN.{get_or-eq_default}
use Rattle.std.proofs.lemmas.Bool.{cases_lt}
use Rattle.std.proofs.lemmas.Bool.Decides.{nat_tests}
use Rattle.std.proofs.lemmas.List.Elements.{All-append, All-drop, All-get_or, All-replicate, All-set}
use Rattle.std.specs.Char.{is_ascii_digit}
use Rattle.std.specs.List.{All, list_all}
use Rattle.board.specs.Sizes.{area_asked, cell_at}
use Rattle.board.specs.Tables.{bare_cell, barred_cell}
use Rattle.board.specs.declared.cell.Cell.{Cell}
use Rattle.board.specs.declared.size.Dimensions.{Dimensions}
use Rattle.console.specs.Gaps.{sheet_read}
use Rattle.geodesics.specs.Fitting.{Fitting}
use Rattle.measuring.specs.Boards.{Board}
use Rattle.plate.specs.declared.edit.Edit.{Edit}
use Rattle.plate.specs.declared.edit.Edit.TheVariants as edit
use Rattle.sheets.specs.Lines.{and_then, edit_asked, edit_in, ended_lines, figure_in, figure_or_fault, fields_of, is_improper, keyword_in, leftover, pair_in, plate_asked}
use Rattle.sheets.specs.Reading.{Reading, Entered, edit_fault, edit_read, edited, edits_read, end_fault, open_fault, opened, plate_read, read_whole, unless_at_fault}
use Rattle.sheets.specs.Words.{number_of}
use Rattle.sheets.specs.declared.fault.Fault.{Fault}
use Rattle.sheets.specs.declared.token.Keyword.{Keyword}
use Rattle.sheets.specs.declared.token.Keyword.TheVariants as keyword

abbrev pub Low : Cell → Type 0
Low c = c.height < 65536

-- what is so of each value that a result may have
abbrev Each : {X : Type 0} → (X → Type 0) → Result X Fault → Type 0
Each {X} P r = (x : X) → r ≡ Ok x → P x

each_ok : {X : Type 0} (P : X → Type 0) (x : X) → P x → Each P (Ok x)
each_ok P x holds y e = let same : x ≡ y = cc in subst P same holds

each_err : {X : Type 0} (P : X → Type 0) (fault : Fault) → Each P (Err fault)
each_err P fault y e = cc

each_then : {X Y : Type 0} (P : Y → Type 0) (r : Result X Fault) (f : X → Result Y Fault) →
    ((x : X) → r ≡ Ok x → Each P (f x)) → Each P (and_then r f)
each_then P (Ok x) f holds = holds x refl
each_then P (Err fault) f holds = each_err P fault

abbrev Small : ℕ → Type 0
Small n = n < 65536

each_figure : (line field : ℕ) (o : Option ℕ) → ((n : ℕ) → o ≡ Some n → Small n) → Each Small (figure_or_fault line field o)
each_figure line field None small = each_err Small _
each_figure line field (Some n) small = each_ok Small n (small n refl)

-- the tests of a figure, each either way
tested : (improper digits : Bool) (value n : ℕ) → cond improper None (cond (digits && nat_le value 65535) (Some value) None) ≡ Some n → Small n
tested true digits value n e = absurd (grind arith)
tested false false value n e = absurd (grind arith)
tested false true value n e = grind (arith, nat_tests)

figure_small : (line : ℕ) (fields : List (List ℕ)) (field : ℕ) → Each Small (figure_in line fields field)
figure_small line fields field =
    let digits = slice_index_or fields field [] in
    each_figure line field _ (tested (is_improper digits) (list_all is_ascii_digit digits) (number_of digits))

pair_small : (line : ℕ) (fields : List (List ℕ)) (field : ℕ) → Each (λ pair. Small pair.0) (pair_in line fields field)
pair_small line fields field =
    each_then _ (figure_in line fields field) _ (λ first is.
    each_then _ (figure_in line fields (field + 1)) _ (λ second _.
    each_ok _ (first, second) (figure_small line fields field first is)))

abbrev LowEdit : Edit → Type 0
LowEdit (edit.Set row column height pad) = Small height
LowEdit _ = Unit {0}

asked_low : (line : ℕ) (fields : List (List ℕ)) (word : Keyword) → Each LowEdit (edit_asked line fields word)
asked_low line fields keyword.Plate = each_err LowEdit _
asked_low line fields keyword.Cell =
    each_then LowEdit (pair_in line fields 1) _ (λ at _.
    each_then LowEdit (pair_in line fields 3) _ (λ content is.
    each_ok LowEdit (edit.Set at.0 at.1 content.0 content.1) (pair_small line fields 3 content is)))
asked_low line fields keyword.Bar = each_then LowEdit (pair_in line fields 1) _ (λ at _. each_ok LowEdit (edit.Bar at.0 at.1) tt)
asked_low line fields keyword.Enrol = each_then LowEdit (pair_in line fields 1) _ (λ pair _. each_ok LowEdit (edit.Enrol pair.0 pair.1) tt)

edit_low : (line : ℕ) (fields : List (List ℕ)) → Each LowEdit (edit_in line fields)
edit_low line fields = each_then LowEdit (keyword_in line fields) _ (λ word _. asked_low line fields word)

edited_low : (e : Edit) (s : Entered) → LowEdit e → All Low s.cells → All Low (edited e s).cells
edited_low (edit.Set row column height pad) s small low = All-set Low s.cells (cell_at s.size row column) _ small low
edited_low (edit.Bar row column) s small low = All-set Low s.cells (cell_at s.size row column) barred_cell (omega arith) low
edited_low (edit.Enrol pad group) s small low = low

unless_low : (fault : Option Fault) (cells : List Cell) (groups : List ℕ) (on : Reading) →
    All Low cells → All Low on.cells → All Low (unless_at_fault fault cells groups on).cells
unless_low None cells groups on low then = then
unless_low (Some fault) cells groups on low then = low

edit_read_low : (r : Result Edit Fault) (on : Edit → Reading) (line : ℕ) (s : Entered) →
    All Low s.cells → ((e : Edit) → r ≡ Ok e → All Low (on e).cells) → All Low (edit_read r on line s).cells
edit_read_low (Err fault) on line s low then = low
edit_read_low (Ok e) on line s low then = unless_low (edit_fault line e s) s.cells s.groups (on e) low (then e refl)

edits_low : (lines : List (List ℕ)) (rest : List ℕ) (line : ℕ) (s : Entered) → All Low s.cells → All Low (edits_read lines rest line s).cells
unfolding edits_read
edits_low [] rest line s low = unless_low (end_fault rest line) s.cells s.groups (read_whole s) low low
edits_low (first ∷ lines) rest line s low =
    edit_read_low (edit_in line (fields_of first)) (λ e. edits_read lines rest (line + 1) (edited e s)) line s low (λ e is.
    edits_low lines rest (line + 1) (edited e s) (edited_low e s (edit_low line (fields_of first) e is) low))

plate_low : (asked : Result Dimensions Fault) (lines : List (List ℕ)) (rest : List ℕ) (cells : List Cell) (groups : List ℕ) →
    All Low cells → All Low (plate_read asked lines rest cells groups).cells
plate_low (Err fault) lines rest cells groups low = low
plate_low (Ok asked) lines rest cells groups low =
    let bare = All-replicate Low (area_asked asked) bare_cell (omega arith) in
    let behind = All-drop Low (area_asked asked) cells low in
    unless_low (open_fault asked cells groups) cells groups _ low
    (edits_low lines rest 2 (opened asked cells groups) (All-append Low _ _ bare behind))

pub sheet_low : (sheet : List ℕ) → All Low (sheet_read sheet).cells
sheet_low sheet =
    plate_low (plate_asked (length sheet) 0 sheet) (drop 1 (ended_lines sheet)) (leftover sheet) (replicate 256 bare_cell) (replicate 64 0)
    (All-replicate Low 256 bare_cell (omega arith))

-- what lies beyond the table has height 0
pub fitting_low : (b : Board) → All Low b.cells → Fitting b
fitting_low b low i lt =
    ⊎_elim
    (λ there. All-get_or Low b.cells i barred_cell there low)
    (λ past. subst Low (sym (get_or-eq_default b.cells barred_cell past)) (omega arith))
    (cases_lt i (length b.cells))
