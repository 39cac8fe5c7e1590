-- Reading goes on line by line.
use Rattle.std.proofs.Common.{◌≡◌, ℕ, ◌+◌, ◌<◌, ◌==◌, false, cond, List, [], ◌∷◌, length, drop, Some, None, Ok, Err, Option, Result, refl, sym, ap, subst, ◌∙◌, arith}
use Rattle.std.proofs.lemmas.Bool.Decides.{nat_tests}
use Rattle.sheets.specs.Lines.{and_then, edit_in, edit_next, ended_lines, fault_at, fields_of, first_asked, leftover, plate_asked, some_edit}
use Rattle.std.specs.Prelude.{option_map}
use Rattle.std.specs.Borrow.{Bor}
use Rattle.board.specs.Outcomes.{after}
use Rattle.board.specs.declared.cell.Cell.{Cell}
use Rattle.board.specs.declared.size.Dimensions.{Dimensions}
use Rattle.plate.specs.declared.edit.Edit.{Edit}
use Rattle.plate.specs.declared.refusal.Refusal.{Refusal}
use Rattle.sheets.specs.Readers.{Goes, Passes, next_edit, next_plate, reading_on, unread}
use Rattle.sheets.specs.Reading.{Reading, Entered, come_to, done_or, edit_fault, edit_read, edited, edits_read, end_fault, plate_read, read_whole, reading, stopped, unless_at_fault}
use Rattle.sheets.specs.declared.fault.Fault.{Fault}
use Rattle.sheets.specs.declared.reader.SheetReader.{SheetReader}
use Rattle.sheets.proofs.Parting.{left_all}
use Rattle.sheets.specs.declared.refusal.Refusal.TheVariants as refusal

-- what is asked next, where a line is read already
later : (bytes lines : ℕ) (bs : List ℕ) → 0 < lines → edit_next bytes lines bs ≡ cond (length bs == 0) (Ok None) (and_then (first_asked edit_in (lines + 1) (ended_lines bs)) some_edit)
later bytes lines bs some = let begun : (lines == 0) ≡ false = grind (arith, nat_tests) in rw begun

never_none : (r : Result Edit Fault) → and_then r some_edit ≡ Ok None → ⊥
never_none (Ok e) is = cc
never_none (Err f) is = cc

filled : (b : ℕ) (bs : List ℕ) → (length (b ∷ bs) == 0) ≡ false
filled b bs = grind (arith, nat_tests)

-- an edit that is asked for, and a fault
edit_told : (r : Result Edit Fault) (on : Edit → Reading) (n : ℕ) (s : Entered) (e : Edit) → and_then r some_edit ≡ Ok (Some e) → edit_read r on n s ≡ unless_at_fault (edit_fault n e s) s.cells s.groups (on e)
edit_told (Ok d) on n s e is = let same : d ≡ e = cc in ap (λ x. unless_at_fault (edit_fault n x s) s.cells s.groups (on x)) same
edit_told (Err f) on n s e is = cc

fault_told : (r : Result Edit Fault) (on : Edit → Reading) (n : ℕ) (s : Entered) (f : Fault) → and_then r some_edit ≡ Err f → edit_read r on n s ≡ stopped f s.cells s.groups
fault_told (Ok d) on n s f is = cc
fault_told (Err g) on n s f is = let same : g ≡ f = cc in ap (λ x. stopped x s.cells s.groups) same

lines_told : (lines : List (List ℕ)) (rest : List ℕ) (n : ℕ) (s : Entered) (e : Edit) → and_then (first_asked edit_in n lines) some_edit ≡ Ok (Some e) → edits_read lines rest n s ≡ unless_at_fault (edit_fault n e s) s.cells s.groups (edits_read (drop 1 lines) rest (n + 1) (edited e s))
unfolding edits_read
lines_told [] rest n s e is = cc
lines_told (first ∷ lines) rest n s e is = edit_told (edit_in n (fields_of first)) (λ x. edits_read lines rest (n + 1) (edited x s)) n s e is

lines_stop : (lines : List (List ℕ)) (rest : List ℕ) (n : ℕ) (s : Entered) (f : Fault) → (lines ≡ [] → end_fault rest n ≡ Some (fault_at n 0 refusal.Line)) → and_then (first_asked edit_in n lines) some_edit ≡ Err f → edits_read lines rest n s ≡ stopped f s.cells s.groups
unfolding edits_read
lines_stop [] rest n s f open_end is =
    let same : fault_at n 0 refusal.Line ≡ f = cc in
    ap (λ x. unless_at_fault x s.cells s.groups (read_whole s)) (open_end refl) ∙ ap (λ x. stopped x s.cells s.groups) same
lines_stop (first ∷ lines) rest n s f open_end is = fault_told (edit_in n (fields_of first)) (λ x. edits_read lines rest (n + 1) (edited x s)) n s f is

asked_next : (b : ℕ) (bs : List ℕ) (bytes lines : ℕ) → 0 < lines → edit_next bytes lines (b ∷ bs) ≡ and_then (first_asked edit_in (lines + 1) (ended_lines (b ∷ bs))) some_edit
asked_next b bs bytes lines some = later bytes lines (b ∷ bs) some ∙ ap (λ t. cond t (Ok None) (and_then (first_asked edit_in (lines + 1) (ended_lines (b ∷ bs))) some_edit)) (filled b bs)

end_told : (b n : ℕ) (bs : List ℕ) → ended_lines (b ∷ bs) ≡ [] → end_fault (leftover (b ∷ bs)) n ≡ Some (fault_at n 0 refusal.Line)
end_told b n bs none =
    ap (λ rest. end_fault rest n) (left_all 10 (b ∷ bs) none) ∙ ap (λ t. cond t None (Some (fault_at n 0 refusal.Line))) (filled b bs)

module _ (bytes lines : ℕ) (s : Entered) (some : 0 < lines) where
  lines_none : (bs : List ℕ) → edit_next bytes lines bs ≡ Ok None → edits_read (ended_lines bs) (leftover bs) (lines + 1) s ≡ read_whole s
  unfolding edits_read
  lines_none [] e = refl
  lines_none (b ∷ bs) e = absurd (never_none (first_asked edit_in (lines + 1) (ended_lines (b ∷ bs))) (sym (asked_next b bs bytes lines some) ∙ e))

  lines_err : (bs : List ℕ) (f : Fault) → edit_next bytes lines bs ≡ Err f → edits_read (ended_lines bs) (leftover bs) (lines + 1) s ≡ stopped f s.cells s.groups
  lines_err [] f e = let none = sym (later bytes lines [] some) ∙ e in cc
  lines_err (b ∷ bs) f e = lines_stop (ended_lines (b ∷ bs)) (leftover (b ∷ bs)) (lines + 1) s f (end_told b (lines + 1) bs) (sym (asked_next b bs bytes lines some) ∙ e)

  lines_edit : (bs : List ℕ) (e : Edit) → edit_next bytes lines bs ≡ Ok (Some e) → edits_read (ended_lines bs) (leftover bs) (lines + 1) s ≡ unless_at_fault (edit_fault (lines + 1) e s) s.cells s.groups (edits_read (drop 1 (ended_lines bs)) (leftover bs) (lines + 1 + 1) (edited e s))
  lines_edit [] e is = let none = sym (later bytes lines [] some) ∙ is in cc
  lines_edit (b ∷ bs) e is = lines_told (ended_lines (b ∷ bs)) (leftover (b ∷ bs)) (lines + 1) s e (sym (asked_next b bs bytes lines some) ∙ is)

-- at the sheet's end, and after a fault
pub on_none : (r : SheetReader) (s : Entered) → 0 < r.line → Ok None ≡ next_edit r → reading_on r s ≡ read_whole s
on_none r s some is = lines_none (length r.sheet.now) r.line s some (unread r) (sym is)

pub on_err : (r : SheetReader) (s : Entered) (f : Fault) → 0 < r.line → Err f ≡ next_edit r → reading_on r s ≡ stopped f s.cells s.groups
on_err r s f some is = lines_err (length r.sheet.now) r.line s some (unread r) f (sym is)

-- one edit on
pub on_edit : (r r' : SheetReader) (s : Entered) (e : Edit) → 0 < r.line → Ok (Some e) ≡ next_edit r → Passes r r' → reading_on r s ≡ unless_at_fault (edit_fault (r.line + 1) e s) s.cells s.groups (reading_on r' (edited e s))
on_edit r r' s e some is passed =
    lines_edit (length r.sheet.now) r.line s some (unread r) e (sym is)
    ∙ ap (λ x. unless_at_fault (edit_fault (r.line + 1) e s) s.cells s.groups x) (λ i. edits_read (passed.lines i) (passed.rest i) (sym passed.line i + 1) (edited e s))

-- likewise where the reader gives the edit, with the line's number from a reader that has passed it
pub record Steps (r r' : SheetReader) (s : Entered) (e : Edit) (number : ℕ) : Type 0 where
  pub passed : Passes r r'
  pub line : number ≡ r.line + 1
  pub reads : reading_on r s ≡ unless_at_fault (edit_fault (r.line + 1) e s) s.cells s.groups (reading_on r' (edited e s))

pub on_given : (r r' : SheetReader) (s : Entered) (e : Edit) (given : Option Edit) (number : ℕ) → 0 < r.line → given ≡ Some e → Ok given ≡ next_edit r → Goes r r' (Ok given) → number ≡ r'.line → Steps r r' s e number
on_given r r' s e given number some is asked goes at =
    let passed : Passes r r' = subst (λ (o : Option Edit). Goes r r' (Ok o)) is goes in
    record { passed = passed; line = at ∙ passed.line; reads = on_edit r r' s e some (ap Ok (sym is) ∙ asked) passed }

-- a new reader's first line
pub new_plate : (r : SheetReader) (sheet : Bor (List ℕ)) → r.sheet ≡ sheet → r.place ≡ 0 → r.line ≡ 0 → next_plate r ≡ plate_asked (length sheet.now) 0 sheet.now
new_plate r sheet e p l = λ i. plate_asked (length (e i).now) (l i) (drop (p i) (e i).now)

-- a sheet whose first line has these dimensions
pub begun : (sheet : List ℕ) (cells : List Cell) (groups : List ℕ) (asked : Dimensions) → Ok asked ≡ plate_asked (length sheet) 0 sheet → reading sheet cells groups ≡ plate_read (Ok asked) (drop 1 (ended_lines sheet)) (leftover sheet) cells groups
begun sheet cells groups asked e = ap (λ p. plate_read p (drop 1 (ended_lines sheet)) (leftover sheet) cells groups) (sym e)

-- a plate that is not opened
pub not_opened : (at_fault : Option Fault) (cells cells' : List Cell) (groups groups' : List ℕ) (f : Fault) (s : Entered) (on : Reading) → come_to (Err f) cells' groups' ≡ unless_at_fault at_fault cells groups (read_whole s) → come_to (Err f) cells' groups' ≡ unless_at_fault at_fault cells groups on
not_opened None cells cells' groups groups' f s on e = let answer = ap (λ r. r.answer) e in cc
not_opened (Some g) cells cells' groups groups' f s on e = e

-- an edit that is sent back, and one that is accepted
module _ (refused : Option Refusal) (at : Refusal → Fault) (s after_it done : Entered) (on : Reading) (is : after_it ≡ after refused s done) where
  pub sent_back : (f : Fault) → Err f ≡ done_or (option_map at refused) → come_to (Err f) after_it.cells after_it.groups ≡ unless_at_fault (option_map at refused) s.cells s.groups on
  sent_back f e = sent_back_by refused f e is
    where
      sent_back_by : (r : Option Refusal) (f : Fault) → Err f ≡ done_or (option_map at r) → after_it ≡ after r s done → come_to (Err f) after_it.cells after_it.groups ≡ unless_at_fault (option_map at r) s.cells s.groups on
      sent_back_by None f e is = cc
      sent_back_by (Some r) f e is = let same : f ≡ at r = cc in λ i. come_to (Err (same i)) (is i).cells (is i).groups

  pub accepted : Ok tt ≡ done_or (option_map at refused) → (unless_at_fault (option_map at refused) s.cells s.groups on ≡ on) × (after_it ≡ done)
  accepted e = accepted_by refused e is
    where
      accepted_by : (r : Option Refusal) → Ok tt ≡ done_or (option_map at r) → after_it ≡ after r s done → (unless_at_fault (option_map at r) s.cells s.groups on ≡ on) × (after_it ≡ done)
      accepted_by None e is = (refl, is)
      accepted_by (Some r) e is = cc
