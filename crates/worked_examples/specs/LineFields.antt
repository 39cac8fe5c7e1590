-- The fields of a line, one after another, as a reader of lines is given them. Assumes nothing.
use Rattle.std.specs.Prelude.{◌≡◌, ℕ, ◌==◌, List, [], Some, None, length}
use lib.Chars.{codes}
use Rattle.sheets.specs.Tokens.{Field, Left, behind_next, next_field, next_place, whole_line}
use Rattle.worked_examples.specs.SheetOrders.{tabbed}

-- the third line of some text, with a word, a figure and an empty field
abbrev pub way_line : Left
way_line = whole_line (tabbed (codes "way 12 ")) 3

abbrev pub field : (number : ℕ) → List ℕ → Field
field number bytes = record {
  is_word = number == 0;
  bytes = bytes;
  place = record { line = 3; field = number };
}

pub record LineFields : Type 0 where
  pub word : next_field way_line ≡ Some (field 0 (codes "way"))
  pub figure : next_field (behind_next way_line) ≡ Some (field 1 (codes "12"))
  pub empty : next_field (behind_next (behind_next way_line)) ≡ Some (field 2 [])
  pub none : next_field (behind_next (behind_next (behind_next way_line))) ≡ None
  pub of_no_byte : next_field (whole_line [] 3) ≡ Some (field 0 [])
  pub behind_none : next_field (behind_next (whole_line [] 3)) ≡ None
  pub three : length way_line.fields ≡ 3
  pub place_254 : next_place (record { line = 3; field = 254 }) ≡ record { line = 3; field = 255 }
  pub place_255 : next_place (record { line = 3; field = 255 }) ≡ record { line = 3; field = 255 }
