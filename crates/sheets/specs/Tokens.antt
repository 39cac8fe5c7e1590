-- The fields of a line as tokens, and what tokens say. Assumes nothing.
use Rattle.std.specs.Prelude.{ℕ, ◌+◌, ◌==◌, Bool, true, false, cond, List, [], drop, nat_lt, slice_get, None, Some, Err, Option, Result, option_map}
use Rattle.std.specs.Borrow.{Bor}
use Rattle.sheets.specs.Lines.{fault_at, fields_of, figure_of, figure_or_fault, keyword_of, keyword_or_fault}
use Rattle.sheets.specs.declared.fault.Fault.{Fault}
use Rattle.sheets.specs.declared.line.Line.{Line}
use Rattle.sheets.specs.declared.refusal.Refusal.TheVariants as refusal
use Rattle.sheets.specs.declared.token.Keyword.{Keyword}
use Rattle.sheets.specs.declared.token.Place.{Place}
use Rattle.sheets.specs.declared.token.Token.{Token}
use Rattle.sheets.specs.declared.token.Token.TheVariants.{Word, Figure}

-- the keyword of a word; a figure is none
abbrev pub token_keyword : Token → Result Keyword Fault
token_keyword (Word bytes place) = keyword_or_fault place.line place.field (keyword_of bytes.now)
token_keyword (Figure bytes place) = Err (fault_at place.line place.field refusal.Line)

-- the number of a figure; a word is none
abbrev pub token_figure : Token → Result ℕ Fault
token_figure (Word bytes place) = Err (fault_at place.line place.field refusal.Figure)
token_figure (Figure bytes place) = figure_or_fault place.line place.field (figure_of bytes.now)

-- a field of a line: whether it is the line's word, its bytes, and where it stands
pub record Field : Type 0 where
  pub is_word : Bool
  pub bytes : List ℕ
  pub place : Place

-- the field that a token is of
abbrev pub field_of : Token → Field
field_of (Word bytes place) = record { is_word = true; bytes = bytes.now; place = place }
field_of (Figure bytes place) = record { is_word = false; bytes = bytes.now; place = place }

-- field 0 is the word
abbrev pub field_at : Place → List ℕ → Field
field_at place bytes = record { is_word = place.field == 0; bytes = bytes; place = place }

-- what is left of a line: the place of its next field, and the fields from that one on
pub record Left : Type 0 where
  pub place : Place
  pub fields : List (List ℕ)

-- the fields of these bytes, if there are any
abbrev pub fields_left : Option (Bor (List ℕ)) → List (List ℕ)
fields_left None = []
fields_left (Some rest) = fields_of rest.now

abbrev pub left_of : Line → Left
left_of line = record { place = line.place; fields = fields_left line.rest }

-- a whole line of this number
abbrev pub whole_line : List ℕ → ℕ → Left
whole_line bytes number =
    record { place = record { line = number; field = 0 }; fields = fields_of bytes }

-- the next field, if one is left
abbrev pub next_field : Left → Option Field
next_field left = option_map (field_at left.place) (slice_get left.fields 0)

-- the place behind this one; the number of a field stays at 255 once it is there, since it is a
-- byte and a line may have 32,768 fields
abbrev pub next_place : Place → Place
next_place place =
    record { line = place.line; field = cond (nat_lt place.field 255) (place.field + 1) 255 }

-- what is left behind the next field
abbrev pub behind_next : Left → Left
behind_next left = record { place = next_place left.place; fields = drop 1 left.fields }
