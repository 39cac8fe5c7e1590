-- The words of lines and of layers, how a fault is printed, and the numbers that digits stand for. Assumes nothing.
use Rattle.std.specs.Prelude.{◌≡◌, ◌≢◌, ◌+◌, ◌-◌, ◌*◌, ℕ, List, ◌∷◌, ◌++◌, decimal, Result, fold, MatchResult}
use lib.Chars.{codes}
use Rattle.sheets.specs.Refusals.{number}
use Rattle.sheets.specs.declared.fault.Fault.{Fault}
use Rattle.sheets.specs.declared.fault.Layer.{Layer}
use Rattle.sheets.specs.declared.fault.Layer.TheVariants as layer
use Rattle.sheets.specs.declared.refusal.Refusal.{Refusal}
use Rattle.sheets.specs.declared.refusal.Refusal.TheVariants as refusal
use Rattle.sheets.specs.declared.token.Keyword.{Keyword}
use Rattle.sheets.specs.declared.token.Keyword.TheVariants.{Plate, Cell, Bar, Enrol}

-- the word that a line begins with
abbrev pub word_of : Keyword → List ℕ
word_of Plate = codes "plate"
word_of Cell = codes "cell"
word_of Bar = codes "bar"
word_of Enrol = codes "enrol"

-- a keyword is read from its own word, and any other word is a fault of its line
abbrev pub ReadsWord : List ℕ → Result Keyword Refusal → Type 0
ReadsWord word result =
    MatchResult result (λ keyword. word ≡ word_of keyword)
    (λ fault. (fault ≡ refusal.Line) × ((keyword : Keyword) → word ≢ word_of keyword))

-- how a layer is printed
abbrev pub name_of : Layer → List ℕ
name_of layer.Plate = codes "plate"
name_of layer.Figure = codes "figure"
name_of layer.Sheet = codes "sheet"

-- the number that decimal digits stand for
abbrev pub number_of : List ℕ → ℕ
number_of digits = fold (λ value digit. value * 10 + (digit - 48)) 0 digits

-- who finds a fault: the plate, the reading of a figure, or the reading of the sheet
abbrev pub layer_of : Refusal → Layer
layer_of (refusal.Plate _) = layer.Plate
layer_of refusal.Figure = layer.Figure
layer_of refusal.Line = layer.Sheet
layer_of refusal.Order = layer.Sheet
layer_of refusal.Long = layer.Sheet

-- how a fault is printed, its parts behind tabs
abbrev pub fault_text : Fault → List ℕ
fault_text f =
    codes "fault" ++ (9 ∷ name_of (layer_of f.refusal)) ++ (9 ∷ decimal f.line) ++
    (9 ∷ decimal f.field) ++ (9 ∷ decimal (number f.refusal))
