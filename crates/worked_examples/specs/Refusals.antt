-- The refusals with their numbers, the layers of a sheet's, and what is printed of them. Assumes nothing.
use Rattle.std.specs.Prelude.{ℕ, List, [], ◌∷◌, ◌++◌, map}
use lib.Chars.{codes}
use Rattle.gauges.specs.Refusals as setting
use Rattle.gauges.specs.declared.refusal.Refusal.TheVariants.{Setting, Fence}
use Rattle.plate.specs.Refusals as call
use Rattle.plate.specs.declared.refusal.Refusal.{Refusal as PlateRefusal}
use Rattle.plate.specs.declared.refusal.Refusal.TheVariants.{Size, Tables, Off, Pad, Group, Outdated, Short, Torn}
use Rattle.sheets.specs.Refusals as sheet
use Rattle.sheets.specs.Words.{layer_of, name_of}
use Rattle.sheets.specs.declared.refusal.Refusal.{Refusal}
use Rattle.sheets.specs.declared.refusal.Refusal.TheVariants.{Plate, Line, Figure, Order, Long}

-- those of a plate's calls, in the order of the rules
abbrev pub of_calls : List PlateRefusal
of_calls = Size ∷ Tables ∷ Off ∷ Pad ∷ Group ∷ Outdated ∷ Short ∷ Torn ∷ []

-- those of a sheet alone
abbrev pub of_sheets : List Refusal
of_sheets = Line ∷ Figure ∷ Order ∷ Long ∷ []

abbrev pub numbers : List ℕ
numbers =
    map call.number of_calls ++ map setting.number (Setting ∷ Fence ∷ []) ++ map sheet.number of_sheets

-- a sheet says the plate's own number
abbrev pub in_sheets : List ℕ
in_sheets = map (λ e. sheet.number (Plate e)) of_calls

-- the layers of a plate's refusal in a sheet, and of a sheet's own, as they are printed
abbrev pub layers_of_calls : List (List ℕ)
layers_of_calls = map (λ e. name_of (layer_of (Plate e))) of_calls

abbrev pub layers_of_sheets : List (List ℕ)
layers_of_sheets = map (λ e. name_of (layer_of e)) of_sheets

abbrev pub torn_printed : List ℕ
torn_printed = codes "refused" ++ (9 ∷ codes "8")

abbrev pub fence_printed : List ℕ
fence_printed = codes "refused" ++ (9 ∷ codes "10")
