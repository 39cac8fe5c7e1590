-- The numbers of refused sheets. Assumes nothing.
use Rattle.std.specs.Prelude.{ℕ}
use Rattle.plate.specs.Refusals.{number as plate_number}
use Rattle.sheets.specs.declared.refusal.Refusal.{Refusal}
use Rattle.sheets.specs.declared.refusal.Refusal.TheVariants.{Plate, Line, Figure, Order, Long}

-- a plate's refusal keeps its number, which is 1 to 8
abbrev pub number : Refusal → ℕ
number (Plate refusal) = plate_number refusal
number Line = 11
number Figure = 12
number Order = 13
number Long = 14
