-- What a program prints of what stopped it. Assumes nothing.
use Rattle.std.specs.Prelude.{ℕ, List, [], ◌∷◌, ◌++◌, Some, None, Option, decimal}
use lib.Chars.{codes}
use Rattle.ending.specs.declared.stop.Stop.{Stop}
use Rattle.ending.specs.declared.stop.Stop.TheVariants.{Fault, Refused, Setting, System}
use Rattle.gauges.specs.Refusals.{number as setting_number}
use Rattle.gauges.specs.declared.refusal.Refusal.{Refusal as SettingRefusal}
use Rattle.plate.specs.Refusals.{number as plate_number}
use Rattle.plate.specs.declared.refusal.Refusal.{Refusal as PlateRefusal}
use Rattle.sheets.specs.Words.{fault_text}

-- what is printed of a refusal of this number: `refused`, tab, the number
abbrev pub refused_text : ℕ → List ℕ
refused_text number = codes "refused" ++ (9 ∷ decimal number)

-- of a plate's refusal, and of a setting's
abbrev pub refusal_text : PlateRefusal → List ℕ
refusal_text refusal = refused_text (plate_number refusal)

abbrev pub setting_text : SettingRefusal → List ℕ
setting_text setting = refused_text (setting_number setting)

-- a fault's own text, or a refusal's; the text of an error of the system is its own affair
abbrev pub stop_text : Stop → Option (List ℕ)
stop_text (Fault fault) = Some (fault_text fault)
stop_text (Refused refusal) = Some (refusal_text refusal)
stop_text (Setting setting) = Some (setting_text setting)
stop_text (System _) = None

-- a text as a line
abbrev pub line : List ℕ → List ℕ
line text = text ++ (10 ∷ [])
