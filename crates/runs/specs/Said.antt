-- What is said by an answer: what it lists is a plain list. Assumes nothing.
use Rattle.std.specs.Prelude.{ℕ, Bool, true, false, List, Option}
use Rattle.plate.specs.declared.refusal.Refusal.{Refusal}
use Rattle.measuring.specs.declared.Counts.{Counts}
use Rattle.runs.specs.declared.answer.Answer.{Answer}
use Rattle.runs.specs.declared.answer.Answer.TheVariants as answer

pub data Said (L : Type 0) : Type 0 where
  done : Said L
  measured : Counts → Said L
  distance : Option L → Said L
  nearest : Option ℕ → Said L
  way : List ℕ → Said L
  gap : Option L → Said L
  route : List ℕ → ℕ → Said L
  refused : Refusal → Said L
  not_allowed : Said L

abbrev pub said : {L : Type 0} → Answer L → Said L
said answer.Done = done
said (answer.Measured counts) = measured counts
said (answer.Distance d) = distance d
said (answer.Nearest p) = nearest p
said (answer.Way cells) = way cells.items
said (answer.Gap d) = gap d
said (answer.Route marks count) = route marks.items count
said (answer.Refused e) = refused e
said answer.NotAllowed = not_allowed

-- whether the call was carried out
abbrev pub accepted : {L : Type 0} → Said L → Bool
accepted (refused e) = false
accepted not_allowed = false
accepted _ = true
