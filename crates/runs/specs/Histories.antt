-- What a list of calls with their answers says of a plate: the board as it stands, which maps are
-- current, and whether the plate is sealed. Assumes nothing.
use Rattle.std.specs.Prelude.{ℕ, Bool, true, false, cond, ◌||◌, List, [], ◌∷◌, replicate, ◌==◌}
use Rattle.board.specs.Sizes.{area}
use Rattle.board.specs.Tables.{bare_cell, pads}
use Rattle.board.specs.declared.size.Size.{Size}
use Rattle.measuring.specs.Boards.{Board, on}
use Rattle.plate.specs.Edits.{cells_edited, groups_edited}
use Rattle.plate.specs.Refusals.{Standing}
use Rattle.runs.specs.Said.{Said, accepted}
use Rattle.runs.specs.declared.call.Call.TheVariants.{Edit, Measure, Seal, Break}
use Rattle.runs.specs.declared.call.RulerCall.{RulerCall}
use Rattle.runs.specs.declared.call.RulerCall.TheVariants.{Plain}

-- a call with its answer
pub record Event (L : Type 0) : Type 0 where
  pub call : RulerCall
  pub answer : Said L

-- what an accepted call makes of the board: an edit changes it by its arguments, and all other
-- calls leave it
abbrev pub edited : RulerCall → Board → Board
edited (Plain (Edit e)) b = on b.size (cells_edited b.size e b.cells) (groups_edited e b.groups)
edited _ b = b

-- the board that the calls so far make true, the last one first; it begins bare, with no pad in a
-- group
abbrev pub ledger : {L : Type 0} → Size → List (Event L) → Board
ledger size [] = on size (replicate (area size) bare_cell) (replicate pads 0)
ledger size (e ∷ before) =
    cond (accepted e.answer) (edited e.call (ledger size before)) (ledger size before)

-- what an accepted call makes of whether a group is measured
abbrev pub measures : RulerCall → ℕ → Bool → Bool
measures (Plain (Edit e)) group was = false
measures (Plain (Measure other)) group was = was || (other == group)
measures _ group was = was

-- whether measuring the group was accepted, and no edit after it
abbrev pub current : {L : Type 0} → List (Event L) → ℕ → Bool
current [] group = false
current (e ∷ before) group =
    cond (accepted e.answer) (measures e.call group (current before group)) (current before group)

-- what the calls so far say that later calls go by
abbrev pub standing_by : {L : Type 0} → Size → List (Event L) → Standing
standing_by size before = record { size = size; first = current before 1; second = current before 2 }

-- what an accepted call makes of whether the plate is sealed
abbrev pub seals : RulerCall → Bool → Bool
seals (Plain Seal) was = true
seals (Plain Break) was = false
seals _ was = was

-- whether a seal was accepted, and no break after it
abbrev pub sealed : {L : Type 0} → List (Event L) → Bool
sealed [] = false
sealed (e ∷ before) = cond (accepted e.answer) (seals e.call (sealed before)) (sealed before)

-- whether the call measured a group
abbrev pub measured_now : {L : Type 0} → RulerCall → Said L → Bool
measured_now (Plain (Measure group)) answer = accepted answer
measured_now _ answer = false

-- whether any group was measured
abbrev pub measured_ever : {L : Type 0} → List (Event L) → Bool
measured_ever [] = false
measured_ever (e ∷ before) = measured_now e.call e.answer || measured_ever before
