-- What the words of histories come to on a plate of 1 × 2. Assumes nothing.
use Rattle.std.specs.Prelude.{◌≡◌, ℕ, true, false, List, [], ◌∷◌, replicate, Some, None}
use Rattle.std.proofs.Common.{lit≤}
use Rattle.board.specs.Tables.{barred_cell}
use Rattle.board.specs.declared.size.Size.{Size}
use Rattle.plate.specs.declared.edit.Edit.TheVariants.{Set, Bar, Enrol}
use Rattle.plate.specs.declared.refusal.Refusal.TheVariants.{Group, Off, Outdated, Pad, Tables}
use Rattle.runs.specs.Said.{Said}
use Rattle.runs.specs.Replies.{cells_counted, in_front, told, within}
use Rattle.runs.specs.Said.Said.{done, measured, refused, way}
use Rattle.runs.specs.Histories.{Event, current, ledger, sealed, standing_by}
use Rattle.runs.specs.Truths.{Rooms, allowed, sent_back}
use Rattle.runs.specs.declared.call.Call.TheVariants.{Edit, Measure, Distance, Way, Seal, Break}
use Rattle.runs.specs.declared.call.RulerCall.{RulerCall}
use Rattle.runs.specs.declared.call.RulerCall.TheVariants.{Plain, Gap, Route}
use Rattle.runs.specs.declared.reply.Reply.{Reply}
use Rattle.runs.specs.declared.reply.Reply.TheVariants as reply

abbrev pub pair : Size
pair = record {
  rows = 1;
  columns = 2;
  some_rows = lit≤ tt;
  few_rows = lit≤ tt;
  some_columns =
      lit≤ tt;
  few_columns = lit≤ tt;
}

abbrev pub then : RulerCall → Said ℕ → List (Event ℕ) → List (Event ℕ)
then call answer before = record { call = call; answer = answer } ∷ before

-- two cells are set, one of them is barred, and a call is sent back; then both groups are measured
abbrev pub built : List (Event ℕ)
built =
    then (Plain (Edit (Bar 0 2))) (refused Off)
    (then (Plain (Edit (Bar 0 1))) done
    (then (Plain (Edit (Set 0 1 9 2))) done (then (Plain (Edit (Set 0 0 7 1))) done [])))

abbrev pub measured_both : List (Event ℕ)
measured_both =
    then (Plain (Measure 2)) (measured (record { reached = 0; steps = 0 }))
    (then (Plain (Measure 1)) (measured (record { reached = 0; steps = 0 })) built)

abbrev pub broken : List (Event ℕ)
broken = then (Plain Break) done (then (Plain Seal) done measured_both)

abbrev pub rooms : Rooms
rooms = record { cells = 2; groups = 64; first = 2; second = 1; queue = 18 }

-- with room for both maps
abbrev pub roomy : Rooms
roomy = record { cells = 2; groups = 64; first = 2; second = 2; queue = 18 }

-- a reply that a way has so many cells of the list
abbrev pub way_of : ℕ → Reply ℕ
way_of count = reply.Way count

pub record Examples : Type 0 where
  pub cells : (ledger pair broken).cells
      ≡ record { height = 7; pad = 1; barred = false } ∷ barred_cell ∷ []
  pub groups : (ledger pair (then (Plain (Edit (Enrol 3 2))) done [])).groups
      ≡ 0 ∷ 0 ∷ 2 ∷ replicate 61 0
  pub unmeasured : current built 1 ≡ false
  pub measured_first : current measured_both 1 ≡ true
  pub measured_second : current measured_both 2 ≡ true
  pub still_current : current broken 2 ≡ true
  pub outdated : current (then (Plain (Edit (Enrol 1 1))) done broken) 1 ≡ false
  pub not_outdated : current (then (Plain (Edit (Enrol 0 1))) (refused Pad) broken) 1 ≡ true
  pub is_sealed : sealed (then (Plain Seal) done measured_both) ≡ true
  pub is_broken : sealed broken ≡ false
  pub not_sealed : sealed (then (Plain Seal) (refused Outdated) built) ≡ false
  pub no_edit : allowed true (Plain (Edit (Bar 0 0))) ≡ false
  pub no_measuring : allowed true (Plain (Measure 1)) ≡ false
  pub no_second_seal : allowed true (Plain Seal) ≡ false
  pub no_break : allowed false (Plain Break) ≡ false
  pub readings : allowed true (Route 2) ≡ true
  pub first_of_two : sent_back rooms (standing_by pair built) (Plain (Edit (Set 0 2 0 65)))
      ≡ Some Off
  pub short_map : sent_back rooms (standing_by pair measured_both) (Plain (Measure 3)) ≡ Some Tables
  pub looked_up : sent_back rooms (standing_by pair measured_both) (Plain (Distance 0 0 1)) ≡ None
  pub off_first : sent_back roomy (standing_by pair built) (Plain (Distance 0 2 3)) ≡ Some Off
  pub group_first : sent_back roomy (standing_by pair built) (Plain (Distance 0 1 3)) ≡ Some Group
  pub then_outdated : sent_back roomy (standing_by pair built) (Plain (Distance 0 1 2))
      ≡ Some Outdated
  pub both_maps : sent_back roomy (standing_by pair built) Gap ≡ Some Outdated
  pub less_room_than_lent : within 5 3 (Plain (Way 0 1 2 4)) ≡ Plain (Way 0 1 2 4)
  pub less_lent_than_room : within 5 3 (Plain (Way 0 1 2 6)) ≡ Plain (Way 0 1 2 5)
  pub less_marks_than_room : within 5 3 (Route 4) ≡ Route 3
  pub no_room : within 5 3 (Route 0) ≡ Route 0
  pub no_way_to_cut : within 0 0 (Plain (Edit (Bar 0 1))) ≡ Plain (Edit (Bar 0 1))
  pub way_told : told (way_of 2) (7 ∷ 8 ∷ 9 ∷ []) [] ≡ way (7 ∷ 8 ∷ [])
  pub way_counted : cells_counted (way_of 2) ≡ 2
  pub no_cell_told : told (way_of 0) (7 ∷ 8 ∷ []) [] ≡ way []
  pub written_in_front : in_front (1 ∷ 2 ∷ []) (7 ∷ 8 ∷ 9 ∷ []) ≡ 1 ∷ 2 ∷ 9 ∷ []
  pub nothing_written : in_front [] (7 ∷ 8 ∷ []) ≡ 7 ∷ 8 ∷ []
