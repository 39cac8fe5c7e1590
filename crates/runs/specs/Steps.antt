-- One call on a plate with its tables, as its contract allows it, and any number of them. Assumes
-- nothing.
use Rattle.std.specs.Prelude.{◌≡◌, ℕ, ◌<◌, Bool, true, false, cond, List, [], ◌∷◌, length, Some, None, Ok, Err, Option, Result, ◌==◌}
use Rattle.board.specs.Outcomes.{after, answering}
use Rattle.board.specs.Sizes.{Sized, area}
use Rattle.board.specs.declared.cell.Cell.{Cell}
use Rattle.board.specs.declared.record.MapRecord.{MapRecord}
use Rattle.board.specs.declared.size.Dimensions.{Dimensions}
use Rattle.lengths.specs.Kinds.{Kind}
use Rattle.gauges.specs.Meanings.{ByAdding, Crossing, Lawful, Ruling, RulerLaws}
use Rattle.measuring.specs.Boards.{on}
use Rattle.measuring.specs.MapReadings.{marked, route_marks}
use Rattle.measuring.specs.Maps.{counts_of, entries_needed, filled}
use Rattle.measuring.specs.Paths.{Measuring, measuring}
use Rattle.plate.specs.Edits.{cells_edited, groups_edited, opened_cells, opened_groups}
use Rattle.plate.specs.Headers.{outdated, renewed}
use Rattle.plate.specs.Maps.{Kept}
use Rattle.plate.specs.Readings.{distance_answer, gap_answer, nearest_answer, way_cells}
use Rattle.plate.specs.Refusals.{Standing, edit_refusal, measure_refusal, open_refusal, route_refusal, seal_refusal}
use Rattle.plate.specs.declared.edit.Edit.{Edit}
use Rattle.plate.specs.declared.edit.Edit.TheVariants as edit
use Rattle.plate.specs.declared.refusal.Refusal.{Refusal}
use Rattle.queue.specs.declared.offer.Offer.{Offer}
use Rattle.runs.specs.Measurers.{Measurer, by_gauge, by_ruler}
use Rattle.runs.specs.Said.{Said}
use Rattle.runs.specs.Said.Said.{done, measured, distance, nearest, way, gap, route, refused, not_allowed}
use Rattle.runs.specs.Histories.{Event}
use Rattle.runs.specs.Truths.{Rooms, Truthful, allowed}
use Rattle.runs.specs.declared.call.Call.TheVariants.{Edit as AnEdit, Measure, Distance, Nearest, Way, Seal, Break}
use Rattle.runs.specs.declared.call.RulerCall.{RulerCall}
use Rattle.runs.specs.declared.call.RulerCall.TheVariants.{Plain, Gap, Route}

-- what a plate goes by, whether it is sealed, and its tables
pub record State (R : Type 0) : Type 0 where
  pub plate : Standing
  pub is_sealed : Bool
  pub cells : List Cell
  pub groups : List ℕ
  pub first : List (MapRecord R)
  pub second : List (MapRecord R)
  pub queue : List (Offer R)

-- the lengths of its tables
abbrev pub rooms_of : {R : Type 0} → State R → Rooms
rooms_of s = record {
  cells = length s.cells;
  groups = length s.groups;
  first = length s.first;
  second = length s.second;
  queue = length s.queue;
}

-- the map that is lent for a group: the first for group 1, and the second for any other
abbrev pub map_of : {R : Type 0} → State R → ℕ → List (MapRecord R)
map_of s group = cond (group == 1) s.first s.second

-- heights are what a cell holds
abbrev pub HeightFits : Edit → Type 0
HeightFits (edit.Set row column height pad) = height < 65536
HeightFits _ = Unit {0}

-- the state after an edit
abbrev pub edit_made : {R : Type 0} → Edit → State R → State R
edit_made e s = record s {
  plate = outdated s.plate;
  cells = cells_edited s.plate.size e s.cells;
  groups = groups_edited e s.groups;
}

-- the state after a group is measured, with what is then in the queue
abbrev pub after_measuring : {L R : Type 0} → Measuring L R → List (Offer R) → State R → State R
after_measuring m queue s = record s {
  plate = renewed m.group s.plate;
  first = cond (m.group == 1) (filled m s.first) s.first;
  second = cond (m.group == 1) s.second (filled m s.second);
  queue = queue;
}

-- the answer that gives a call's result
abbrev pub telling : {L X : Type 0} → (X → Said L) → Result X Refusal → Said L
telling tell (Ok x) = tell x
telling tell (Err e) = refused e

module _ {L R : Type 0} (by : Measurer L R) (s : State R) (answer : Said L) (s' : State R) where
  -- a call that is sent back so or else done, and then leaves this state
  pub record Does (back : Option Refusal) (then : State R) : Type 0 where
    pub told : answer ≡ telling {X = Unit {0}} (λ x. done) (answering back tt)
    pub state : s' ≡ after back s then

  -- a reading, which leaves all as it was
  pub record Reads {X : Type 0} (tell : X → Said L) (result : Result X Refusal) : Type 0 where
    pub told : answer ≡ telling tell result
    pub state : s' ≡ s

  -- measuring a group: of the queue no more than its needed entries are written, and its length
  -- stays
  pub record MeasureStep (m : Measuring L R) (back : Option Refusal) : Type 0 where
    pub queue : List (Offer R)
    pub kept : Kept back (entries_needed s.plate.size) s.queue queue
    pub long : length queue ≡ length s.queue
    pub told : answer ≡ telling measured (answering back (counts_of m))
    pub state : s' ≡ after back s (after_measuring m queue s)

  -- a gap and a route want a sum
  abbrev pub GapStep : Option (L → L → L) → Type 0
  GapStep None = ⊥
  GapStep (Some sum) = Reads gap (gap_answer by.kind sum s.plate s.first s.second)

  abbrev pub RouteStep : Option (L → L → L) → ℕ → Type 0
  RouteStep None room = ⊥
  RouteStep (Some sum) room =
      let n = area s.plate.size in
      Reads (route (route_marks by.kind sum s.first s.second n))
      (answering (route_refusal s.plate (length s.first) (length s.second) room)
      (marked by.kind sum s.first s.second n))

  -- a call that the state allows
  abbrev pub CarriesOut : RulerCall → Type 0
  CarriesOut (Plain (AnEdit e)) =
      HeightFits e × Does (edit_refusal s.plate.size (length s.cells) (length s.groups) e) (edit_made e s)
  CarriesOut (Plain (Measure group)) =
      MeasureStep (measuring by.kind by.gauge (on s.plate.size s.cells s.groups) group)
      (measure_refusal s.plate.size
      (length s.cells) (length s.groups) (length (map_of s group)) (length s.queue) group)
  CarriesOut (Plain (Distance row column group)) =
      Reads distance (distance_answer by.kind s.plate (map_of s group) row column group)
  CarriesOut (Plain (Nearest row column group)) =
      Reads nearest (nearest_answer by.kind s.plate (map_of s group) row column group)
  CarriesOut (Plain (Way row column group room)) =
      Reads way (way_cells by.kind s.plate (map_of s group) row column group room)
  CarriesOut (Plain Seal) = Does (seal_refusal s.plate) (record s { is_sealed = true })
  CarriesOut (Plain Break) = Does None (record s { is_sealed = false })
  CarriesOut Gap = GapStep by.sums
  CarriesOut (Route room) = RouteStep by.sums room

  -- a call that the state does not allow is answered as such, and does nothing
  abbrev pub Unless : Bool → Type 0 → Type 0
  Unless true carried = carried
  Unless false carried = (answer ≡ not_allowed) × (s' ≡ s)

-- one call leads from one state to another
abbrev pub Steps : {L R : Type 0} → Measurer L R → RulerCall → Said L → State R → State R → Type 0
Steps by call answer s s' =
    Unless by s answer s' (allowed s.is_sealed call) (CarriesOut by s answer s' call)

-- the calls and answers, the last one first, lead from one state to another
abbrev pub Leads : {L R : Type 0} → Measurer L R → State R → List (Event L) → State R → Type 0
Leads by start [] s = s ≡ start
Leads {L} {R} by start (e ∷ before) s =
    (mid : State R) × Leads by start before mid × Steps by e.call e.answer mid s

-- a plate just opened over these cells and groups, and over maps and a queue of any content
pub record Starts {R : Type 0} (asked : Dimensions) (cells : List Cell) (groups : List ℕ)
    (s : State R) : Type 0 where
  pub opened : open_refusal asked (length cells) (length groups) ≡ None
  pub sized : Sized s.plate.size asked
  pub first_outdated : s.plate.first ≡ false
  pub second_outdated : s.plate.second ≡ false
  pub is_draft : s.is_sealed ≡ false
  pub all_bare : s.cells ≡ opened_cells asked cells
  pub no_groups : s.groups ≡ opened_groups groups

-- of every list of calls on a plate just opened, each as its contract allows
abbrev pub EveryRun : {L R : Type 0} → Measurer L R → (State R → List (Event L) → Type 0) → Type 0
EveryRun {L} {R} by P =
    (asked : Dimensions) (cells : List Cell) (groups : List ℕ) (start : State R) →
    Starts asked cells groups start →
    (history : List (Event L)) (s : State R) → Leads by start history s → P start history

-- the answers are true
abbrev pub TellsTruth : {L R : Type 0} → Measurer L R → Type 0
TellsTruth by = EveryRun by (λ start history. Truthful (rooms_of start) start.plate.size by history)

-- over every lawful gauge, with no sums
abbrev pub GaugeRuns : {L R : Type 0} → Kind L R → Type 0
GaugeRuns {L} kind = (g : Crossing L) → Lawful kind g → TellsTruth (by_gauge kind g)

-- over every lawful ruler, with its sums
abbrev pub RulerRuns : {L R : Type 0} → Kind L R → Type 0
RulerRuns {L} kind =
    (ruler : Ruling L) → RulerLaws kind ruler → (g : Crossing L) → ByAdding ruler g →
    TellsTruth (by_ruler kind g ruler.sum)
