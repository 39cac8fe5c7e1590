-- What a run answers, a list of calls on a plate just opened, and what it leaves in the tables.
-- Assumes nothing.
use Rattle.std.specs.Prelude.{◌≡◌, ℕ, Bool, false, List, [], ◌∷◌, length, drop, map, None, Some, Ok, Err, Result, Vec}
use Rattle.std.specs.Borrow.{MutBor}
use Rattle.board.specs.Sizes.{Sized}
use Rattle.board.specs.declared.cell.Cell.{Cell}
use Rattle.board.specs.declared.record.MapRecord.{MapRecord}
use Rattle.board.specs.declared.size.Dimensions.{Dimensions}
use Rattle.board.specs.declared.size.Size.{Size}
use Rattle.measuring.specs.Maps.{entries_needed}
use Rattle.plate.specs.Refusals.{open_refusal}
use Rattle.plate.specs.declared.refusal.Refusal.{Refusal}
use Rattle.queue.specs.declared.offer.Offer.{Offer}
use Rattle.runs.specs.Measurers.{Measurer}
use Rattle.runs.specs.Said.{Said, said}
use Rattle.runs.specs.Histories.{Event, measured_ever}
use Rattle.runs.specs.Steps.{Leads, Starts, State}
use Rattle.runs.specs.Truths.{Rooms, Truthful}
use Rattle.runs.specs.declared.answer.Answer.{Answer}
use Rattle.runs.specs.declared.call.RulerCall.{RulerCall}
use Rattle.runs.specs.declared.plates.Tables.{Tables}

-- the calls with their answers, the last one first, after those before
abbrev pub happened : {L : Type 0} → List RulerCall → List (Said L) → List (Event L) →
    List (Event L)
happened [] answers before = before
happened (call ∷ calls) [] before = before
happened (call ∷ calls) (answer ∷ answers) before =
    happened calls answers (record { call = call; answer = answer } ∷ before)

-- what lent tables hold
pub record Contents (R : Type 0) : Type 0 where
  pub cells : List Cell
  pub groups : List ℕ
  pub first : List (MapRecord R)
  pub second : List (MapRecord R)
  pub queue : List (Offer R)

abbrev pub holding : {R : Type 0} → List Cell → List ℕ → (first second : List (MapRecord R)) →
    List (Offer R) → Contents R
holding cells groups first second queue =
    record { cells = cells; groups = groups; first = first; second = second; queue = queue }

-- before a run
abbrev pub held : {R : Type 0} → Tables R → Contents R
held tables = holding tables.cells.now tables.groups.now tables.first.now tables.second.now
    tables.entries.now

-- and after it
abbrev pub left : {R : Type 0} →
    MutBor (List Cell) × (MutBor (List ℕ) ×
    (MutBor (List (MapRecord R)) ×
    (MutBor (List (MapRecord R)) × (MutBor (List (Offer R)) × Unit {0})))) → Contents R
left ends = holding ends.0.now ends.1.0.now ends.1.1.0.now ends.1.1.1.0.now ends.1.1.1.1.0.now

-- their lengths
abbrev pub rooms : {R : Type 0} → Contents R → Rooms
rooms held = record {
  cells = length held.cells;
  groups = length held.groups;
  first = length held.first;
  second = length held.second;
  queue = length held.queue;
}

-- what is left in a queue of which measuring needs n entries: those behind them stay, and all stay
-- where nothing was measured
pub record QueueLeft {E : Type 0} (n : ℕ) (was_measured : Bool) (entries entries' : List E) :
    Type 0 where
  pub behind : drop n entries' ≡ drop n entries
  pub unused : was_measured ≡ false → entries' ≡ entries

-- the calls that are answered lead from a plate with its tables to what is left in them
pub record LeadsTo {L R : Type 0} (by : Measurer L R) (start : State R) (calls : List RulerCall)
    (answers : List (Said L)) (left : Contents R) : Type 0 where
  pub after : State R
  pub leads : Leads by start (happened calls answers []) after
  pub cells : left.cells ≡ after.cells
  pub groups : left.groups ≡ after.groups
  pub first : left.first ≡ after.first
  pub second : left.second ≡ after.second
  pub queue : left.queue ≡ after.queue
  pub queue_left : QueueLeft (entries_needed start.plate.size)
      (measured_ever (happened calls answers [])) start.queue left.queue

-- a plate is opened over the tables, and the calls lead on from there
pub record Leaves {L R : Type 0} (asked : Dimensions) (by : Measurer L R) (calls : List RulerCall)
    (answers : List (Said L)) (held left : Contents R) : Type 0 where
  pub start : State R
  pub starts : Starts asked held.cells held.groups start
  pub first : start.first ≡ held.first
  pub second : start.second ≡ held.second
  pub queue : start.queue ≡ held.queue
  pub leads_to : LeadsTo by start calls answers left

-- a plate of these dimensions is opened, and every call has an answer that is true at that moment
pub record Answered {L R : Type 0} (room : Rooms) (asked : Dimensions) (by : Measurer L R)
    (calls : List RulerCall) (answers : List (Said L)) : Type 0 where
  pub opened : open_refusal asked room.cells room.groups ≡ None
  pub size : Size
  pub sized : Sized size asked
  pub all : length answers ≡ length calls
  pub truthful : Truthful room size by (happened calls answers [])

-- what a run comes to over tables that held this and are left so: true answers to all calls, or the
-- one refusal, to open the plate
abbrev pub Ran : {L R : Type 0} → Dimensions → Measurer L R → List RulerCall →
    (held left : Contents R) → Result (List (Said L)) Refusal → Type 0
Ran asked by calls held left (Ok answers) =
    Answered (rooms held) asked by calls answers × Leaves asked by calls answers held left
Ran asked by calls held left (Err e) =
    (open_refusal asked (length held.cells) (length held.groups) ≡ Some e) × (left ≡ held)

-- the same of answers to all calls that are not yet known to be true
abbrev pub RanTo : {L R : Type 0} → Dimensions → Measurer L R → List RulerCall →
    (held left : Contents R) → Result (List (Said L)) Refusal → Type 0
RanTo asked by calls held left (Ok answers) =
    (length answers ≡ length calls) × Leaves asked by calls answers held left
RanTo asked by calls held left (Err e) = Ran asked by calls held left (Err e)

-- what is said by the answers of a run, or its refusal
abbrev pub said_all : {L A : Type 0} → Result (Vec (Answer L) A) Refusal →
    Result (List (Said L)) Refusal
said_all (Ok answers) = Ok (map said answers.items)
said_all (Err e) = Err e
