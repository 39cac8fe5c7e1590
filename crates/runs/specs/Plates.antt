-- A plate in either state as a state. Assumes nothing.
use Rattle.std.specs.Prelude.{ℕ, Bool, true, false, List, Option}
use Rattle.board.specs.declared.cell.Cell.{Cell}
use Rattle.board.specs.declared.record.MapRecord.{MapRecord}
use Rattle.lengths.specs.Kinds.{Kind}
use Rattle.gauges.specs.Meanings.{Crossing}
use Rattle.plate.specs.Headers.{standing}
use Rattle.plate.specs.declared.header.Header.{Header}
use Rattle.queue.specs.declared.offer.Offer.{Offer}
use Rattle.runs.specs.Measurers.{by_ruler}
use Rattle.runs.specs.Said.{Said}
use Rattle.runs.specs.Steps.{State, Steps}
use Rattle.runs.specs.declared.call.Call.{Call}
use Rattle.runs.specs.declared.call.RulerCall.{RulerCall}
use Rattle.runs.specs.declared.call.RulerCall.TheVariants.{Plain}
use Rattle.runs.specs.declared.plates.Plate.{Plate}
use Rattle.runs.specs.declared.plates.Plate.TheVariants as plate

abbrev pub header_of : Plate → Header
header_of (plate.Draft d) = d.header
header_of (plate.Sealed s) = s.header

abbrev pub is_sealed : Plate → Bool
is_sealed (plate.Draft d) = false
is_sealed (plate.Sealed s) = true

abbrev pub state : {R : Type 0} → Plate → List Cell → List ℕ → (first second : List (MapRecord R)) →
    List (Offer R) → State R
state p cells groups first second queue = record {
  plate = standing (header_of p);
  is_sealed = is_sealed p;
  cells = cells;
  groups = groups;
  first = first;
  second = second;
  queue = queue;
}

-- a call by a gauge leads from state to state, with sums or without
abbrev pub PlainStep : {L R : Type 0} → Kind L R → Crossing L → Call → Said L → State R → State R →
    Type 0
PlainStep {L} kind g call answer s s' =
    (sums : Option (L → L → L)) →
    Steps (record { kind = kind; gauge = g; sums = sums }) (Plain call) answer s s'

-- a call by a ruler, whatever the tables are that it is not lent
abbrev pub RulerStep : {L R : Type 0} → Kind L R → (L → L → L) → RulerCall → Said L → Plate →
    (first second : List (MapRecord R)) → Type 0
RulerStep {L} {R} kind sum call answer p first second =
    (g : Crossing L) (cells : List Cell) (groups : List ℕ) (queue : List (Offer R)) →
    let s = state p cells groups first second queue in
    Steps (by_ruler kind g sum) call answer s s

-- an edit, which is lent the cells and the groups
abbrev pub OnBoard : {L R : Type 0} → Kind L R → Call → Said L → (p p' : Plate) →
    (cells cells' : List Cell) → (groups groups' : List ℕ) → Type 0
OnBoard {L} {R} kind call answer p p' cells cells' groups groups' =
    (g : Crossing L) (first second : List (MapRecord R)) (queue : List (Offer R)) →
    PlainStep kind g call answer (state p cells groups first second queue)
    (state p' cells' groups' first second queue)

-- measuring, which is lent all tables
abbrev pub OnTables : {L R : Type 0} → Kind L R → Crossing L → Call → Said L → (p p' : Plate) →
    List Cell → List ℕ → (first first' second second' : List (MapRecord R)) →
    (queue queue' : List (Offer R)) → Type 0
OnTables kind g call answer p p' cells groups first first' second second' queue queue' =
    PlainStep kind g call answer (state p cells groups first second queue)
    (state p' cells groups first' second' queue')

-- a call that is lent maps to read, or no table
abbrev pub OnMaps : {L R : Type 0} → Kind L R → Call → Said L → (p p' : Plate) →
    (first second : List (MapRecord R)) → Type 0
OnMaps {L} {R} kind call answer p p' first second =
    (g : Crossing L) (cells : List Cell) (groups : List ℕ) (queue : List (Offer R)) →
    PlainStep kind g call answer (state p cells groups first second queue)
    (state p' cells groups first second queue)
