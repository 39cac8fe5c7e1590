-- What one call says together with the list and the marks that it was lent. Assumes nothing.
use Rattle.std.specs.Prelude.{◌≡◌, ℕ, List, [], ◌++◌, length, drop, take, min}
use Rattle.board.specs.Sizes.{area}
use Rattle.board.specs.declared.cell.Cell.{Cell}
use Rattle.board.specs.declared.record.MapRecord.{MapRecord}
use Rattle.queue.specs.declared.offer.Offer.{Offer}
use Rattle.runs.specs.Measurers.{Measurer}
use Rattle.runs.specs.Plates.{header_of, state}
use Rattle.runs.specs.Said.{Said}
use Rattle.runs.specs.Said.Said.{done, measured, distance, nearest, way, gap, route, refused, not_allowed}
use Rattle.runs.specs.Steps.{Steps}
use Rattle.runs.specs.declared.call.Call.{Call}
use Rattle.runs.specs.declared.call.Call.TheVariants.{Way}
use Rattle.runs.specs.declared.call.RulerCall.{RulerCall}
use Rattle.runs.specs.declared.call.RulerCall.TheVariants.{Plain, Gap, Route}
use Rattle.runs.specs.declared.plates.Plate.{Plate}
use Rattle.runs.specs.declared.reply.Reply.{Reply}
use Rattle.runs.specs.declared.reply.Reply.TheVariants as reply

-- a way's cells stand in front of the list, and a route has these marks
abbrev pub told : {L : Type 0} → Reply L → List ℕ → List ℕ → Said L
told reply.Done list marks = done
told (reply.Measured counts) list marks = measured counts
told (reply.Distance d) list marks = distance d
told (reply.Nearest p) list marks = nearest p
told (reply.Way count) list marks = way (take count list)
told (reply.Gap d) list marks = gap d
told (reply.Route count) list marks = route marks count
told (reply.Refused e) list marks = refused e
told reply.NotAllowed list marks = not_allowed

-- a route has a mark for each cell of the plate
abbrev pub told_of : {L : Type 0} → Plate → Reply L → List ℕ → List ℕ → Said L
told_of plate answer list marks = told answer list (take (area (header_of plate).size) marks)

-- the call with no more room for its way, or its route, than cells and marks are lent
abbrev pub way_in_room : ℕ → Call → Call
way_in_room cells (Way row column group room) = Way row column group (min room cells)
way_in_room cells call = call

abbrev pub within : ℕ → ℕ → RulerCall → RulerCall
within cells marks (Plain call) = Plain (way_in_room cells call)
within cells marks Gap = Gap
within cells marks (Route room) = Route (min room marks)

-- the cells of a way, and the marks of a route, that a reply leaves in front of the list and the
-- marks
abbrev pub cells_told : {L : Type 0} → Reply L → List ℕ → List ℕ
cells_told (reply.Way count) list = take count list
cells_told _ list = []

abbrev pub marks_told : {L : Type 0} → Plate → Reply L → List ℕ → List ℕ
marks_told plate (reply.Route count) marks = take (area (header_of plate).size) marks
marks_told plate _ marks = []

-- how many cells of the list a reply says are a way's
abbrev pub cells_counted : {L : Type 0} → Reply L → ℕ
cells_counted (reply.Way count) = count
cells_counted _ = 0

-- a table with these entries in front, and as it was behind them
abbrev pub in_front : List ℕ → List ℕ → List ℕ
in_front front table = front ++ drop (length front) table

-- what a reply leaves in the list that was lent to its call: the cells of a way, as many as are
-- counted, in front of what was there
pub record ListLeft {L : Type 0} (answer : Reply L) (list list' : List ℕ) : Type 0 where
  pub cells : list' ≡ in_front (cells_told answer list') list
  pub count : cells_counted answer ≡ length (cells_told answer list')

-- what one call leaves of a plate, which it answers with r, of the tables, the list and the marks:
-- its step, with no more room than is lent
pub record CarriedOut {L R : Type 0} (by : Measurer L R) (call : RulerCall) (p : Plate)
    (r : Plate × Reply L) (cells cells' : List Cell) (groups groups' : List ℕ)
    (first first' second second' : List (MapRecord R)) (queue queue' : List (Offer R))
    (list list' marks marks' : List ℕ) : Type 0 where
  pub step : Steps by (within (length list) (length marks) call) (told_of p r.1 list' marks')
      (state p cells groups first second queue) (state r.0 cells' groups' first' second' queue')
  pub on_list : ListLeft r.1 list list'
  pub on_marks : marks' ≡ in_front (marks_told p r.1 marks') marks
