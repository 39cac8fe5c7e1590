-- What a reading answers, and what it writes. Assumes nothing.
use Rattle.std.specs.Prelude.{◌≡◌, ℕ, cond, List, [], ◌++◌, length, drop, Some, None, Ok, Err, Option, Result, nat_lt}
use Rattle.board.specs.Outcomes.{after, answering}
use Rattle.board.specs.Sizes.{area, cell_at}
use Rattle.board.specs.declared.record.MapRecord.{MapRecord}
use Rattle.lengths.specs.Kinds.{Kind}
use Rattle.measuring.specs.MapReadings.{distance_at, least_sum, marked, nearest_at, route_marks, way_from}
use Rattle.measuring.specs.Ways.{at}
use Rattle.plate.specs.Refusals.{Standing, gap_refusal, reading_refusal, route_refusal}
use Rattle.plate.specs.declared.refusal.Refusal.{Refusal}
use Rattle.plate.specs.declared.refusal.Refusal.TheVariants as refusal

-- what distance answers: the length, or none where the cell is unreached
abbrev pub distance_answer : {L R : Type 0} → Kind L R → Standing → List (MapRecord R) →
    (row column group : ℕ) → Result (Option L) Refusal
distance_answer kind p map row column group =
    answering (reading_refusal p (length map) row column group)
    (distance_at kind map (cell_at p.size row column))

-- what nearest answers: the pad, or none where the cell is unreached
abbrev pub nearest_answer : {L R : Type 0} → Kind L R → Standing → List (MapRecord R) →
    (row column group : ℕ) → Result (Option ℕ) Refusal
nearest_answer kind p map row column group =
    answering (reading_refusal p (length map) row column group)
    (nearest_at kind map (cell_at p.size row column))

-- a refusal that comes before an outcome
abbrev pub unless_refused : {X : Type 0} → Option Refusal → Result X Refusal → Result X Refusal
unless_refused None r = r
unless_refused (Some e) r = Err e

-- a way that fits a list of so many cells; torn links are weighed before the list's length
abbrev pub fitting_way : ℕ → Option (List ℕ) → Result (List ℕ) Refusal
fitting_way room None = Err refusal.Torn
fitting_way room (Some cells) = cond (nat_lt room (length cells)) (Err refusal.Short) (Ok cells)

-- the cells that way writes into a list of so many; none where the cell is unreached
abbrev pub way_cells : {L R : Type 0} → Kind L R → Standing → List (MapRecord R) →
    (row column group room : ℕ) → Result (List ℕ) Refusal
way_cells kind p map row column group room =
    let j = cell_at p.size row column in
    unless_refused (reading_refusal p (length map) row column group)
    (cond (at (kind.encode kind.zero) map j).reached
    (fitting_way room (way_from kind (area p.size) map j))
    (Ok []))

-- how many cells, or the refusal
abbrev pub how_many_of : Result (List ℕ) Refusal → Result ℕ Refusal
how_many_of (Ok cells) = Ok (length cells)
how_many_of (Err e) = Err e

-- the list with the cells in front; as it was where the call was sent back
abbrev pub written : Result (List ℕ) Refusal → List ℕ → List ℕ
written (Ok cells) list = cells ++ drop (length cells) list
written (Err e) list = list

-- what way does: its answer, and the list afterwards
pub record Walks (cells : Result (List ℕ) Refusal) (list list' : List ℕ) (r : Result ℕ Refusal)
    : Type 0 where
  pub answer : r ≡ how_many_of cells
  pub table : list' ≡ written cells list

-- what gap answers: the least sum of a cell's two distances, or none
abbrev pub gap_answer : {L R : Type 0} → Kind L R → (L → L → L) → Standing →
    (first second : List (MapRecord R)) → Result (Option L) Refusal
gap_answer kind sum p first second =
    answering (gap_refusal p (length first) (length second))
    (least_sum kind sum first second (area p.size))

-- what route does: its answer, and the marks afterwards
pub record Routes {L R : Type 0} (kind : Kind L R) (sum : L → L → L) (p : Standing)
    (first second : List (MapRecord R)) (marks marks' : List ℕ) (r : Result ℕ Refusal)
    : Type 0 where
  pub answer : r ≡ answering (route_refusal p (length first) (length second) (length marks))
      (marked kind sum first second (area p.size))
  pub table : marks' ≡ after (route_refusal p (length first) (length second) (length marks)) marks
      (route_marks kind sum first second (area p.size) ++ drop (area p.size) marks)
