-- A list, or marks, as many as the lesser of what is asked and the plate, are enough. Assumes
-- nothing.
use Rattle.std.proofs.Common.{◌≡◌, ℕ, ◌≤◌, ◌<◌, false, cond, ltb, List, [], length, min, take, Some, None, Ok, Option, sym, subst, refl, ap, ◌∙◌, ⊎_elim, arith}
use Rattle.std.proofs.Math.Nat.{min-eq_left, min-eq_right}
use Rattle.std.proofs.lemmas.Bool.{cases_Bool, cond-false}
use Rattle.std.proofs.lemmas.Bool.Decides.{nat_tests}
use Rattle.board.specs.Outcomes.{answering, refuse}
use Rattle.board.specs.Sizes.{area, cell_at}
use Rattle.board.specs.declared.record.MapRecord.{MapRecord}
use Rattle.geodesics.proofs.SummedPaths.{way_short}
use Rattle.measuring.specs.MapReadings.{marked, route_marks, way_from}
use Rattle.measuring.specs.Ways.{at}
use Rattle.plate.specs.Readings.{fitting_way, unless_refused, way_cells}
use Rattle.plate.specs.Refusals.{gap_refusal, reading_refusal, route_refusal}
use Rattle.plate.specs.declared.refusal.Refusal.TheVariants.{Tables}
use Rattle.runs.specs.Measurers.{Measurer}
use Rattle.runs.specs.Places.{PlaceFor, list_of, marks_of, within_place}
use Rattle.runs.specs.Said.{Said}
use Rattle.runs.specs.Said.Said.{route, way}
use Rattle.runs.specs.Steps.{Reads, RouteStep, State, Steps, map_of}
use Rattle.runs.specs.declared.answer.Answer.{Answer}
use Rattle.runs.specs.declared.call.Call.TheVariants.{Edit, Measure, Distance, Nearest, Way, Seal, Break}
use Rattle.runs.specs.declared.call.RulerCall.{RulerCall}
use Rattle.runs.specs.declared.call.RulerCall.TheVariants.{Plain, Gap, Route}

-- what is lent is what is asked, or both are at least n
min_cases : (room n lent : ℕ) (P : ℕ → Type 0) → lent ≡ min room n → P room →
    (n ≤ lent → n ≤ room → lent < room → P lent) → P (min room lent)
min_cases room n lent P enough asked most =
    ⊎_elim
    (λ less.
    let fewer : lent < room = grind (arith, nat_tests, less) in
    subst P (sym (min-eq_right {n = lent} {m = room} (omega arith))) (
    ⊎_elim
    (λ small. absurd (let short : min room n ≡ room =
    min-eq_left {n = room} {m = n} (grind (arith, nat_tests, small)) in
    omega (arith, short, enough)))
    (λ large.
    let plate : n ≤ room = grind (arith, nat_tests, large) in
    let short : min room n ≡ n = min-eq_right {n = n} {m = room} plate in
    most (omega (arith, short, enough)) plate fewer)
    (cases_Bool (ltb room n))
    ))
    (λ more. subst P (sym (min-eq_left {n = room} {m = lent} (grind (arith, nat_tests, more))))
    asked)
    (cases_Bool (ltb lent room))

-- two lists that hold each way of at most n cells judge it alike
fits_alike : (n k room : ℕ) (found : Option (List ℕ)) →
    ((cells : List ℕ) → found ≡ Some cells → length cells ≤ n) → n ≤ k → n ≤ room →
    fitting_way k found ≡ fitting_way room found
fits_alike n k room None short in_k in_room = refl
fits_alike n k room (Some cells) short in_k in_room =
    let few = short cells refl in
    cond-false (ltb k (length cells)) _ _ (grind (arith, nat_tests))
    ∙ sym (cond-false (ltb room (length cells)) _ _ (grind (arith, nat_tests)))

module _ {L R : Type 0} (by : Measurer L R) (s : State R) (answer : Said L) (s' : State R) where
  cells_alike : (map : List (MapRecord R)) (row column group k room : ℕ) → area s.plate.size ≤ k →
      area s.plate.size ≤ room → way_cells by.kind s.plate map row column group k
      ≡ way_cells by.kind s.plate map row column group room
  cells_alike map row column group k room in_k in_room =
      let n = area s.plate.size in
      let j = cell_at s.plate.size row column in
      let none = by.kind.encode by.kind.zero in
      ap (λ r. unless_refused (reading_refusal s.plate (length map) row column group)
      (cond (at none map j).reached r (Ok [])))
      (fits_alike n k room (way_from by.kind n map j)
      (way_short none (take n map) n j) in_k in_room)

  abbrev WayInto : ℕ → ℕ → ℕ → ℕ → Type 0
  WayInto row column group room =
      Reads by s answer s' way (way_cells by.kind s.plate (map_of s group) row column group room)

  -- marks that are enough for the plate judge a route alike
  route_alike : (k room : ℕ) → area s.plate.size ≤ k → area s.plate.size ≤ room →
      route_refusal s.plate (length s.first) (length s.second) k
      ≡ route_refusal s.plate (length s.first) (length s.second) room
  route_alike k room in_k in_room =
      let n = area s.plate.size in
      let back = gap_refusal s.plate (length s.first) (length s.second) in
      let k_holds : ltb k n ≡ false = grind (arith, nat_tests) in
      let room_holds : ltb room n ≡ false = grind (arith, nat_tests) in
      ap (λ few. refuse few Tables back) (k_holds ∙ sym room_holds)

  enough_marks : (sums : Option (L → L → L)) (room : ℕ) (place : Answer L) →
      PlaceFor (area s.plate.size) (Route room) place →
      RouteStep by s answer s' sums (min room (length (marks_of place))) →
      RouteStep by s answer s' sums room
  enough_marks None room place fit step = step
  enough_marks (Some sum) room place fit step =
      let n = area s.plate.size in
      min_cases room n (length (marks_of place))
      (λ k. RouteStep by s answer s' (Some sum) k →
      RouteStep by s answer s' (Some sum) room) fit.marks
      (λ step. step)
      (λ in_k in_room less. subst
      (λ back. Reads by s answer s' (route (route_marks by.kind sum s.first s.second n))
      (answering back (marked by.kind sum s.first s.second n)))
      (route_alike (length (marks_of place)) room in_k in_room)) step

  -- over a place that is fit the call is made as it was asked
  pub enough_room : (call : RulerCall) (place : Answer L) →
      PlaceFor (area s.plate.size) call place → Steps by (within_place place call) answer s s' →
      Steps by call answer s s'
  enough_room (Plain (Way row column group room)) place fit step =
      min_cases room (area s.plate.size) (length (list_of place))
      (λ k. WayInto row column group k → WayInto row column group room) fit.list
      (λ step. step)
      (λ in_k in_room less. subst (Reads by s answer s' way)
      (cells_alike (map_of s group) row column group
      (length (list_of place)) room in_k in_room)) step
  enough_room (Route room) place fit step = enough_marks by.sums room place fit step
  enough_room Gap place fit step = step
  enough_room (Plain (Edit e)) place fit step = step
  enough_room (Plain (Measure group)) place fit step = step
  enough_room (Plain (Distance row column group)) place fit step = step
  enough_room (Plain (Nearest row column group)) place fit step = step
  enough_room (Plain Seal) place fit step = step
  enough_room (Plain Break) place fit step = step
