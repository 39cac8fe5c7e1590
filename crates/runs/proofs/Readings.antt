-- One step: readings. Assumes nothing.
use Rattle.std.proofs.Common.{◌≡◌, ℕ, ◌<◌, ◌⊎◌, Bool, true, false, cond, List, length, None, Some, Option, Result, sym, refl, subst, ⊎_elim, arith}
use Rattle.std.proofs.lemmas.Bool.{not-false, or_parts}
use Rattle.std.proofs.lemmas.Bool.Decides.{nat_tests}
use Rattle.board.specs.Groups.{no_group}
use Rattle.board.specs.Outcomes.{answering}
use Rattle.board.specs.Sizes.{area, cell_at}
use Rattle.board.specs.declared.record.MapRecord.{MapRecord}
use Rattle.gauges.specs.Meanings.{ByAdding, Ruling, RulerLaws}
use Rattle.measuring.specs.MapReadings.{distance_at, least_sum, marked, nearest_at, route_marks}
use Rattle.measuring.specs.Paths.{Measuring}
use Rattle.plate.specs.Readings.{unless_refused}
use Rattle.plate.specs.Refusals.{current, reading_refusal, seal_refusal}
use Rattle.plate.specs.declared.refusal.Refusal.{Refusal}
use Rattle.plate.specs.declared.refusal.Refusal.TheVariants.{Tables, Off, Group, Outdated}
use Rattle.runs.specs.Measurers.{Measurer}
use Rattle.runs.specs.Said.{Said, accepted}
use Rattle.runs.specs.Said.Said.{distance, nearest, way, gap, route}
use Rattle.runs.specs.Steps.{CarriesOut, GapStep, Reads, RouteStep, State, map_of, rooms_of, telling}
use Rattle.runs.specs.Truths.{Answers, map_room, measured_by}
use Rattle.runs.specs.declared.call.Call.TheVariants.{Distance, Nearest, Way}
use Rattle.runs.specs.declared.call.RulerCall.{RulerCall}
use Rattle.runs.specs.declared.call.RulerCall.TheVariants.{Plain, Gap, Route}
use Rattle.runs.proofs.Looks.{distance_held, gap_held, nearest_held, route_held, way_held}
use Rattle.runs.proofs.Moments.{Held, Lawfully, Next, OfRuler, Onward, Stands, board_fits, board_of, moment_after, moment_of}
use Rattle.runs.proofs.Moves.{off_within, refuse_none, sent, stays}
use Rattle.runs.proofs.Measures.{map_lent}

one_or_two : (group : ℕ) → no_group group ≡ false → (group ≡ 1) ⊎ (group ≡ 2)
one_or_two group some = grind (arith, nat_tests)

either : {X : Type 0} (b : Bool) (x : X) → cond b x x ≡ x
either true x = refl
either false x = refl

module _ {L R : Type 0} (by : Measurer L R) (laws : Lawfully by) (s : State R) (stands : Stands by s)
    (answer : Said L) (s' : State R) where
  -- a reading that is sent back, or answered so and changes nothing
  read : {X : Type 0} (call : RulerCall) (tell : X → Said L) (x : X) (back : Option Refusal) →
      moment_after call (tell x) (moment_of s) ≡ moment_of s →
      (back ≡ None → Answers by (board_of s) call (tell x)) →
      Reads by s answer s' tell (answering back x) → Next by true back call answer s s'
  read call tell x (Some e) same right step = sent by s stands call answer s' e step.told step.state
  read call tell x None same right step =
      subst (λ answer. Next by true None call answer s s') (sym step.told)
      (stays by s stands call (tell x) s' true None step.state same (right refl))

  abbrev HeldWhenCurrent : ℕ → Type 0
  HeldWhenCurrent group =
      current s.plate group ≡ true → Held (measured_by by (board_of s) group) (map_of s group)

  module _ (row column group : ℕ) where
    abbrev j : ℕ
    j = cell_at s.plate.size row column

    abbrev map : List (MapRecord R)
    map = map_of s group

    abbrev m : Measuring L R
    m = measured_by by (board_of s) group

    abbrev back : ℕ → Option Refusal
    back room = reading_refusal s.plate room row column group

    -- where a reading is not sent back, its cell is on the plate and its map holds what was
    -- measured
    module _ (none : back (length map) ≡ None) where
      on_plate : j < area s.plate.size
      on_plate =
          off_within s.plate.size row column (refuse_none _ Off _ (refuse_none _ Tables _ none).1).0

      map_held : Held m map
      map_held =
          let on = refuse_none _ Off _ (refuse_none _ Tables _ none).1 in
          let some = refuse_none _ Group _ on.1 in
          let is_current = not-false _ (refuse_none _ Outdated _ some.1).0 in
          ⊎_elim
          (λ one. subst HeldWhenCurrent (sym one) stands.first_held is_current)
          (λ two. subst HeldWhenCurrent (sym two) stands.second_held is_current)
          (one_or_two group some.0)

    -- a reading of the cell's record
    read_at : {X : Type 0} (call : RulerCall) (tell : X → Said L) (x : X) →
        moment_after call (tell x) (moment_of s) ≡ moment_of s →
        (Held m map → j < area s.plate.size → Answers by (board_of s) call (tell x)) →
        Reads by s answer s' tell (answering (back (length map)) x) →
        Next by true (back (map_room (rooms_of s) group)) call answer s s'
    read_at call tell x same right step =
        subst (λ room. Next by true (back room) call answer s s') (map_lent s group)
        (read call tell x _ same (λ none. right (map_held none) (on_plate none)) step)

    pub distance_step : CarriesOut by s answer s' (Plain (Distance row column group)) →
        Onward by s answer s' (Plain (Distance row column group))
    distance_step =
        read_at (Plain (Distance row column group)) distance (distance_at by.kind map j) refl
        (λ held lt. distance_held m map held laws.kind laws.gauge (board_fits by s stands) j lt)

    pub nearest_step : CarriesOut by s answer s' (Plain (Nearest row column group)) →
        Onward by s answer s' (Plain (Nearest row column group))
    nearest_step =
        read_at (Plain (Nearest row column group)) nearest (nearest_at by.kind map j) refl
        (λ held lt. nearest_held m map held laws.kind laws.gauge (board_fits by s stands) j lt)

    module _ (cells : ℕ) where
      abbrev call : RulerCall
      call = Plain (Way row column group cells)

      -- a way changes nothing, whether its list holds it or not
      quiet : moment_after call answer (moment_of s) ≡ moment_of s
      quiet = λ k. record {
        plate = record {
          size = s.plate.size;
          first = either (accepted answer) s.plate.first k;
          second = either (accepted answer) s.plate.second k;
        };
        is_sealed = either (accepted answer) s.is_sealed k;
        board = either (accepted answer) (board_of s) k;
      }

      way_judged : (refusal : Option Refusal) (found : Result (List ℕ) Refusal) →
          (refusal ≡ None → answer ≡ telling way found → Answers by (board_of s) call answer) →
          Reads by s answer s' way (unless_refused refusal found) →
          Next by true refusal call answer s s'
      way_judged (Some e) found right step = sent by s stands call answer s' e step.told step.state
      way_judged None found right step =
          stays by s stands call answer s' true None step.state quiet (right refl step.told)

      pub way_step : CarriesOut by s answer s' call → Onward by s answer s' call
      way_step step =
          subst (λ room. Next by true (back room) call answer s s') (map_lent s group)
          (way_judged _ _
          (λ none.
          way_held m map (map_held none) laws.kind laws.gauge (board_fits by s stands)
          j (on_plate none) cells answer)
          step)

  -- where neither map is outdated both are held
  both_held : seal_refusal s.plate ≡ None →
      Held (measured_by by (board_of s) 1) s.first × Held (measured_by by (board_of s) 2) s.second
  both_held none =
      let parts = or_parts _ _ (refuse_none _ Outdated _ none).0 in
      (stands.first_held (not-false _ parts.0), stands.second_held (not-false _ parts.1))

  module _ (ruler : Ruling L) (ruled : RulerLaws by.kind ruler) (adds : ByAdding ruler by.gauge) where
    abbrev n : ℕ
    n = area s.plate.size

    gap_read : GapStep by s answer s' (Some ruler.sum) → Onward by s answer s' Gap
    gap_read =
        read Gap gap (least_sum by.kind ruler.sum s.first s.second n) _ refl
        (λ none.
        let both = both_held (refuse_none _ Tables _ none).1 in
        gap_held by.kind ruler by.gauge (board_of s) s.first s.second both.0 both.1
        laws.kind ruled adds (board_fits by s stands))

    route_read : (room : ℕ) → RouteStep by s answer s' (Some ruler.sum) room →
        Onward by s answer s' (Route room)
    route_read room =
        read (Route room) (route (route_marks by.kind ruler.sum s.first s.second n))
        (marked by.kind ruler.sum s.first s.second n) _ refl
        (λ none.
        let both = both_held (refuse_none _ Tables _ (refuse_none _ Tables _ none).1).1 in
        route_held by.kind ruler by.gauge (board_of s) s.first s.second both.0 both.1
        laws.kind ruled adds (board_fits by s stands))

  pub gap_step : (sums : Option (L → L → L)) → OfRuler by.kind by.gauge sums →
      GapStep by s answer s' sums → Onward by s answer s' Gap
  gap_step None of_ruler step = absurd step
  gap_step (Some sum) (ruler, is, ruled, adds) step =
      gap_read ruler ruled adds (subst (λ sum. GapStep by s answer s' (Some sum)) (sym is) step)

  pub route_step : (sums : Option (L → L → L)) → OfRuler by.kind by.gauge sums → (room : ℕ) →
      RouteStep by s answer s' sums room → Onward by s answer s' (Route room)
  route_step None of_ruler room step = absurd step
  route_step (Some sum) (ruler, is, ruled, adds) room step =
      route_read ruler ruled adds room
      (subst (λ sum. RouteStep by s answer s' (Some sum) room) (sym is) step)
