-- One step: measuring. Assumes nothing.
use Rattle.std.proofs.Common.{◌≡◌, ℕ, ◌≤◌, Bool, true, false, cond, not, ◌||◌, ◌==◌, List, length, drop, None, Some, Option, sym, refl, ap, ◌∙◌, subst, subst₂, arith}
use Rattle.std.proofs.lemmas.Bool.{eqb-true, ltb-false, or_parts}
use Rattle.std.proofs.lemmas.Bool.Decides.{nat_tests}
use Rattle.std.proofs.lemmas.List.{length-append, length-drop, take_at}
use Rattle.board.specs.Groups.{no_group}
use Rattle.board.specs.Sizes.{area}
use Rattle.board.specs.declared.record.MapRecord.{MapRecord}
use Rattle.measuring.specs.Boards.{Board, on}
use Rattle.measuring.specs.Maps.{counts_of, filled, measured_map}
use Rattle.measuring.specs.Paths.{Measuring}
use Rattle.measuring.proofs.Maps.{map_length}
use Rattle.geodesics.specs.Unique.{SameBoard}
use Rattle.geodesics.proofs.SameBoards.{one_map, same_counts}
use Rattle.plate.specs.Headers.{renewed}
use Rattle.plate.specs.Refusals.{measure_refusal}
use Rattle.plate.specs.declared.refusal.Refusal.{Refusal}
use Rattle.plate.specs.declared.refusal.Refusal.TheVariants.{Tables, Group}
use Rattle.queue.specs.declared.offer.Offer.{Offer}
use Rattle.runs.specs.Measurers.{Measurer}
use Rattle.runs.specs.Said.{Said}
use Rattle.runs.specs.Said.Said.{measured}
use Rattle.runs.specs.Steps.{CarriesOut, MeasureStep, State, after_measuring, map_of, rooms_of}
use Rattle.runs.specs.Truths.{CountsAre, map_room, measured_by}
use Rattle.runs.specs.declared.call.Call.TheVariants.{Measure}
use Rattle.runs.specs.declared.call.RulerCall.{RulerCall}
use Rattle.runs.specs.declared.call.RulerCall.TheVariants.{Plain}
use Rattle.runs.proofs.Counting.{counts_shown}
use Rattle.runs.proofs.Trimmed.{same_board}
use Rattle.runs.proofs.Moments.{Held, Lawfully, Next, Onward, Stands, board_fits, board_of, moment_of}
use Rattle.runs.proofs.Moves.{refuse_none, sent}

-- the length of the map that is lent
pub map_lent : {R : Type 0} (s : State R) (group : ℕ) →
    length (map_of s group) ≡ map_room (rooms_of s) group
map_lent s group = some_length (group == 1)
  where
    some_length : (b : Bool) →
        length (cond b s.first s.second) ≡ cond b (length s.first) (length s.second)
    some_length true = refl
    some_length false = refl

or_false : (was : Bool) → (was || false) ≡ true → was ≡ true
or_false true current = refl
or_false false current = current

module _ {L R : Type 0} (by : Measurer L R) (laws : Lawfully by) (s : State R) (stands : Stands by s)
    (group : ℕ) where
  -- the board that is measured, and what is measured of it
  abbrev whole : Board
  whole = on s.plate.size s.cells s.groups

  abbrev now : Measuring L R
  now = measured_by by whole group

  same : SameBoard group (board_of s) whole
  same = same_board s.plate.size s.cells s.groups group

  counts_true : CountsAre (measured_by by (board_of s) group) (measured (counts_of now))
  counts_true =
      subst (λ counts. CountsAre (measured_by by (board_of s) group) (measured counts))
      (sym (same_counts (measured_by by (board_of s) group) whole same laws.kind))
      (counts_shown (measured_by by (board_of s) group) laws.kind laws.gauge (board_fits by s stands))

  filled_held : (which : ℕ) (map : List (MapRecord R)) → group ≡ which →
      Held (measured_by by (board_of s) which) (filled now map)
  filled_held which map is =
      let one = one_map laws.kind by.gauge laws.gauge (board_of s) (board_fits by s stands) group in
      subst (λ which. Held (measured_by by (board_of s) which) (filled now map)) is
      (take_at (measured_map now) (drop (area s.plate.size) map) (area s.plate.size) (map_length now)
      ∙ one.2 whole same)

  filled_length : (map : List (MapRecord R)) → area s.plate.size ≤ length map →
      length (filled now map) ≡ length map
  filled_length map long =
      omega (
        arith,
        length-append (measured_map now) (drop (area s.plate.size) map),
        map_length now,
        length-drop (area s.plate.size) map,
      )

  -- the first map and the second, by whether it is the first that is measured
  first_held : (one : Bool) → (one ≡ true → group ≡ 1) → (s.plate.first || one) ≡ true →
      Held (measured_by by (board_of s) 1) (cond one (filled now s.first) s.first)
  first_held true is current = filled_held 1 s.first (is refl)
  first_held false is current = stands.first_held (or_false s.plate.first current)

  second_held : (one : Bool) → (one ≡ false → group ≡ 2) → (s.plate.second || not one) ≡ true →
      Held (measured_by by (board_of s) 2) (cond one s.second (filled now s.second))
  second_held true is current = stands.second_held (or_false s.plate.second current)
  second_held false is current = filled_held 2 s.second (is refl)

  first_length : (one : Bool) → area s.plate.size ≤ length (cond one s.first s.second) →
      length (cond one (filled now s.first) s.first) ≡ length s.first
  first_length true long = filled_length s.first long
  first_length false long = refl

  second_length : (one : Bool) → area s.plate.size ≤ length (cond one s.first s.second) →
      length (cond one s.second (filled now s.second)) ≡ length s.second
  second_length true long = refl
  second_length false long = filled_length s.second long

  abbrev call : RulerCall
  call = Plain (Measure group)

  -- measuring that is not sent back
  measured_now : (queue : List (Offer R)) → length queue ≡ length s.queue →
      no_group group ≡ false → area s.plate.size ≤ length (map_of s group) →
      Next by true None call (measured (counts_of now)) s (after_measuring now queue s)
  measured_now queue as_long some long =
      let other : not (group == 1) ≡ (group == 2) = grind (arith, nat_tests) in
      record {
        truth = counts_true;
        moment = λ k. record (moment_of s) {
          plate = record (renewed group s.plate) { second = s.plate.second || other k };
        };
        stands = record {
          low = stands.low;
          first_held = first_held (group == 1) (eqb-true group 1);
          second_held = second_held (group == 1) (λ isnt. eqb-true group 2 (sym other ∙ ap not isnt));
        };
        same_rooms = λ k. record (rooms_of s) {
          first = first_length (group == 1) long k;
          second = second_length (group == 1) long k;
          queue = as_long k;
        };
      }

  module _ (answer : Said L) (s' : State R) where
    measured_or_sent : (back : Option Refusal) →
        (back ≡ None → (no_group group ≡ false) × (area s.plate.size ≤ length (map_of s group))) →
        MeasureStep by s answer s' now back → Next by true back call answer s s'
    measured_or_sent (Some e) goes step = sent by s stands call answer s' e step.told step.state
    measured_or_sent None goes step =
        subst₂ (λ answer. Next by true None call answer s) (sym step.told) (sym step.state)
        (measured_now step.queue step.long (goes refl).0 (goes refl).1)

    pub measure_step : CarriesOut by s answer s' call → Onward by s answer s' call
    measure_step step =
        let n = length s.cells in
        let k = length s.groups in
        let back : ℕ → Option Refusal =
        λ map. measure_refusal s.plate.size n k map (length s.queue) group in
        subst (λ map. Next by true (back map) call answer s s') (map_lent s group)
        (measured_or_sent _
        (λ none.
        let tables = refuse_none _ Tables _ none in (
          (refuse_none _ Group _ tables.1).0,
          ltb-false _ _ (or_parts _ _ (or_parts _ _ tables.0).1).0,
        ))
        step)
