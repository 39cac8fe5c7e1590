-- Measuring into the map that is lent for a group. Assumes nothing.
use Rattle.std.proofs.Common.{◌≡◌, ℕ, Bool, true, false, cond, ◌==◌, List, length, Some, None, Option, Result, subst, ap, ◌∙◌}
use Rattle.board.specs.Outcomes.{after}
use Rattle.board.specs.declared.cell.Cell.{Cell}
use Rattle.board.specs.declared.record.MapRecord.{MapRecord}
use Rattle.measuring.specs.Boards.{on}
use Rattle.measuring.specs.Maps.{filled}
use Rattle.measuring.specs.Paths.{Measuring, measuring}
use Rattle.measuring.specs.declared.Counts.{Counts}
use Rattle.plate.specs.Maps.{Kept, Measures}
use Rattle.plate.specs.Refusals.{Standing, measure_refusal}
use Rattle.plate.specs.declared.header.Draft.{Draft}
use Rattle.plate.specs.declared.refusal.Refusal.{Refusal}
use Rattle.queue.specs.declared.offer.Offer.{Offer}
use Rattle.runs.specs.Measurers.{Measurer}
use Rattle.runs.specs.Plates.{state}
use Rattle.runs.specs.Said.{Said}
use Rattle.runs.specs.Said.Said.{measured}
use Rattle.runs.specs.Steps.{MeasureStep, State, telling}
use Rattle.runs.specs.declared.plates.Plate.TheVariants as plate

-- a state with this standing, queue, and map in the place of the one that is lent
abbrev pub lent : {R : Type 0} → Bool → State R → Standing → List (MapRecord R) → List (Offer R) →
    State R
lent is_first s p map queue =
    record s {
      plate = p;
      first = cond is_first map s.first;
      second = cond is_first s.second map;
      queue = queue;
    }

abbrev pub map_at : {R : Type 0} → Bool → State R → List (MapRecord R)
map_at is_first s = cond is_first s.first s.second

-- the map that is filled is the one that is lent
filled_where : {L R : Type 0} (m : Measuring L R) (is_first : Bool) (refused : Option Refusal)
    (s : State R) (p then : Standing) (map : List (MapRecord R)) (n : ℕ) (queue : List (Offer R)) →
    p ≡ after refused s.plate then →
    map ≡ after refused (map_at is_first s) (filled m (map_at is_first s)) →
    Kept refused n s.queue queue →
    lent is_first s p map queue
    ≡ after refused s (record s {
      plate = then;
      first = cond is_first (filled m s.first) s.first;
      second = cond is_first s.second (filled m s.second);
      queue = queue;
    })
filled_where m true None s p then map n queue plate table kept =
    λ k. lent true s (plate k) (table k) queue
filled_where m false None s p then map n queue plate table kept =
    λ k. lent false s (plate k) (table k) queue
filled_where m true (Some e) s p then map n queue plate table kept =
    λ k. lent true s (plate k) (table k) (kept k)
filled_where m false (Some e) s p then map n queue plate table kept =
    λ k. lent false s (plate k) (table k) (kept k)

module _ {L R : Type 0} (by : Measurer L R) (d d' : Draft) (cells : List Cell) (groups : List ℕ)
    (group : ℕ) (first second map : List (MapRecord R)) (queue queue' : List (Offer R))
    (r : Result Counts Refusal) (answer : Said L) (told : answer ≡ telling measured r)
    (long : length queue' ≡ length queue) where
  abbrev start : State R
  start = state (plate.Draft d) cells groups first second queue

  abbrev back : Bool → Option Refusal
  back is_first = measure_refusal d.header.size (length cells) (length groups)
      (length (map_at is_first start)) (length queue) group

  abbrev m : Measuring L R
  m = measuring by.kind by.gauge (on d.header.size cells groups) group

  abbrev Done : Bool → Type 0
  Done is_first = Measures (back is_first) m d.header d'.header
      (map_at is_first start) map queue queue' r

  abbrev CarriedOut : Bool → Type 0
  CarriedOut is_first =
      let end = state (plate.Draft d') cells groups (cond is_first map first)
      (cond is_first second map) queue' in
      MeasureStep by start answer end m (back (group == 1))

  at_group : Done (group == 1) → CarriedOut (group == 1)
  at_group measures = record {
    queue = queue';
    kept = measures.queue;
    long = long;
    told = told ∙ ap (telling measured) measures.answer;
    state = filled_where m (group == 1)
        (back (group == 1)) start _ _ map _ queue' measures.header measures.table measures.queue;
  }

  -- the first map is lent for group 1, and the second for any other
  pub measured_into : (is_first : Bool) → (group == 1) ≡ is_first → Done is_first → CarriedOut is_first
  measured_into is_first is = subst (λ b. Done b → CarriedOut b) is at_group
