-- What measuring does and leaves alone. Assumes nothing.
use Rattle.std.specs.Prelude.{◌≡◌, ℕ, ◌≤◌, List, length, drop, Some, None, Option, Result, IfOk}
use Rattle.board.specs.Outcomes.{after, answering}
use Rattle.board.specs.Sizes.{area}
use Rattle.board.specs.declared.cell.Cell.{Cell}
use Rattle.board.specs.declared.record.MapRecord.{MapRecord}
use Rattle.lengths.specs.Kinds.{Kind}
use Rattle.gauges.specs.Meanings.{Crossing}
use Rattle.measuring.specs.Boards.{on}
use Rattle.measuring.specs.Maps.{counts_of, entries_needed, filled}
use Rattle.measuring.specs.Paths.{Measuring, measuring}
use Rattle.measuring.specs.declared.Counts.{Counts}
use Rattle.plate.specs.Headers.{renewed, standing}
use Rattle.plate.specs.Refusals.{measure_refusal}
use Rattle.plate.specs.declared.header.Header.{Header}
use Rattle.plate.specs.declared.refusal.Refusal.{Refusal}

-- a table of which only the first n entries were written, and none where the call was sent back
abbrev pub Kept : {X : Type 0} → Option Refusal → ℕ → List X → List X → Type 0
Kept None n old new = drop n new ≡ drop n old
Kept (Some e) n old new = new ≡ old

-- what measuring a group does: its two counts, its map, what the header says of it, and what of the queue stays
pub record Measures {L R Y : Type 0} (refused : Option Refusal) (m : Measuring L R) (h h' : Header)
    (map map' : List (MapRecord R)) (entries entries' : List Y) (r : Result Counts Refusal)
    : Type 0 where
  pub answer : r ≡ answering refused (counts_of m)
  pub few : IfOk r (λ counts. counts.reached ≤ area m.board.size)
  pub header : standing h' ≡ after refused (standing h) (renewed m.group (standing h))
  pub table : map' ≡ after refused map (filled m map)
  pub queue : Kept refused (entries_needed m.board.size) entries entries'

-- what measuring a group over these tables does
abbrev pub MeasuresOver : {L R Y : Type 0} → Kind L R → Crossing L → (group : ℕ) →
    (h h' : Header) → List Cell → List ℕ → (map map' : List (MapRecord R)) →
    (entries entries' : List Y) → Result Counts Refusal → Type 0
MeasuresOver kind g group h h' cells groups map map' entries entries' r =
    Measures
    (measure_refusal h.size (length cells) (length groups) (length map) (length entries) group)
    (measuring kind g (on h.size cells groups) group)
    h h' map map' entries entries' r
