-- The lengths of a measured map are least, and its links are ways. Assumes nothing.
use Rattle.std.specs.Prelude.{◌≡◌, ℕ, ◌<◌, true, not, List, ◌∷◌, length, Some, MatchBool, ◌==◌, slice_index_or}
use Rattle.board.specs.Sizes.{area}
use Rattle.board.specs.declared.record.MapRecord.{MapRecord}
use Rattle.lengths.specs.Kinds.{Kind}
use Rattle.gauges.specs.Meanings.{Crossing, Lawful}
use Rattle.gauges.specs.declared.step.Step.{Step}
use Rattle.measuring.specs.Boards.{Board, source_of}
use Rattle.measuring.specs.Paths.{Measuring, Path, measuring}
use Rattle.measuring.specs.Maps.{measured_map}
use Rattle.measuring.specs.Ways.{at, way_within}
use Rattle.geodesics.specs.Fitting.{Fitting}

-- a cell's record in the measured map
abbrev pub measured_record : {L R : Type 0} → Measuring L R → ℕ → MapRecord R
measured_record m j = at (m.kind.encode m.kind.zero) (measured_map m) j

-- a path of the group to the cell has this length, and every one is at least as long
pub record Shortest {L R : Type 0} (m : Measuring L R) (j : ℕ) (a : L) : Type 0 where
  pub cells : List ℕ
  pub path : Path m j cells a
  pub least : (others : List ℕ) (b : L) → Path m j others b → m.kind.le a b ≡ true

-- no path of the group ends at the cell
abbrev pub NoPath : {L R : Type 0} → Measuring L R → ℕ → Type 0
NoPath {L} m j = (cells : List ℕ) (a : L) → Path m j cells a → ⊥

-- a reached cell's length is the least of a path to it, and there is no path to an unreached one
abbrev pub LeastLengths : {L R : Type 0} → Measuring L R → Type 0
LeastLengths m =
    (j : ℕ) → j < area m.board.size →
    MatchBool (measured_record m j).reached (Shortest m j (m.kind.decode (measured_record m j).length)) (NoPath m j)

-- from a reached cell the links lead within as many cells as there are to one that is linked to
-- itself: backwards that is a path of the cell's length, from a source that has the cell's pad
pub record Way {L R : Type 0} (m : Measuring L R) (j : ℕ) : Type 0 where
  pub cells : List ℕ
  pub linked :
      way_within (m.kind.encode m.kind.zero) (measured_map m) (area m.board.size) j ≡
      Some (j ∷ cells)
  pub path : Path m j cells (m.kind.decode (measured_record m j).length)
  pub source :
      source_of m.board m.group (slice_index_or (j ∷ cells) (length cells) j) ≡
      (measured_record m j).pad

abbrev pub LinksAreWays : {L R : Type 0} → Measuring L R → Type 0
LinksAreWays m = (j : ℕ) → (measured_record m j).reached ≡ true → Way m j

-- over every lawful gauge, every board and every group
abbrev pub OverEveryGauge : {L R : Type 0} → Kind L R → (Measuring L R → Type 0) → Type 0
OverEveryGauge {L} kind P =
    (g : Crossing L) → Lawful kind g → (b : Board) → Fitting b →
    (group : ℕ) → P (measuring kind g b group)

-- a gauge that bars every step leaves exactly the sources reached
abbrev pub BarredEverywhere : {L R : Type 0} → Measuring L R → Type 0
BarredEverywhere m =
    ((s : Step) → m.gauge.barred s ≡ true) →
    (j : ℕ) → j < area m.board.size →
    ((measured_record m j).reached ≡ not (source_of m.board m.group j == 0))
