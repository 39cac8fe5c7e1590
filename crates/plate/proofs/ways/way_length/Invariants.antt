use Rattle.std.proofs.Common.{◌≡◌, ℕ, ◌-◌, List, length}
use Rattle.measuring.specs.Ways.{way_within}
use Rattle.plate.specs.Walks.{way_on}
use Rattle.plate.proofs.Links.{following}
use Rattle.plate.proofs.ways.way_length.Given as goal

-- the way is the cells that were passed, and then the way from this cell
abbrev pub invariant-loop-passed : goal.invariant-loop-passed
invariant-loop-passed g l =
    (front : List ℕ) ×
    (length front ≡ l.passed) ×
    (way_on g.K.Length.kind l.map l.start ≡ following front (way_within (g.K.Length.kind.encode g.K.Length.kind.zero) l.map (length l.map - l.passed) l.cell))
