use Rattle.std.proofs.Common.{◌≡◌, ℕ, ◌+◌, List, ◌++◌, length, take, Some}
use Rattle.plate.specs.Walks.{way_on}
use Rattle.plate.proofs.Links.{Goes}
use Rattle.plate.proofs.ways.write_way.Given as goal

-- the way is the cells that were written, and then those that follow from this cell
abbrev pub invariant-loop-place : goal.invariant-loop-place
invariant-loop-place g l =
    (rest : List ℕ) ×
    (way_on g.K.Length.kind l.map l.start ≡ Some (take l.place-index l.list ++ rest)) ×
    (length rest + l.place-index ≡ length l.list) ×
    Goes (g.K.Length.kind.encode g.K.Length.kind.zero) l.map l.cell rest
