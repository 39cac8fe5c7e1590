-- There is memory for the places to come, and those that are there have what their calls ask for.
-- Assumes nothing.
use Rattle.std.proofs.Common.{◌≡◌, ◌≤◌, length}
use Rattle.runs.specs.Places.{PlacesFrom}
use Rattle.runs.proofs.space.places.Given as goal

abbrev pub invariant-loop-i : goal.invariant-loop-i
invariant-loop-i g l = (length l.places.items ≡ l.i) ×
    (length l.calls ≤ l.places.cap) × PlacesFrom g.C.RunCall.as_call 0 l.i l.area l.calls
    l.places.items
