use Rattle.std.proofs.Common.{◌≡◌, ℕ, ◌<◌, cond, get_or}
use Rattle.measuring.specs.Sums.{how_many}
use Rattle.measuring.specs.MapReadings.{on_route}
use Rattle.plate.proofs.routes.Maps.mark_route.Given as goal

-- what is marked and counted below the number
abbrev pub invariant-loop-number : goal.invariant-loop-number
invariant-loop-number g l =
    let on = on_route g.R.Length.Length.kind (g.R.Ruler.ruling l.self.ruler.now).sum l.self.first.now l.self.second.now l.self.area in
    ((k : ℕ) → k < l.number → get_or l.marks k 0 ≡ cond (on k) 1 0) ×
    (l.count ≡ how_many on l.number)
