-- The gap and the route over every lawful ruler, in terms of paths between the groups. Assumes nothing.
use Rattle.std.specs.Prelude.{◌≡◌, ℕ, ◌<◌, true, List, ◌∷◌, Decides, MatchOption}
use Rattle.std.specs.List.{Contains}
use Rattle.board.specs.Sizes.{area}
use Rattle.lengths.specs.Kinds.{Kind}
use Rattle.gauges.specs.Meanings.{ByAdding, Crossing, Ruling, RulerLaws}
use Rattle.measuring.specs.Boards.{Board}
use Rattle.measuring.specs.Paths.{Measuring, PathBetween, measuring}
use Rattle.measuring.specs.Maps.{measured_map}
use Rattle.measuring.specs.MapReadings.{least_sum, on_route}
use Rattle.geodesics.specs.Fitting.{Fitting}

-- a path between the groups has this length, and every one is at least as long
pub record ShortestBetween {L R : Type 0} (m : Measuring L R) (other : ℕ) (a : L) : Type 0 where
  pub end : ℕ
  pub cells : List ℕ
  pub path : PathBetween m other end cells a
  pub least : (j : ℕ) (others : List ℕ) (b : L) →
      PathBetween m other j others b → m.kind.le a b ≡ true

-- a cell lies on a path between the groups that is as short as any
pub record OnShortest {L R : Type 0} (m : Measuring L R) (other i : ℕ) : Type 0 where
  pub end : ℕ
  pub cells : List ℕ
  pub length : L
  pub path : PathBetween m other end cells length
  pub least : (j : ℕ) (others : List ℕ) (b : L) →
      PathBetween m other j others b → m.kind.le length b ≡ true
  pub on : Contains (end ∷ cells) i

-- no path leads from the group to the other
abbrev pub NoPathBetween : {L R : Type 0} → Measuring L R → ℕ → Type 0
NoPathBetween {L} m other = (j : ℕ) (cells : List ℕ) (a : L) → PathBetween m other j cells a → ⊥

-- the gap of the two measured maps is the least length of a path between the groups, and there is
-- none exactly when there is no such path
abbrev pub GapIsLeast : {L R : Type 0} → Kind L R → Ruling L → Crossing L → Board → Type 0
GapIsLeast kind ruler g b =
    let one = measuring kind g b 1 in
    let two = measuring kind g b 2 in
    MatchOption (least_sum kind ruler.sum (measured_map one) (measured_map two) (area b.size))
    (NoPathBetween one 2)
    (ShortestBetween one 2)

-- a cell is marked exactly when it lies on a path between the groups that is as short as any
abbrev pub RouteIsShortest : {L R : Type 0} → Kind L R → Ruling L → Crossing L → Board → Type 0
RouteIsShortest kind ruler g b =
    let one = measuring kind g b 1 in
    let two = measuring kind g b 2 in
    (i : ℕ) → i < area b.size →
    Decides
    (on_route kind ruler.sum (measured_map one) (measured_map two) (area b.size) i)
    (OnShortest one 2 i)

-- over every lawful ruler with the gauge that adds by it, and every board
abbrev pub OverEveryRuler : {L R : Type 0} → Kind L R →
    (Kind L R → Ruling L → Crossing L → Board → Type 0) → Type 0
OverEveryRuler {L} kind P =
    (ruler : Ruling L) → RulerLaws kind ruler → (g : Crossing L) → ByAdding ruler g →
    (b : Board) → Fitting b → P kind ruler g b
