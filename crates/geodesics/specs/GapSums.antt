-- The gap of two measured maps by the four rulers, in plain sums over lists of neighbours from
-- group 1 to group 2, with no cap. Assumes nothing.
use Rattle.std.specs.Prelude.{◌≡◌, ℕ, ◌^◌, ◌<◌, ◌≤◌, cond, List, ◌∷◌, length, Some, None, MatchOption, Option, ◌==◌, ◌≢◌}
use Rattle.board.specs.Sizes.{area}
use Rattle.lengths.specs.Wholes.{whole_kind}
use Rattle.lengths.specs.Counteds.{counted_kind}
use Rattle.gauges.specs.Meanings.{adding}
use Rattle.gauges.specs.Rulers.{whole_ruling, counted_chessboard, chessboard_units}
use Rattle.gauges.specs.declared.step.Step.{Step}
use Rattle.measuring.specs.Boards.{Board, source_of}
use Rattle.measuring.specs.Maps.{measured_map}
use Rattle.measuring.specs.Paths.{measuring}
use Rattle.measuring.specs.MapReadings.{least_sum}
use Rattle.geodesics.specs.Fitting.{Fitting}
use Rattle.geodesics.specs.FourRulers.{OfFourRulers}
use Rattle.geodesics.specs.Transform.{plain_sum}

-- the sum of a step formula over a list of open cells from its end, a source of group 2, back to a
-- source of group 1, in which neighbours follow each other; none for any other list
abbrev pub sum_between : (Step → ℕ) → Board → ℕ → List ℕ → Option ℕ
sum_between units b end cells = cond (source_of b 2 end == 0) None (plain_sum units b 1 (end ∷ cells))

-- n is the least sum over the lists between the groups, and below 2^40
pub record LeastSumBetween (units : Step → ℕ) (b : Board) (n : ℕ) : Type 0 where
  pub end : ℕ
  pub cells : List ℕ
  pub sum : sum_between units b end cells ≡ Some n
  pub least : (j : ℕ) (others : List ℕ) (k : ℕ) → sum_between units b j others ≡ Some k → n ≤ k
  pub small : n < 2 ^ 40

-- there is no list between the groups
abbrev pub NoListBetween : (Step → ℕ) → Board → Type 0
NoListBetween units b = (j : ℕ) (cells : List ℕ) (n : ℕ) → sum_between units b j cells ≢ Some n

-- by a ruler with this formula, a gap is the least sum between the groups, and where there is no
-- gap there is no list between them
abbrev pub GapTransforms : (Step → ℕ) → Type 0
GapTransforms units =
    (b : Board) → Fitting b →
    let ruler = whole_ruling units in
    let one = measured_map (measuring whole_kind (adding ruler) b 1) in
    let two = measured_map (measuring whole_kind (adding ruler) b 2) in
    MatchOption (least_sum whole_kind ruler.sum one two (area b.size))
    (NoListBetween units b)
    (λ gap. LeastSumBetween units b gap.units)

-- n is the least number of steps of the lists between the groups with the least sum
pub record FewestStepsBetween (units : Step → ℕ) (b : Board) (sum n : ℕ) : Type 0 where
  pub end : ℕ
  pub cells : List ℕ
  pub shortest : sum_between units b end cells ≡ Some sum
  pub steps : length cells ≡ n
  pub fewest : (j : ℕ) (others : List ℕ) → sum_between units b j others ≡ Some sum → n ≤ length others

-- by counted chessboard, a gap's units are the least sum between the groups, and its steps the
-- fewest of the shortest lists
abbrev pub CountedGapTransforms : Type 0
CountedGapTransforms =
    (b : Board) → Fitting b →
    let one = measured_map (measuring counted_kind (adding counted_chessboard) b 1) in
    let two = measured_map (measuring counted_kind (adding counted_chessboard) b 2) in
    MatchOption (least_sum counted_kind counted_chessboard.sum one two (area b.size))
    (NoListBetween chessboard_units b)
    (λ gap.
    LeastSumBetween chessboard_units b gap.units ×
    FewestStepsBetween chessboard_units b gap.units gap.steps)

-- the gap by the four rulers
abbrev pub PublishedGap : Type 0
PublishedGap = OfFourRulers GapTransforms CountedGapTransforms
