-- The distance transform on curved space: plain sums over lists of neighbours, with no cap. Assumes
-- nothing.
use Rattle.std.specs.Prelude.{◌≡◌, ℕ, ◌+◌, ◌^◌, ◌<◌, ◌≤◌, cond, List, [], ◌∷◌, length, Some, None, MatchBool, Option, ◌==◌, ◌≢◌}
use Rattle.board.specs.Sizes.{area}
use Rattle.lengths.specs.Wholes.{whole_kind}
use Rattle.lengths.specs.Counteds.{counted_kind}
use Rattle.gauges.specs.Meanings.{adding}
use Rattle.gauges.specs.Rulers.{whole_ruling, counted_chessboard, chessboard_units}
use Rattle.gauges.specs.declared.step.Step.{Step}
use Rattle.measuring.specs.Boards.{Board, open_neighbour, source_of, step}
use Rattle.measuring.specs.Paths.{measuring}
use Rattle.geodesics.specs.Fitting.{Fitting}
use Rattle.geodesics.specs.FourRulers.{OfFourRulers}
use Rattle.geodesics.specs.Least.{measured_record}

abbrev pub plus : ℕ → Option ℕ → Option ℕ
plus n None = None
plus n (Some sum) = Some (sum + n)

-- the sum of a step formula over a list of open cells from its end back to a source of the group,
-- in which neighbours follow each other; none for any other list
abbrev pub plain_sum : (Step → ℕ) → Board → ℕ → List ℕ → Option ℕ
plain_sum units b group [] = None
plain_sum units b group (i ∷ []) = cond (source_of b group i == 0) None (Some 0)
plain_sum units b group (j ∷ i ∷ cells) =
    cond (open_neighbour b i j) (plus (units (step b i j)) (plain_sum units b group (i ∷ cells))) None

-- n is the least sum over the lists that end at the cell, and below 2^40
pub record LeastSum (units : Step → ℕ) (b : Board) (group j n : ℕ) : Type 0 where
  pub cells : List ℕ
  pub sum : plain_sum units b group (j ∷ cells) ≡ Some n
  pub least : (others : List ℕ) (k : ℕ) → plain_sum units b group (j ∷ others) ≡ Some k → n ≤ k
  pub small : n < 2 ^ 40

-- no list ends at the cell
abbrev pub NoList : (Step → ℕ) → Board → ℕ → ℕ → Type 0
NoList units b group j = (cells : List ℕ) (n : ℕ) → plain_sum units b group (j ∷ cells) ≢ Some n

-- by a ruler with this formula, a reached cell's length is the least sum, and no list ends at an
-- unreached cell
abbrev pub Transforms : (Step → ℕ) → Type 0
Transforms units =
    (b : Board) → Fitting b → (group j : ℕ) → j < area b.size →
    let here = measured_record (measuring whole_kind (adding (whole_ruling units)) b group) j in
    MatchBool here.reached (LeastSum units b group j here.length) (NoList units b group j)

-- n is the least number of steps of the lists with the least sum
pub record FewestSteps (units : Step → ℕ) (b : Board) (group j sum n : ℕ) : Type 0 where
  pub cells : List ℕ
  pub shortest : plain_sum units b group (j ∷ cells) ≡ Some sum
  pub steps : length cells ≡ n
  pub fewest : (others : List ℕ) → plain_sum units b group (j ∷ others) ≡ Some sum → n ≤ length others

-- by counted chessboard, a reached cell's units are the least sum, and its steps the fewest of the
-- shortest lists
abbrev pub CountedTransforms : Type 0
CountedTransforms =
    (b : Board) → Fitting b → (group j : ℕ) → j < area b.size →
    let here = measured_record (measuring counted_kind (adding counted_chessboard) b group) j in
    MatchBool here.reached
    (LeastSum chessboard_units b group j here.length.units ×
    FewestSteps chessboard_units b group j here.length.units here.length.steps)
    (NoList chessboard_units b group j)

-- the four rulers give the distance transform
abbrev pub PublishedTransform : Type 0
PublishedTransform = OfFourRulers Transforms CountedTransforms
