-- What is said of each of the four rulers. Assumes nothing.
use Rattle.std.specs.Prelude.{ℕ, ◌≤◌}
use Rattle.gauges.specs.Rulers.{chessboard_units, three_four_units, euclid_units}
use Rattle.gauges.specs.declared.step.Step.{Step}

-- one thing of the step formulas of the three rulers of whole lengths, whatever the weight of
-- three-four, and one of counted chessboard
pub record OfFourRulers (ByWhole : (Step → ℕ) → Type 0) (ByCounted : Type 0) : Type 0 where
  pub chessboard : ByWhole chessboard_units
  pub three_four : (w : ℕ) → w ≤ 64 → ByWhole (three_four_units w)
  pub euclid : ByWhole euclid_units
  pub counted : ByCounted
