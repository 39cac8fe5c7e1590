-- A step between a cell of a board and an open neighbour is genuine. Assumes nothing.
use Rattle.std.proofs.Common.{◌≡◌, ℕ, ◌<◌, true, arith}
use Rattle.std.proofs.lemmas.Nat.{div_below, mod_below}
use Rattle.std.proofs.lemmas.Bool.{and_parts, ltb-true}
use Rattle.board.specs.Sizes.{area}
use Rattle.gauges.specs.Steps.{Possible, Genuine}
use Rattle.measuring.specs.Boards.{Board, open_neighbour, point, step}
use Rattle.geodesics.specs.Fitting.{Fitting}

pub neighbour_within : (b : Board) (i j : ℕ) → open_neighbour b i j ≡ true → j < area b.size
neighbour_within b i j near = ltb-true j (area b.size) (and_parts _ _ (and_parts _ _ near).1).0

possible : (b : Board) → Fitting b → (i : ℕ) → i < area b.size → Possible (point b i)
possible b fits i lt = record {
  row = omega (arith, div_below i b.size.columns b.size.rows b.size.some_columns lt, b.size.few_rows);
  column = omega (arith, mod_below i b.size.columns b.size.some_columns, b.size.few_columns);
  height = fits i lt;
}

pub genuine_step : (b : Board) → Fitting b → (i j : ℕ) → i < area b.size →
    open_neighbour b i j ≡ true → Genuine (step b i j)
genuine_step b fits i j lt near = record {
  from = possible b fits i lt;
  to = possible b fits j (neighbour_within b i j near);
  near = (and_parts _ _ near).0;
}
