-- The size of a plate that is opened with some dimensions. Assumes nothing.
use Rattle.std.specs.Prelude.{◌≡◌, ◌≤◌, Bool, true, false, refl}
use Rattle.std.proofs.Common.{arith}
use Rattle.std.proofs.lemmas.Bool.Decides.{nat_tests}
use Rattle.board.specs.Sizes.{bad_size}
use Rattle.board.specs.declared.size.Dimensions.{Dimensions}
use Rattle.board.specs.declared.size.Size.{Size}

-- what the dimensions of a plate keep
pub record Fits (asked : Dimensions) : Type 0 where
  pub some_rows : 1 ≤ asked.rows
  pub few_rows : asked.rows ≤ 256
  pub some_columns : 1 ≤ asked.columns
  pub few_columns : asked.columns ≤ 256

pub fits : (asked : Dimensions) → bad_size asked ≡ false → Fits asked
fits asked is = record {
  some_rows = grind (arith, nat_tests);
  few_rows = grind (arith, nat_tests);
  some_columns = grind (arith, nat_tests);
  few_columns = grind (arith, nat_tests);
}

abbrev pub fitting_size : (asked : Dimensions) → Fits asked → Size
fitting_size asked fit = record {
  rows = asked.rows;
  columns = asked.columns;
  some_rows = fit.some_rows;
  few_rows = fit.few_rows;
  some_columns = fit.some_columns;
  few_columns = fit.few_columns;
}

abbrev pub one_cell : Dimensions
one_cell = record { rows = 1; columns = 1 }

-- the size of dimensions that are bad or not; no plate has bad ones, for which 1 × 1 stands
abbrev pub size_if : (bad : Bool) → (asked : Dimensions) → bad_size asked ≡ bad → Size
size_if true asked is = fitting_size one_cell (fits one_cell refl)
size_if false asked is = fitting_size asked (fits asked is)

abbrev pub size_of : Dimensions → Size
size_of asked = size_if (bad_size asked) asked refl
