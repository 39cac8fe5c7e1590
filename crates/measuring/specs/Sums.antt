-- Sums of a weight over numbers, and over the cells of a board in their order. Assumes nothing.
use Rattle.std.specs.Prelude.{ℕ, zero, suc, ◌+◌, ◌/◌, ◌%◌, Bool, cond, ◌&&◌, ◌||◌, ◌==◌, nat_lt}
use Rattle.board.specs.Sizes.{area}
use Rattle.board.specs.declared.size.Size.{Size}

-- the sum of a weight over the numbers below n
abbrev pub sum_below : (ℕ → ℕ) → ℕ → ℕ
sum_below weight zero = 0
sum_below weight (suc n) = sum_below weight n + weight n

-- how many numbers below n pass a test
abbrev pub how_many : (ℕ → Bool) → ℕ → ℕ
how_many test n = sum_below (λ j. cond (test j) 1 0) n

-- whether a cell is before a place: in a row above, or in this row to the left
abbrev pub before : Size → ℕ → ℕ → ℕ → Bool
before size row column j =
    nat_lt (j / size.columns) row ||
    (j / size.columns == row && nat_lt (j % size.columns) column)

-- the part of a weight's sum over all cells that comes of the cells before a place
abbrev pub sum_before : (ℕ → ℕ) → Size → ℕ → ℕ → ℕ
sum_before weight size row column =
    sum_below (λ j. cond (before size row column j) (weight j) 0) (area size)
