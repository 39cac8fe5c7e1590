-- The size of a plate and the numbers of its cells. Assumes nothing.
use Rattle.std.specs.Prelude.{◌≡◌, ℕ, ◌+◌, ◌*◌, Bool, cond, ◌||◌, Some, None, Option, nat_le, nat_lt}
use Rattle.board.specs.declared.size.Dimensions.{Dimensions}
use Rattle.board.specs.declared.size.Size.{Size}

-- the most rows that a plate has, and the most columns
abbrev pub longest_side : ℕ
longest_side = 256

-- no length of a side
abbrev pub bad_side : ℕ → Bool
bad_side n = nat_lt n 1 || nat_lt longest_side n

-- rows or columns outside 1 to 256
abbrev pub bad_size : Dimensions → Bool
bad_size d = bad_side d.rows || bad_side d.columns

-- how many cells are asked for
abbrev pub area_asked : Dimensions → ℕ
area_asked d = d.rows * d.columns

-- the size of these dimensions
pub record Sized (s : Size) (d : Dimensions) : Type 0 where
  pub rows : s.rows ≡ d.rows
  pub columns : s.columns ≡ d.columns

-- how many cells there are
abbrev pub area : Size → ℕ
area s = s.rows * s.columns

-- row or column not on the plate
abbrev pub off : Size → ℕ → ℕ → Bool
off s row column = nat_le s.rows row || nat_le s.columns column

-- cells are numbered row by row
abbrev pub cell_at : Size → ℕ → ℕ → ℕ
cell_at s row column = row * s.columns + column

abbrev pub cell_number : Size → ℕ → ℕ → Option ℕ
cell_number s row column = cond (off s row column) None (Some (cell_at s row column))
