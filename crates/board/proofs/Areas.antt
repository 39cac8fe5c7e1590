-- Bounds on a plate's cells. Assumes nothing.
use Rattle.std.proofs.Common.{ℕ, ◌<◌, ◌≤◌, arith}
use Rattle.std.proofs.lemmas.Nat.{mul-le, mul-add-lt}
use Rattle.board.specs.Sizes.{area, cell_at}
use Rattle.board.specs.declared.size.Size.{Size}

pub area_bound : (s : Size) → area s ≤ 65536
area_bound s = mul-le s.rows s.columns 256 256 s.few_rows s.few_columns

pub cell_within : (s : Size) (row column : ℕ) → row < s.rows → column < s.columns → cell_at s row column < area s
cell_within s row column r c = omega (arith, mul-add-lt row s.columns column s.rows r c)
