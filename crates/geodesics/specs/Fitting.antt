-- Boards whose heights are those that a cell can have. Assumes nothing.
use Rattle.std.specs.Prelude.{ℕ, ◌<◌}
use Rattle.board.specs.Sizes.{area}
use Rattle.measuring.specs.Boards.{Board, cell}

-- heights are numbers of 16 bits
abbrev pub Fitting : Board → Type 0
Fitting b = (i : ℕ) → i < area b.size → (cell b i).height < 65536
