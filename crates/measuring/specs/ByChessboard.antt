-- A board measured by chessboard, as the programs for C and for sheets measure. Assumes nothing.
use Rattle.std.specs.Prelude.{ℕ}
use Rattle.lengths.specs.Wholes.{whole_kind}
use Rattle.lengths.specs.declared.whole.Whole.{Whole}
use Rattle.gauges.specs.Meanings.{adding}
use Rattle.gauges.specs.Rulers.{chessboard}
use Rattle.measuring.specs.Boards.{Board}
use Rattle.measuring.specs.Paths.{Measuring, measuring}

-- one group of it
abbrev pub by_chessboard : Board → ℕ → Measuring Whole ℕ
by_chessboard b group = measuring whole_kind (adding chessboard) b group
