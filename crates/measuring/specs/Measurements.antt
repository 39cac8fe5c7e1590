-- What a measurement means. Assumes nothing.
use Rattle.gauges.specs.Meanings.{Crossing}
use Rattle.lengths.specs.Kinds.{Kind}
use Rattle.measuring.specs.Boards.{Board, on}
use Rattle.measuring.specs.Paths.{Measuring, measuring}
use Rattle.measuring.specs.declared.measurement.Measurement.{Measurement}

abbrev pub board_of : {G : Type 0} → Measurement G → Board
board_of job = on job.size job.cells.now job.groups.now

abbrev pub meant : {G L R : Type 0} → Kind L R → (G → Crossing L) → Measurement G → Measuring L R
meant kind crossing job = measuring kind (crossing job.gauge.now) (board_of job) job.group
