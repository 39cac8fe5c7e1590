-- The cells so far are written. Assumes nothing.
use Rattle.std.proofs.Common.{◌≡◌}
use Rattle.plate_c.specs.Answers.{spot_cell}
use Rattle.plate_c.proofs.Writing.{written}
use Rattle.plate_c.proofs.write_cells.Given as goal

abbrev pub invariant-loop-number : goal.invariant-loop-number
invariant-loop-number l = l.cells ≡ written spot_cell l.spots l.fn.cells l.number
