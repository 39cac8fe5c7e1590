-- The records so far are written. Assumes nothing.
use Rattle.std.proofs.Common.{◌≡◌}
use Rattle.plate_c.specs.Answers.{record_of}
use Rattle.plate_c.proofs.Writing.{written}
use Rattle.plate_c.proofs.write_records.Given as goal

abbrev pub invariant-loop-number : goal.invariant-loop-number
invariant-loop-number l = l.out ≡ written record_of l.found l.fn.out l.number
