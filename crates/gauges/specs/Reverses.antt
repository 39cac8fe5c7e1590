-- A step and its reverse rise alike and are of one sort. Assumes nothing.
use Rattle.std.specs.Prelude.{◌≡◌}
use Rattle.std.proofs.Common.{arith}
use Rattle.std.proofs.lemmas.Bool.Decides.{nat_tests}
use Rattle.gauges.specs.Steps.{rise, edge, reversed}
use Rattle.gauges.specs.declared.step.Step.{Step}

pub rise_back : (s : Step) → rise (reversed s) ≡ rise s
rise_back s = omega arith

pub edge_back : (s : Step) → edge (reversed s) ≡ edge s
edge_back s = grind (arith, nat_tests)
