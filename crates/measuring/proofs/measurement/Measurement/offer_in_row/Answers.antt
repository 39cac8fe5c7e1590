use Rattle.std.proofs.Common.{◌≡◌, ◌+◌, ◌-◌, min, refl, ap, ◌∙◌, arith, rules}
use Rattle.std.proofs.lemmas.Bool.Decides.{nat_tests}
use Rattle.measuring.specs.Measurements.{board_of}
use Rattle.measuring.proofs.Places.{skipped, skips_left, skips_right, stood, walked_on}
use Rattle.measuring.proofs.measurement.Measurement.offer_in_row.Goals as goal

pub loop-column-init : goal.loop-column-init
loop-column-init g c = record {
  room = refl;
  few = grind (arith, nat_tests);
  steps = grind (arith, nat_tests);
  walked = skipped stood (skips_left (board_of c.args.self.now) c.args.from.number c.args.row _ (c.beside-first.ensures.first ∙ ap (λ p. p.column - 1) c.requires.placed));
}

pub loop-column-preserved : goal.loop-column-preserved
loop-column-preserved g c =
    let told = c.offer_at-steps.ensures in
    record {
      room = search rules;
      few = grind (arith, nat_tests);
      steps = grind (arith, nat_tests);
      walked = walked_on c.loop-column.invariant.walked told.walked;
    }

pub returns : goal.returns
returns g c =
    let job = c.args.self.now in
    let column = c.loop-column.column in
    let all : column ≡ min (c.args.from.at.column + 2) job.size.columns = omega arith in
    let walked = skipped c.loop-column.invariant.walked (skips_right (board_of job) c.args.from.number c.args.row column (all ∙ ap (λ p. min (p.column + 2) job.size.columns) c.requires.placed)) in
    record { few = grind (arith, nat_tests); three = grind (arith, nat_tests); room = search rules; walked = walked }
