use Rattle.std.proofs.Common.{◌≡◌, ◌+◌, ◌-◌, min, refl, ap, ◌∙◌, arith, rules}
use Rattle.std.proofs.lemmas.Bool.Decides.{nat_tests}
use Rattle.measuring.specs.Measurements.{board_of, meant}
use Rattle.measuring.specs.Tracking.{offerer}
use Rattle.measuring.proofs.Places.{counted_all, counted_none, offered_all, offered_none, skipped, skips_above, skips_below, stood, walked_on}
use Rattle.measuring.proofs.Tracks.{tracks_same}
use Rattle.measuring.proofs.measurement.Measurement.offer_around.Goals as goal

pub loop-row-init : goal.loop-row-init
loop-row-init g c = record {
  room = refl;
  few = grind (arith, nat_tests);
  steps = grind (arith, nat_tests);
  walked = skipped stood (skips_above (board_of c.args.self.now) c.args.from.number c.beside-first.result.0 (c.beside-first.ensures.first ∙ ap (λ p. p.row - 1) c.requires.placed));
}

pub loop-row-preserved : goal.loop-row-preserved
loop-row-preserved g c =
    let told = c.offer_in_row-steps.ensures in
    record {
      room = search rules;
      few = grind (arith, nat_tests);
      steps = grind (arith, nat_tests);
      walked = walked_on c.loop-row.invariant.walked told.walked;
    }

pub returns : goal.returns
returns g c =
    let job = c.args.self.now in
    let b = board_of job in
    let i = c.args.from.number in
    let m = meant g.G.Length.Length.kind g.G.Gauge.crossing job in
    let row = c.loop-row.row in
    let all : row ≡ min (c.args.from.at.row + 2) job.size.rows = omega arith in
    let walked = skipped c.loop-row.invariant.walked (skips_below b i row (all ∙ ap (λ p. min (p.row + 2) job.size.rows) c.requires.placed)) in
    record {
      few = grind (arith, nat_tests);
      eight = grind (arith, nat_tests);
      room = search rules;
      counts = omega (arith, walked.counts, counted_none b i, counted_all b i);
      tracks = λ view pad t.
          tracks_same
          (offered_all m (offerer c.args.from) view)
          (walked.tracks view pad (tracks_same (λ j lt. offered_none m (offerer c.args.from) view j) t));
    }
