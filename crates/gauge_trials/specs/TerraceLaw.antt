-- The client's ruler is lawful. Assumes nothing.
use Rattle.std.proofs.Common.{ap}
use Rattle.std.specs.Prelude.{nat_lt, refl}
use Rattle.lengths.specs.Wholes.{whole_kind}
use Rattle.gauges.specs.Meanings.{RulerLaws}
use Rattle.gauges.specs.Reverses.{rise_back}
use Rattle.gauges.specs.RulerLaw.{whole_ruler}
use Rattle.gauge_trials.specs.Terraces.{terrace}

pub terrace_ruled : RulerLaws whole_kind terrace
terrace_ruled =
    let sums = whole_ruler (λ _. 1) (λ _ _. refl) in
    record {
      assoc = sums.assoc;
      comm = sums.comm;
      unit = sums.unit;
      ordered = sums.ordered;
      barred_back = λ s _. ap (nat_lt 0) (rise_back s);
      span_back = λ _ _ _. refl;
    }
