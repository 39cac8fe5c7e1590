use Rattle.std.proofs.Common.{refl, ◌∙◌, add-one}
use Rattle.measuring.specs.MapReadings.{least, least_sum}
use Rattle.plate.proofs.routes.Maps.least_sum.Goals as goal

pub loop-number-init : goal.loop-number-init
unfolding least_sum
loop-number-init g c = refl

pub loop-number-preserved : goal.loop-number-preserved
unfolding least_sum
loop-number-preserved g c =
    rw add-one
    (c.shorter-best.ensures ∙ (λ i. least g.R.Length.Length.kind (c.loop-number.invariant i) (c.sum_at.ensures i)))
