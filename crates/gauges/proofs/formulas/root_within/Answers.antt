use Rattle.std.proofs.Common.{◌≡◌, ◌+◌, ◌*◌, ◌<◌, subst, arith}
use Rattle.gauges.proofs.Roots.{between_root}
use Rattle.gauges.proofs.formulas.root_within.Goals as goal

pub returns : goal.returns
returns c =
    let root = c.loop-width.root in
    let inv = c.loop-width.invariant in
    let one : c.loop-width.width ≡ 1 = omega arith in
    between_root c.args.square root inv.2 (subst (λ w. c.args.square < (root + w) * (root + w)) one inv.3)
