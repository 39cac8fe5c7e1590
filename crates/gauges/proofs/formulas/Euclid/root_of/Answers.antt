use Rattle.std.proofs.Common.{◌<◌, arith}
use Rattle.gauges.specs.Steps.{rise}
use Rattle.gauges.proofs.Roots.{one_root, euclid_root, steep_root}
use Rattle.gauges.proofs.formulas.Euclid.root_of.Goals as goal

pub returns-then-rise-ge-STEEP : goal.returns-then-rise-ge-STEEP
returns-then-rise-ge-STEEP c =
    let step = c.args.step in
    let is = c.rise-rise.ensures.value in
    let right = steep_root step (omega (arith, is)) in
    let small : rise step < 65536 = omega (arith, is, c.rise-rise.ensures.bound) in
    rw is (record { greatest = right; value = one_root right (euclid_root step small) })

pub returns : goal.returns
returns c =
    let step = c.args.step in
    let is = c.rise-rise.ensures.value in
    let small : rise step < 65536 = omega (arith, is, c.rise-rise.ensures.bound) in
    let right = rw (is, c.edge_or_corner.ensures) at c.root_within.ensures in
    record { greatest = right; value = one_root right (euclid_root step small) }
