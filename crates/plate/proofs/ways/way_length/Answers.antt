use Rattle.std.proofs.Common.{◌≡◌, suc, ◌+◌, ◌-◌, [], ◌∷◌, ◌++◌, length, refl, ap, ◌∙◌, arith}
use Rattle.std.proofs.lemmas.List.{length_push}
use Rattle.measuring.specs.Ways.{way_within}
use Rattle.plate.proofs.Links.{following, following_none, following_then, way_ends, way_goes, way_unreached}
use Rattle.plate.proofs.ways.way_length.Goals as goal

pub loop-passed-init : goal.loop-passed-init
loop-passed-init g c =
    let row = g.K.Length.kind.encode g.K.Length.kind.zero in
    let map = c.args.map.now in
    let all : length map ≡ length map - 0 = omega arith in
    ([], refl, following_none _ ∙ ap (λ n. following [] (way_within row map n c.args.start)) all)

pub loop-passed-preserved : goal.loop-passed-preserved
loop-passed-preserved g c =
    let row = g.K.Length.kind.encode g.K.Length.kind.zero in
    let map = c.args.map.now in
    let cell = c.loop-passed.cell in
    let inv = c.loop-passed.invariant in
    let left = length map - (c.loop-passed.passed + 1) in
    let one_more : length map - c.loop-passed.passed ≡ suc left = omega arith in
    let linked = c.in_ok-link.ensures in (
      inv.0 ++ cell ∷ [],
      omega (arith, length_push inv.0 cell, inv.1),
      inv.2
          ∙ ap (λ n. following inv.0 (way_within row map n cell)) one_more
          ∙ ap (following inv.0) (way_goes row map left cell c.in_ok-link.link linked.0 linked.1 c.if-link-cell.false)
          ∙ following_then inv.0 cell _,
    )

-- an unreached cell has no way
pub returns-in_err-link : goal.returns-in_err-link
returns-in_err-link g c =
    let row = g.K.Length.kind.encode g.K.Length.kind.zero in
    let inv = c.loop-passed.invariant in
    rw c.from_residual.ensures
    (inv.2 ∙ ap (following inv.0) (way_unreached row c.args.map.now _ c.loop-passed.cell c.in_err-link.ensures))

-- at a cell that is linked to itself the way ends
pub returns-then-link-cell : goal.returns-then-link-cell
returns-then-link-cell g c =
    let row = g.K.Length.kind.encode g.K.Length.kind.zero in
    let map = c.args.map.now in
    let cell = c.loop-passed.cell in
    let inv = c.loop-passed.invariant in
    let left = length map - (c.loop-passed.passed + 1) in
    let one_more : length map - c.loop-passed.passed ≡ suc left = omega arith in
    let linked = c.in_ok-link.ensures in (
      inv.0 ++ cell ∷ [],
      inv.2
          ∙ ap (λ n. following inv.0 (way_within row map n cell)) one_more
          ∙ ap (following inv.0) (way_ends row map left cell linked.0 (linked.1 ∙ c.if-link-cell.true)),
      omega (arith, length_push inv.0 cell, inv.1),
    )

pub returns : goal.returns
unfolding way_within
returns g c =
    let row = g.K.Length.kind.encode g.K.Length.kind.zero in
    let map = c.args.map.now in
    let inv = c.loop-passed.invariant in
    let none : length map - c.loop-passed.passed ≡ 0 = omega arith in
    inv.2 ∙ ap (λ n. following inv.0 (way_within row map n c.loop-passed.cell)) none
