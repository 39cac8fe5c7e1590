use Rattle.std.proofs.Common.{◌<◌, [], ◌∷◌, ◌++◌, length, take, Some, sym, ap, ◌∙◌, subst, inr, arith}
use Rattle.std.proofs.lemmas.List.{append_assoc, append-nil, drop_all, get_or_default, length-set, take_all, take_more_set}
use Rattle.board.specs.Records.{unreached_record}
use Rattle.plate.proofs.Links.{Goes, goes_first, goes_within}
use Rattle.plate.proofs.ways.write_way.Goals as goal

pub loop-place-init : goal.loop-place-init
loop-place-init g c = (c.requires.0, c.requires.1, omega (arith, c.requires.2), inr (length c.args.map.now, c.requires.1))

pub overflow_cast-cell : goal.overflow_cast-cell
overflow_cast-cell g c =
    let inv = c.loop-place.invariant in
    omega (arith, goes_within (g.K.Length.kind.encode g.K.Length.kind.zero) c.args.map.now c.loop-place.cell inv.0 inv.3 (omega (arith, inv.2)))

pub offset_bounds-map-cell : goal.offset_bounds-map-cell
offset_bounds-map-cell g c =
    let inv = c.loop-place.invariant in
    omega (arith, goes_within (g.K.Length.kind.encode g.K.Length.kind.zero) c.args.map.now c.loop-place.cell inv.0 inv.3 (omega (arith, inv.2)))

pub bounds-map-cell : goal.bounds-map-cell
bounds-map-cell g c =
    let inv = c.loop-place.invariant in
    goes_within (g.K.Length.kind.encode g.K.Length.kind.zero) c.args.map.now c.loop-place.cell inv.0 inv.3 (omega (arith, inv.2))

pub bounds-map-cell-in-loop-place : goal.bounds-map-cell-in-loop-place
bounds-map-cell-in-loop-place g c =
    let inv = c.loop-place.invariant in
    goes_within (g.K.Length.kind.encode g.K.Length.kind.zero) c.args.map.now c.loop-place.cell inv.0 inv.3 (omega (arith, inv.2))

pub loop-place-preserved : goal.loop-place-preserved
loop-place-preserved g c =
    let row = g.K.Length.kind.encode g.K.Length.kind.zero in
    let map = c.args.map.now in
    let list = c.loop-place.list in
    let cell = c.loop-place.cell in
    let i = c.loop-place.place-index in
    let inv = c.loop-place.invariant in
    let some : 0 < length inv.0 = omega (arith, inv.2) in
    let first = goes_first row map cell inv.0 inv.3 some in
    let rest = first.0 in
    let read = get_or_default map cell (unreached_record row) c.index-map-cell.result (goes_within row map cell inv.0 inv.3 some) in (
      rest,
      inv.1
          ∙ ap (λ cells. Some (take i list ++ cells)) first.1
          ∙ ap Some (sym (append_assoc (take i list) (cell ∷ []) rest))
          ∙ ap (λ cells. Some (cells ++ rest)) (sym (take_more_set list i cell (omega arith))),
      omega (arith, inv.2, length-set list i cell, ap length first.1),
      subst (λ r. Goes row map r.link rest) read first.3,
    )

pub returns : goal.returns
returns g c =
    let list = c.loop-place.list in
    let i = c.loop-place.place-index in
    let inv = c.loop-place.invariant in
    inv.1
    ∙ ap (λ cells. Some (take i list ++ cells)) (drop_all 0 inv.0 (omega (arith, inv.2)))
    ∙ ap Some (append-nil (take i list) ∙ take_all i list (omega arith))
