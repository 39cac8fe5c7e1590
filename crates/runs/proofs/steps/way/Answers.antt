-- The part that is lent holds the way. Assumes nothing.
use Rattle.std.proofs.Common.{length, take, refl}
use Rattle.plate.specs.Headers.{standing}
use Rattle.plate.specs.Readings.{way_cells}
use Rattle.runs.specs.Plates.{header_of}
use Rattle.runs.proofs.Parts.{unwalked_list, walked_list}
use Rattle.runs.proofs.steps.way.Goals as goal

pub returns-in-Ok-clause-list : goal.returns-in-Ok-clause-list
returns-in-Ok-clause-list g c =
    let n = c.min-lent.result in
    let list = c.args.list.now in
    let part = take n list in
    let p = standing (header_of c.args.plate.now) in
    walked_list
    (way_cells g.K.Length.kind p c.map_of-map.result.now c.args.row c.args.column c.args.group (length part))
    part c.way.new.list c.way.result c.way.ensures n list refl c.in-Ok.count c.way.auto.list c.in-Ok.is

pub returns-in-Err-clause-list : goal.returns-in-Err-clause-list
returns-in-Err-clause-list g c =
    let n = c.min-lent.result in
    let list = c.args.list.now in
    let part = take n list in
    let p = standing (header_of c.args.plate.now) in
    unwalked_list
    (way_cells g.K.Length.kind p c.map_of-map.result.now c.args.row c.args.column c.args.group (length part))
    part c.way.new.list c.way.result c.way.ensures n list refl c.in-Err.refusal c.in-Err.is
