-- Each call is lent its own tables, and the others stay. Assumes nothing.
use Rattle.std.proofs.Common.{[], None, take, refl}
use Rattle.board.specs.Sizes.{area}
use Rattle.runs.specs.Measurers.{Measurer, by_gauge}
use Rattle.runs.specs.Plates.{header_of}
use Rattle.runs.specs.declared.call.Call.TheVariants.{Edit, Measure, Distance, Nearest, Way, Seal, Break}
use Rattle.runs.specs.declared.call.RulerCall.TheVariants.{Plain}
use Rattle.runs.proofs.Replied.{carried}
use Rattle.runs.proofs.Unlisted.{carried_listing, carried_plainly}
use Rattle.runs.proofs.steps.carry_out.Goals as goal
use Rattle.runs.proofs.steps.carry_out.Goals.{in-Edit, in-Measure, in-Distance, in-Nearest, in-Way}

pub returns-in-Seal : goal.returns-in-Seal
returns-in-Seal g c =
    let crossing = g.G.Gauge.crossing c.args.gauge.now in
    let list = c.args.list.now in
    let none = take (area (header_of c.args.plate).size) [] in
    rw c.in-Seal.is
    (carried_plainly (by_gauge g.G.Length.Length.kind crossing) (Plain Seal) list [] tt tt
    (c.seal.ensures list none c.args.first.now c.args.second.now crossing c.args.cells.now
    c.args.groups.now c.args.entries.now None))

pub returns-in-Break : goal.returns-in-Break
returns-in-Break g c =
    let crossing = g.G.Gauge.crossing c.args.gauge.now in
    let list = c.args.list.now in
    let none = take (area (header_of c.args.plate).size) [] in
    rw c.in-Break.is
    (carried_plainly (by_gauge g.G.Length.Length.kind crossing) (Plain Break) list [] tt tt
    (c.break_seal.ensures list none c.args.first.now c.args.second.now crossing c.args.cells.now
    c.args.groups.now c.args.entries.now None))

pub returns : goal.returns
returns g c =
    let crossing = g.G.Gauge.crossing c.args.gauge.now in
    let by : Measurer g.row.G-Length.Denot g.row.G-Length-Row.Denot =
    by_gauge g.G.Length.Length.kind crossing in
    let cells = c.args.cells.now in
    let groups = c.args.groups.now in
    let first = c.args.first.now in
    let second = c.args.second.now in
    let queue = c.args.entries.now in
    let list = c.args.list.now in
    let none = take (area (header_of c.args.plate).size) [] in
    elim c.match-call.branch [
      | in-Edit w ↦ carried w.in-Edit.is w.plate-is w.reply-is w.cells-is w.groups-is w.first-is
          w.second-is w.entries-is w.list-is
          (carried_plainly by (Plain (Edit w.in-Edit.asked)) list [] tt tt
          (w.edit-reply.ensures list none crossing first second queue None))
      | in-Measure w ↦ carried w.in-Measure.is w.plate-is w.reply-is w.cells-is w.groups-is
          w.first-is w.second-is w.entries-is w.list-is
          (carried_plainly by (Plain (Measure w.in-Measure.group)) list [] tt tt
          (w.measure-reply.ensures list none None))
      | in-Distance w ↦ carried w.in-Distance.is w.plate-is w.reply-is w.cells-is w.groups-is
          w.first-is w.second-is w.entries-is w.list-is
          (carried_plainly by (Plain
          (Distance w.in-Distance.row w.in-Distance.column w.in-Distance.group)) list [] tt tt
          (w.distance-reply.ensures list none crossing cells groups queue None))
      | in-Nearest w ↦ carried w.in-Nearest.is w.plate-is w.reply-is w.cells-is w.groups-is
          w.first-is w.second-is w.entries-is w.list-is
          (carried_plainly by (Plain
          (Nearest w.in-Nearest.row w.in-Nearest.column w.in-Nearest.group)) list [] tt tt
          (w.nearest-reply.ensures list none crossing cells groups queue None))
      | in-Way w ↦ carried w.in-Way.is w.plate-is w.reply-is w.cells-is w.groups-is w.first-is
          w.second-is w.entries-is w.list-is
          (carried_listing by (Plain
          (Way w.in-Way.row w.in-Way.column w.in-Way.group w.in-Way.room)) list
          w.way-reply.new.list [] (λ _. refl) w.way-reply.ensures.list
          (w.way-reply.ensures.step none crossing cells groups queue None))
    ]
