-- A plain call needs no sums and no marks, and the gap and the route leave the plate and its
-- tables. Assumes nothing.
use Rattle.std.proofs.Common.{Some, length, min, refl, take}
use Rattle.board.specs.Sizes.{area}
use Rattle.runs.specs.Measurers.{Measurer, by_ruler}
use Rattle.runs.specs.Plates.{header_of, state}
use Rattle.runs.specs.declared.call.RulerCall.TheVariants.{Gap, Route}
use Rattle.runs.proofs.Replied.{carried_too}
use Rattle.runs.proofs.Unlisted.{carried_plainly, unlisted}
use Rattle.runs.proofs.ruler_steps.carry_out_by_ruler.Goals as goal

pub returns-in-Plain : goal.returns-in-Plain
returns-in-Plain g c =
    let made = c.carry_out in
    rw c.in-Plain.is
    (carried_too g.R.Length.Length.kind (g.R.Gauge.crossing c.args.ruler.now)
    (Some (g.R.Ruler.ruling c.args.ruler.now).sum) c.in-Plain.call c.args.plate made.result
    c.args.cells.now made.new.cells c.args.groups.now made.new.groups
    c.args.first.now made.new.first c.args.second.now made.new.second c.args.entries.now
    made.new.entries c.args.list.now made.new.list c.args.marks.now made.ensures)

pub returns-in-Gap : goal.returns-in-Gap
returns-in-Gap g c =
    let crossing = g.R.Gauge.crossing c.args.ruler.now in
    let by : Measurer g.row.R-Length.Denot g.row.R-Length-Row.Denot =
    by_ruler g.R.Length.Length.kind crossing (g.R.Ruler.ruling c.args.ruler.now).sum in
    let marks = c.args.marks.now in
    rw c.in-Gap.is
    (carried_plainly by Gap c.args.list.now marks tt tt
    (c.gap-reply.ensures c.args.list.now
    (take (area (header_of c.args.plate).size) marks) crossing c.args.cells.now
    c.args.groups.now c.args.entries.now))

pub returns-in-Route : goal.returns-in-Route
returns-in-Route g c =
    let crossing = g.R.Gauge.crossing c.args.ruler.now in
    let by : Measurer g.row.R-Length.Denot g.row.R-Length-Row.Denot =
    by_ruler g.R.Length.Length.kind crossing (g.R.Ruler.ruling c.args.ruler.now).sum in
    let list = c.args.list.now in
    let s = state c.args.plate c.args.cells.now c.args.groups.now c.args.first.now c.args.second.now
    c.args.entries.now in
    let made = c.route-reply in
    let step = made.ensures.step list crossing c.args.cells.now c.args.groups.now c.args.entries.now
    in
    rw c.in-Route.is
    (record {
      step = step;
      on_list = unlisted by (Route (min c.in-Route.room (length c.args.marks.now))) s s made.result
          list (take (area (header_of c.args.plate).size) made.new.marks) step
          (λ marks count. refl);
      on_marks = made.ensures.marks;
    })
