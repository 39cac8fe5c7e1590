-- The map of group 1 is lent for group 1, and the other for any other number. Assumes nothing.
use Rattle.std.proofs.Common.{true, false}
use Rattle.std.proofs.lemmas.Bool.{eq-eqb, ne_eqb}
use Rattle.runs.specs.Measurers.{Measurer}
use Rattle.runs.proofs.Lent.{measured_into}
use Rattle.runs.proofs.steps.measure.Goals as goal

pub returns-then-group-eq1 : goal.returns-then-group-eq1
returns-then-group-eq1 g c list marks sums =
    let by : Measurer g.row.G-Length.Denot g.row.G-Length-Row.Denot =
    record {
      kind = g.G.Length.Length.kind;
      gauge = g.G.Gauge.crossing c.args.gauge.now;
      sums = sums;
    } in
    rw c.in-Draft.is
    (measured_into by c.in-Draft.draft c.measure.new.self c.args.cells.now c.args.groups.now
    c.args.group c.args.first.now c.args.second.now c.measure.new.map c.args.entries.now
    c.measure.new.entries c.measure.result _
    (c.reply_counts.ensures list marks) c.measure.auto.entries true
    (eq-eqb c.args.group 1 c.if-group-eq1.true) c.measure.ensures)

pub returns : goal.returns
returns g c list marks sums =
    let by : Measurer g.row.G-Length.Denot g.row.G-Length-Row.Denot =
    record {
      kind = g.G.Length.Length.kind;
      gauge = g.G.Gauge.crossing c.args.gauge.now;
      sums = sums;
    } in
    rw c.in-Draft.is
    (measured_into by c.in-Draft.draft c.measure-2.new.self c.args.cells.now c.args.groups.now
    c.args.group c.args.first.now c.args.second.now c.measure-2.new.map c.args.entries.now
    c.measure-2.new.entries c.measure-2.result _
    (c.reply_counts-2.ensures list marks) c.measure-2.auto.entries false
    (ne_eqb c.args.group 1 c.if-group-eq1.false) c.measure-2.ensures)
