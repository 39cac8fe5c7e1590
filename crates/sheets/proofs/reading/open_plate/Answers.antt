use Rattle.std.proofs.Common.{rules}
use Rattle.sheets.proofs.Opened.{told_opening, opened_unmeasured}
use Rattle.sheets.proofs.reading.open_plate.Goals as goal

pub returns-clause-opening : goal.returns-clause-opening
returns-clause-opening c =
    told_opening c.args.dimensions c.args.cells.now c.open.new.cells c.args.groups.now c.open.new.groups c.open.result c.map_err.result
    c.open.ensures c.map_err.ensures.cases (λ e f h. search rules)

pub returns-clause-unmeasured : goal.returns-clause-unmeasured
returns-clause-unmeasured c =
    opened_unmeasured _ c.args.dimensions c.args.cells.now c.open.new.cells c.args.groups.now c.open.new.groups c.open.result c.map_err.result
    c.open.ensures c.map_err.ensures.cases
