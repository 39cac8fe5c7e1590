use Rattle.std.proofs.Common.{arith}
use Rattle.sheets.proofs.Parting.{field_count}
use Rattle.sheets.proofs.line.Line.tabs.Goals as goal

pub returns-in-Some : goal.returns-in-Some
returns-in-Some c = let count = field_count c.in-Some.rest.now in rw c.in-Some.is (omega arith)
