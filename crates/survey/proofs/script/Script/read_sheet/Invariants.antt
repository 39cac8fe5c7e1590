use Rattle.std.proofs.Common.{◌-◌, length}
use Rattle.survey.proofs.script.Script.read_sheet.Given as goal

abbrev pub decreases-loop-cells : goal.decreases-loop-cells
decreases-loop-cells l = length l.reader.sheet.now - l.reader.place
