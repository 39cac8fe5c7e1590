use Rattle.std.proofs.Common.{◌≡◌, ◌-◌, ◌<◌, ◌≤◌, length}
use Rattle.board.specs.Sizes.{area}
use Rattle.sheets.specs.Readers.{reading_on}
use Rattle.sheets.specs.Reading.{IsUnmeasured, entered_on, reading}
use Rattle.sheets.proofs.reading.read_sheet.Given as goal

abbrev pub invariant-loop-edit : goal.invariant-loop-edit
invariant-loop-edit l = record {
  begun : 0 < l.reader.line;
  whole : reading l.fn.sheet l.fn.cells l.fn.groups ≡ reading_on l.reader (entered_on l.draft l.cells l.groups);
  unmeasured : IsUnmeasured l.draft;
  fits : area l.draft.header.size ≤ length l.fn.cells;
}

abbrev pub decreases-loop-edit : goal.decreases-loop-edit
decreases-loop-edit l = length l.reader.sheet.now - l.reader.place
