use Rattle.std.proofs.Common.{◌≡◌, drop}
use Rattle.sheets.proofs.Figures.{figures_on}
use Rattle.sheets.proofs.token.digits_value.Given as goal

abbrev pub invariant-loop-digit : goal.invariant-loop-digit
invariant-loop-digit l = figures_on l.value (drop l.digit-index l.digits) ≡ figures_on 0 l.digits
