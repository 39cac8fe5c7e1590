-- The numbers of refused settings. Assumes nothing.
use Rattle.std.specs.Prelude.{ℕ}
use Rattle.gauges.specs.declared.refusal.Refusal.{Refusal}
use Rattle.gauges.specs.declared.refusal.Refusal.TheVariants.{Setting, Fence}

abbrev pub number : Refusal → ℕ
number Setting = 9
number Fence = 10
