-- By what the calls of a run measure. Assumes nothing.
use Rattle.std.specs.Prelude.{Some, None, Option}
use Rattle.lengths.specs.Kinds.{Kind}
use Rattle.gauges.specs.Meanings.{Crossing}

-- a kind of length, a gauge, and the sum of two lengths where it is a ruler's
pub record Measurer (L R : Type 0) : Type 0 where
  pub kind : Kind L R
  pub gauge : Crossing L
  pub sums : Option (L → L → L)

abbrev pub by_gauge : {L R : Type 0} → Kind L R → Crossing L → Measurer L R
by_gauge kind g = record { kind = kind; gauge = g; sums = None }

abbrev pub by_ruler : {L R : Type 0} → Kind L R → Crossing L → (L → L → L) → Measurer L R
by_ruler kind g sum = record { kind = kind; gauge = g; sums = Some sum }
