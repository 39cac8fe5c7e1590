-- A client's ruler. Assumes nothing.
use Rattle.std.specs.Prelude.{nat_lt}
use Rattle.lengths.specs.Wholes.{whole, whole_sum}
use Rattle.lengths.specs.declared.whole.Whole.{Whole}
use Rattle.gauges.specs.Meanings.{Ruling}
use Rattle.gauges.specs.Steps.{rise}

-- level steps only, each of length 1
abbrev pub terrace : Ruling Whole
terrace = record { barred = λ s. nat_lt 0 (rise s); span = λ _. whole 1; sum = whole_sum }
