-- Whole lengths: natural numbers below 2^64. Assumes nothing.
use Rattle.std.specs.Prelude.{ℕ, ◌+◌, ◌-◌, ◌^◌, min, nat_le}
use Rattle.std.proofs.Common.{arith}
use Rattle.lengths.specs.Kinds.{Kind}
use Rattle.lengths.specs.declared.whole.Whole.{Whole}

-- the length of n units, or the longest where n is beyond it
abbrev pub whole : ℕ → Whole
whole n = record { units = min n (2 ^ 64 - 1); fits = omega arith }

-- compared by units; a row is the number of units
abbrev pub whole_kind : Kind Whole ℕ
whole_kind = record {
  zero = whole 0;
  le = λ a b. nat_le a.units b.units;
  encode = λ a. a.units;
  decode = whole;
}

-- the sum, or the longest length where the sum is beyond it
abbrev pub whole_sum : Whole → Whole → Whole
whole_sum a b = whole (min (a.units + b.units) (2 ^ 64 - 1))
