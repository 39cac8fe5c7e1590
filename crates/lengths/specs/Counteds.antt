-- Counted lengths: units below 2^64 with at most as many steps. Assumes nothing.
use Rattle.std.specs.Prelude.{ℕ, ◌+◌, ◌-◌, ◌^◌, min, cond, ◌&&◌, ◌||◌, ◌==◌, nat_le, nat_lt}
use Rattle.std.proofs.Common.{arith}
use Rattle.lengths.specs.Kinds.{Kind}
use Rattle.lengths.specs.declared.counted.Counted.{Counted}
use Rattle.lengths.specs.declared.counted_row.CountedRow.{CountedRow}

-- n units in m steps; units beyond the greatest and steps beyond the units are cut
abbrev pub counted : ℕ → ℕ → Counted
counted n m =
    record {
      units = min n (2 ^ 64 - 1);
      steps = min m (min n (2 ^ 64 - 1));
      fits = omega arith;
      few = omega arith;
    }

-- compared by units, then by steps; a row with more steps than units is read as zero
abbrev pub counted_kind : Kind Counted CountedRow
counted_kind = record {
  zero = counted 0 0;
  le = λ a b. nat_lt a.units b.units || (a.units == b.units && nat_le a.steps b.steps);
  encode = λ a. record { units = a.units; steps = a.steps };
  decode = λ r. cond (nat_le r.steps r.units) (counted r.units r.steps) (counted 0 0);
}

-- both parts become the greatest where the units would be beyond it
abbrev pub counted_sum : Counted → Counted → Counted
counted_sum a b =
    cond (nat_lt (a.units + b.units) (2 ^ 64))
    (counted (a.units + b.units) (a.steps + b.steps))
    (counted (2 ^ 64 - 1) (2 ^ 64 - 1))
