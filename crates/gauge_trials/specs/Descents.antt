-- A client's gauge that differs by direction, with its laws. Assumes nothing.
use Rattle.std.specs.Prelude.{nat_lt, refl}
use Rattle.lengths.specs.Wholes.{whole, whole_kind, whole_sum}
use Rattle.lengths.specs.declared.whole.Whole.{Whole}
use Rattle.gauges.specs.Meanings.{Crossing, Lawful}
use Rattle.gauges.specs.RulerLaw.{whole_gauge}

-- bars every step that rises, and adds 1 across the others
abbrev pub descent : Crossing Whole
descent = record {
  barred = λ s. nat_lt s.from.height s.to.height;
  carried = λ _ a. whole_sum a (whole 1);
}

pub descent_lawful : Lawful whole_kind descent
descent_lawful =
    let sums = whole_gauge (λ _. 1) (λ _ _. refl) in
    record {
      grows = λ s genuine _. sums.grows s genuine refl;
      ordered = λ s genuine _. sums.ordered s genuine refl;
    }
