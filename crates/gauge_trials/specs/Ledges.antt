-- A client's ruler, with its gauge, that keeps the laws on genuine, unbarred steps; beyond these each law fails of some
-- step. Assumes nothing.
use Rattle.std.specs.Prelude.{◌≡◌, ℕ, ◌+◌, ◌-◌, Bool, true, false, cond, not, ◌&&◌, ◌==◌, nat_lt}
use Rattle.board.specs.Sizes.{longest_side}
use Rattle.lengths.specs.Wholes.{whole, whole_kind, whole_sum}
use Rattle.lengths.specs.declared.whole.Whole.{Whole}
use Rattle.gauges.specs.Meanings.{Crossing, Ruling}
use Rattle.gauges.specs.Steps.{neighbours, reversed}
use Rattle.gauges.specs.declared.step.Point.{Point}
use Rattle.gauges.specs.declared.step.Step.{Step}

-- whether a plate can have a cell
abbrev pub possible : Point → Bool
possible p = (nat_lt p.row longest_side && nat_lt p.column longest_side) && nat_lt p.height 65536

-- whether a plate can have a step
abbrev pub taken : Step → Bool
taken s =
    (possible s.from && possible s.to) && neighbours s.from.row s.from.column s.to.row s.to.column

abbrev pub level : Step → Bool
level s = s.from.height == s.to.height

-- bars genuine steps that are not level, and of all others those to a row of a higher number. A step is one longer than the height
-- it begins at
abbrev pub ledge : Ruling Whole
ledge = record {
  barred = λ s. cond (taken s) (not (level s)) (nat_lt s.from.row s.to.row);
  span = λ s. whole (s.from.height + 1);
  sum = whole_sum;
}

-- bars genuine steps that are not level, and no others. It adds across the level ones; across all others what was longer becomes
-- shorter
abbrev pub ledge_crossing : Crossing Whole
ledge_crossing = record {
  barred = λ s. taken s && not (level s);
  carried = λ s a. cond (taken s && level s) (whole_sum a (ledge.span s)) (whole (1000 - a.units));
}

-- each law that is owed of genuine, unbarred steps fails of this one
pub record Lawless (s : Step) : Type 0 where
  pub shrinks : whole_kind.le (whole 600) (ledge_crossing.carried s (whole 600)) ≡ false
  pub turns :
      whole_kind.le (ledge_crossing.carried s (whole 0)) (ledge_crossing.carried s (whole 1)) ≡ false
  pub unlike : ((ledge.span (reversed s)).units == (ledge.span s).units) ≡ false
  pub unadded :
      ((ledge_crossing.carried s (whole 0)).units == (whole_sum (whole 0) (ledge.span s)).units) ≡ false

-- and each that is owed of genuine steps, of this one, which neither the ruler nor the gauge bars
pub record Stray (s : Step) : Type 0 where
  pub unbarred : ledge.barred s ≡ false
  pub crossed : ledge_crossing.barred s ≡ false
  pub one_way : ledge.barred (reversed s) ≡ true
  pub crossed_back : ledge_crossing.barred (reversed s) ≡ false
  pub lawless : Lawless s

abbrev pub from_to : Point → Point → Step
from_to from to = record { from = from; to = to }

abbrev pub point : ℕ → ℕ → ℕ → Point
point row column height = record { row = row; column = column; height = height }

-- a genuine step that is barred, one between cells that are no neighbours, and three that begin where no plate has a cell
pub record LawsHoldNoFurther : Type 0 where
  pub slope_barred : ledge.barred (from_to (point 0 0 3) (point 0 1 0)) ≡ true
  pub slope : Lawless (from_to (point 0 0 3) (point 0 1 0))
  pub far : Stray (from_to (point 2 0 3) (point 0 0 0))
  pub below : Stray (from_to (point 256 0 3) (point 255 0 0))
  pub beside : Stray (from_to (point 2 256 3) (point 1 255 0))
  pub above : Stray (from_to (point 2 0 65536) (point 1 0 0))
