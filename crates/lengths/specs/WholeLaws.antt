-- Whole lengths keep the laws of a kind, and their sums are associative. Assumes nothing.
use Rattle.std.specs.Prelude.{◌≡◌, ◌^◌, ◌<◌}
use Rattle.std.proofs.Common.{arith}
use mathlib.Core.HLevel.{is_prop→PathP}
use Rattle.std.proofs.Math.Bridge.{le_prop}
use Rattle.std.proofs.lemmas.Bool.Decides.{nat_tests}
use Rattle.lengths.specs.Kinds.{KindLaws}
use Rattle.lengths.specs.Wholes.{whole, whole_kind, whole_sum}
use Rattle.lengths.specs.declared.whole.Whole.{Whole}

-- a length is its units: that they fit has one proof at most
pub same_units : (a b : Whole) → a.units ≡ b.units → a ≡ b
same_units a b e = λ i. record {
  units = e i;
  fits = is_prop→PathP (λ j. e j < 2 ^ 64) (λ j. le_prop) a.fits b.fits i;
}

pub whole_laws : KindLaws whole_kind
whole_laws = record {
  total = λ a b. grind (arith, nat_tests);
  transitive = λ a b c p q. grind (arith, nat_tests);
  equal = λ a b p q. same_units a b (grind (arith, nat_tests));
  least = λ a. grind (arith, nat_tests);
  same = λ a. same_units (whole a.units) a (omega (arith, a.fits));
}

pub sum_assoc : (a b c : Whole) → whole_sum (whole_sum a b) c ≡ whole_sum a (whole_sum b c)
sum_assoc a b c = same_units _ _ (omega arith)
