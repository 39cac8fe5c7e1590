-- Counted lengths keep the laws of a kind, and their sums those of a ruler. Assumes nothing.
use Rattle.std.specs.Prelude.{◌≡◌, ◌+◌, ◌-◌, ◌^◌, ◌<◌, ◌≤◌, Bool, true, ◌⊎◌}
use Rattle.std.proofs.Common.{arith}
use mathlib.Core.HLevel.{is_prop→PathP}
use Rattle.std.proofs.Math.Bridge.{le_prop}
use Rattle.std.proofs.lemmas.Bool.Decides.{nat_tests}
use Rattle.lengths.specs.Kinds.{KindLaws}
use Rattle.lengths.specs.Counteds.{counted, counted_kind, counted_sum}
use Rattle.lengths.specs.declared.counted.Counted.{Counted}

-- a length is its two numbers: each fact about them has one proof at most
pub same_counts : (a b : Counted) → a.units ≡ b.units → a.steps ≡ b.steps → a ≡ b
same_counts a b u s = λ i. record {
  units = u i;
  steps = s i;
  fits = is_prop→PathP (λ j. u j < 2 ^ 64) (λ j. le_prop) a.fits b.fits i;
  few = is_prop→PathP (λ j. s j ≤ u j) (λ j. le_prop) a.few b.few i;
}

abbrev le : Counted → Counted → Bool
le = counted_kind.le

pub counted_laws : KindLaws counted_kind
counted_laws = record {
  total = λ a b. grind (arith, nat_tests);
  transitive = λ a b c p q. grind (arith, nat_tests);
  equal = λ a b p q. same_counts a b (grind (arith, nat_tests)) (grind (arith, nat_tests));
  least = λ a. grind (arith, nat_tests);
  same =
      λ a. same_counts _ _
      (grind (arith, nat_tests, a.fits, a.few))
      (grind (arith, nat_tests, a.fits, a.few));
}

-- what a sum comes to, below the greatest length and beyond it
pub sum_tells : (a b : Counted) →
    ((a.units + b.units < 2 ^ 64) ×
    ((counted_sum a b).units ≡ a.units + b.units) ×
    ((counted_sum a b).steps ≡ a.steps + b.steps))
    ⊎ ((2 ^ 64 ≤ a.units + b.units) ×
    ((counted_sum a b).units ≡ 2 ^ 64 - 1) ×
    ((counted_sum a b).steps ≡ 2 ^ 64 - 1))
sum_tells a b = grind (arith, nat_tests, a.few, b.few)

pub sum_assoc : (a b c : Counted) → counted_sum (counted_sum a b) c ≡ counted_sum a (counted_sum b c)
sum_assoc a b c =
    let ab = sum_tells a b in
    let bc = sum_tells b c in
    let left = sum_tells (counted_sum a b) c in
    let right = sum_tells a (counted_sum b c) in
    same_counts _ _
    (grind (arith, ab, bc, left, right))
    (grind (arith, ab, bc, left, right, a.few, c.few))

pub sum_comm : (a b : Counted) → counted_sum a b ≡ counted_sum b a
sum_comm a b =
    same_counts _ _
    (grind (arith, sum_tells a b, sum_tells b a))
    (grind (arith, sum_tells a b, sum_tells b a))

pub sum_zero : (a : Counted) → counted_sum a (counted 0 0) ≡ a
sum_zero a =
    same_counts _ _
    (grind (arith, sum_tells a (counted 0 0), a.fits))
    (grind (arith, sum_tells a (counted 0 0), a.fits))

pub sum_ordered : (a b c : Counted) → le a b ≡ true → le (counted_sum c a) (counted_sum c b) ≡ true
sum_ordered a b c p = grind (arith, nat_tests, sum_tells c a, sum_tells c b, a.few, b.few, c.few)
