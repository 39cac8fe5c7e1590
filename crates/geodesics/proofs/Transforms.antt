-- The four rulers give the distance transform on curved space. Assumes nothing.
use Rattle.std.proofs.Common.{◌≡◌, ℕ, ◌+◌, ◌^◌, ◌<◌, ◌≤◌, true, length, Some, sym, refl, ap, ◌∙◌, ⊎_elim, arith}
use Rattle.std.proofs.lemmas.Bool.{cases_lt, cond-true, lt-ltb}
use Rattle.std.proofs.lemmas.Bool.Decides.{nat_tests}
use Rattle.lengths.specs.Kinds.{Kind}
use Rattle.lengths.specs.Wholes.{whole, whole_kind}
use Rattle.lengths.specs.Counteds.{counted, counted_kind}
use Rattle.lengths.specs.WholeLaws.{same_units, whole_laws}
use Rattle.lengths.specs.CountedLaws.{same_counts, counted_laws}
use Rattle.gauges.specs.Meanings.{adding}
use Rattle.gauges.specs.Rulers.{whole_ruling, counted_chessboard, chessboard_units}
use Rattle.gauges.specs.declared.step.Step.{Step}
use Rattle.gauges.specs.RulerLaw.{whole_gauge, counted_gauge}
use Rattle.measuring.specs.Boards.{Board}
use Rattle.geodesics.specs.Transform.{LeastSum, FewestSteps, Transforms, CountedTransforms, PublishedTransform}
use Rattle.geodesics.proofs.PlainSums.{Moderate}
use Rattle.geodesics.proofs.SummedPaths.{Carries, Found, by_lists}
use Rattle.geodesics.proofs.Formulas.{Alike, chessboard_alike, chessboard_moderate, euclid_alike, euclid_moderate, three_four_alike, three_four_moderate}

-- where lengths go by their units first, what was found has the least sum: a sum of 2^64 or more is
-- larger anyway
least_sum : {L R : Type 0} {kind : Kind L R} {held : ℕ → ℕ → L} {units : Step → ℕ} {b : Board}
    {group j : ℕ} {row : R} →
    ((n k n' k' : ℕ) → n < 2 ^ 64 → n' < 2 ^ 64 → kind.le (held n k) (held n' k') ≡ true → n ≤ n') →
    (f : Found kind held units b group j row) (n : ℕ) → n ≡ f.total → LeastSum units b group j n
least_sum by_units f n is = record {
  cells = f.cells;
  sum = f.sum ∙ ap Some (sym is);
  least = λ others k e.
      ⊎_elim
      (λ fits. omega (arith, by_units f.total (length f.cells) k (length others) (omega (arith, f.small)) fits (f.least others k e fits)))
      (λ beyond. omega (arith, f.small))
      (cases_lt k (2 ^ 64));
  small = omega (arith, f.small);
}

whole_carries : (units : Step → ℕ) →
    Carries whole_kind (adding (whole_ruling units)) units (λ n _. whole n)
whole_carries units = record {
  start = refl;
  unbarred = λ _. refl;
  adds = λ s n k _ _. same_units _ _ (omega arith);
}

whole_by_units : (n n' : ℕ) → n < 2 ^ 64 → n' < 2 ^ 64 → whole_kind.le (whole n) (whole n') ≡ true →
    n ≤ n'
whole_by_units n n' fits fits' le = grind (arith, nat_tests)

whole_transforms : {units : Step → ℕ} → Moderate units → Alike units → Transforms units
whole_transforms {units} moderate alike b fitting group j within =
    by_lists whole_laws (whole_gauge units alike) (whole_carries units) moderate b fitting group j within
    (LeastSum units b group j)
    (λ row f. least_sum (λ n _ n' _. whole_by_units n n') f row (f.row_is ∙ omega (arith, f.small)))

counted_carries : Carries counted_kind (adding counted_chessboard) chessboard_units counted
counted_carries = record {
  start = refl;
  unbarred = λ _. refl;
  adds = λ s n k few fits.
      let below : (counted n k).units + (counted (chessboard_units s) 1).units < 2 ^ 64 = omega arith in
      cond-true _ _ _ (lt-ltb _ _ below) ∙ same_counts _ _ (omega arith) (omega arith);
}

counted_by_units : (n k n' k' : ℕ) → n < 2 ^ 64 → n' < 2 ^ 64 → counted_kind.le (counted n k)
    (counted n' k') ≡ true → n ≤ n'
counted_by_units n k n' k' fits fits' le = grind (arith, nat_tests)

-- lengths with the same units go by their steps
counted_by_steps : (n k k' : ℕ) → n < 2 ^ 64 → k ≤ n → counted_kind.le (counted n k)
    (counted n k') ≡ true → k ≤ k'
counted_by_steps n k k' fits few le = grind (arith, nat_tests)

counted_transforms : CountedTransforms
counted_transforms b fitting group j within =
    by_lists counted_laws counted_gauge counted_carries chessboard_moderate b fitting group j within
    (λ row. LeastSum chessboard_units b group j row.units × FewestSteps chessboard_units b group j row.units row.steps)
    (λ row f.
    let fits : f.total < 2 ^ 64 = omega (arith, f.small) in
    let units-are : row.units ≡ f.total = ap (λ r. r.units) f.row_is ∙ omega arith in
    let steps-are : row.steps ≡ length f.cells = ap (λ r. r.steps) f.row_is ∙ omega (arith, f.steps) in (
      least_sum counted_by_units f row.units units-are,
      record {
        cells = f.cells;
        shortest = f.sum ∙ ap Some (sym units-are);
        steps = sym steps-are;
        fewest = λ others e.
            let le = f.least others f.total (e ∙ ap Some units-are) fits in
            let fewer = counted_by_steps f.total (length f.cells) (length others) fits f.steps le in
            omega arith;
      },
    ))

pub published_transform : PublishedTransform
published_transform = record {
  chessboard = whole_transforms chessboard_moderate chessboard_alike;
  three_four = λ w light. whole_transforms (three_four_moderate w light) (three_four_alike w);
  euclid = whole_transforms euclid_moderate euclid_alike;
  counted = counted_transforms;
}
