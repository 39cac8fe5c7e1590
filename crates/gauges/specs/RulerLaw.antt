-- A lawful ruler is a lawful gauge, and the product's rulers are lawful. Assumes nothing.
use Rattle.std.specs.Prelude.{◌≡◌, ℕ, true, refl}
use Rattle.std.proofs.Common.{ap, subst, arith}
use Rattle.std.proofs.lemmas.Bool.Decides.{nat_tests}
use Rattle.lengths.specs.Kinds.{Kind, KindLaws}
use Rattle.lengths.specs.Wholes.{whole, whole_kind}
use Rattle.lengths.specs.Counteds.{counted, counted_kind}
use Rattle.lengths.specs.WholeLaws as wholes
use Rattle.lengths.specs.WholeLaws.{same_units, whole_laws}
use Rattle.lengths.specs.CountedLaws.{counted_laws, sum_assoc, sum_comm, sum_zero, sum_ordered}
use Rattle.gauges.specs.Steps.{Genuine, reversed}
use Rattle.gauges.specs.Meanings.{Lawful, Ruling, RulerLaws, ByAdding, adding}
use Rattle.gauges.specs.Rulers.{whole_ruling, counted_chessboard}
use Rattle.gauges.specs.declared.step.Step.{Step}

-- zero is least and added to a length leaves it, so no sum is shorter than its parts
pub ruler_lawful : {L R : Type 0} {kind : Kind L R} {r : Ruling L} → KindLaws kind →
    RulerLaws kind r → Lawful kind (adding r)
ruler_lawful {kind = kind} {r = r} k laws = record {
  grows = λ s _ _ a.
      subst
      (λ x. kind.le x (r.sum a (r.span s)) ≡ true)
      (laws.unit a)
      (laws.ordered kind.zero (r.span s) a (k.least (r.span s)));
  ordered = λ s _ _ a b le.
      rw (laws.comm a (r.span s), laws.comm b (r.span s)) (laws.ordered a b (r.span s) le);
}

pub by_adding : {L : Type 0} (r : Ruling L) → ByAdding r (adding r)
by_adding r = record { barred = λ _ _. refl; carried = λ _ _ _ _. refl }

pub whole_ruler : (units : Step → ℕ) → ((s : Step) → Genuine s → units (reversed s) ≡ units s) →
    RulerLaws whole_kind (whole_ruling units)
whole_ruler units alike = record {
  assoc = wholes.sum_assoc;
  comm = λ a b. same_units _ _ (omega arith);
  unit = λ a. same_units _ _ (omega (arith, a.fits));
  ordered = λ a b c le. grind (arith, nat_tests);
  barred_back = λ _ _. refl;
  span_back = λ s genuine _. ap whole (alike s genuine);
}

pub whole_gauge : (units : Step → ℕ) → ((s : Step) → Genuine s → units (reversed s) ≡ units s) →
    Lawful whole_kind (adding (whole_ruling units))
whole_gauge units alike = ruler_lawful whole_laws (whole_ruler units alike)

pub counted_ruler : RulerLaws counted_kind counted_chessboard
counted_ruler = record {
  assoc = sum_assoc;
  comm = sum_comm;
  unit = sum_zero;
  ordered = sum_ordered;
  barred_back = λ _ _. refl;
  span_back = λ s _ _. ap (λ n. counted n 1) (omega arith);
}

pub counted_gauge : Lawful counted_kind (adding counted_chessboard)
counted_gauge = ruler_lawful counted_laws counted_ruler
