-- The client's ruler is lawful, and its gauge. Assumes nothing.
use Rattle.std.specs.Prelude.{◌≡◌, ◌+◌, true, false, refl}
use Rattle.std.proofs.Common.{sym, ap, subst, arith}
use Rattle.std.proofs.lemmas.Bool.Decides.{nat_tests}
use Rattle.lengths.specs.Wholes.{whole, whole_kind, whole_sum}
use Rattle.lengths.specs.declared.whole.Whole.{Whole}
use Rattle.gauges.specs.Meanings.{ByAdding, Lawful, RulerLaws}
use Rattle.gauges.specs.RulerLaw.{whole_gauge, whole_ruler}
use Rattle.gauges.specs.Steps.{Genuine, reversed}
use Rattle.gauges.specs.declared.step.Step.{Step}
use Rattle.gauge_trials.specs.Ledges.{ledge, ledge_crossing, level, taken}

genuine_taken : (s : Step) → Genuine s → taken s ≡ true
genuine_taken s g =
    let from = g.from in
    let to = g.to in
    grind (arith, nat_tests, g.near, from.row, from.column, from.height, to.row, to.column, to.height)

genuine_back : (s : Step) → Genuine s → taken (reversed s) ≡ true
genuine_back s g =
    let from = g.from in
    let to = g.to in
    grind (arith, nat_tests, g.near, from.row, from.column, from.height, to.row, to.column, to.height)

level_back : (s : Step) → level (reversed s) ≡ level s
level_back s = grind (arith, nat_tests)

-- a genuine step that the ruler does not bar is level
ledge_level : (s : Step) → Genuine s → ledge.barred s ≡ false → level s ≡ true
ledge_level s g unbarred = grind (arith, nat_tests, genuine_taken s g, unbarred)

crossing_level : (s : Step) → Genuine s → ledge_crossing.barred s ≡ false → level s ≡ true
crossing_level s g unbarred = grind (arith, nat_tests, genuine_taken s g, unbarred)

-- across a level one the length is added
adds : (s : Step) → Genuine s → level s ≡ true → (a : Whole) →
    ledge_crossing.carried s a ≡ whole_sum a (ledge.span s)
adds s g is a = rw (genuine_taken s g, is) refl

pub ledge_lawful : Lawful whole_kind ledge_crossing
ledge_lawful = record {
  grows = λ s g unbarred a.
      subst
      (λ x. whole_kind.le a x ≡ true)
      (sym (adds s g (crossing_level s g unbarred) a))
      ((whole_gauge (λ _. s.from.height + 1) (λ _ _. refl)).grows s g refl a);
  ordered = λ s g unbarred a b le.
      rw (adds s g (crossing_level s g unbarred) a, adds s g (crossing_level s g unbarred) b)
      ((whole_gauge (λ _. s.from.height + 1) (λ _ _. refl)).ordered s g refl a b le);
}

pub ledge_ruled : RulerLaws whole_kind ledge
ledge_ruled =
    let sums = whole_ruler (λ _. 1) (λ _ _. refl) in
    record {
      assoc = sums.assoc;
      comm = sums.comm;
      unit = sums.unit;
      ordered = sums.ordered;
      barred_back = λ s g. grind (arith, nat_tests, genuine_taken s g, genuine_back s g, level_back s);
      span_back = λ s g unbarred.
          ap (λ n. whole (n + 1)) (grind (arith, nat_tests, ledge_level s g unbarred));
    }

pub ledge_adds : ByAdding ledge ledge_crossing
ledge_adds = record {
  barred = λ s g. grind (arith, nat_tests, genuine_taken s g);
  carried = λ s g unbarred a. adds s g (ledge_level s g unbarred) a;
}
