-- What a gauge and a ruler mean, and the laws that they keep. Assumes nothing.
use Rattle.std.specs.Prelude.{◌≡◌, Bool, true, false, cond, Some, None, Option}
use Rattle.lengths.specs.Kinds.{Kind}
use Rattle.gauges.specs.Steps.{Genuine, reversed}
use Rattle.gauges.specs.declared.step.Step.{Step}

-- a gauge: which steps are barred, and the length carried across an unbarred one
pub record Crossing (L : Type 0) : Type 0 where
  pub barred : Step → Bool
  pub carried : Step → L → L

-- what a gauge answers
abbrev pub crossed : {L : Type 0} → Crossing L → Step → L → Option L
crossed g s a = cond (g.barred s) None (Some (g.carried s a))

-- no length shrinks across a step, and two lengths carried across one step keep their order or become equal
pub record Lawful {L R : Type 0} (kind : Kind L R) (g : Crossing L) : Type 0 where
  pub grows : (s : Step) → Genuine s → g.barred s ≡ false → (a : L) → kind.le a (g.carried s a) ≡ true
  pub ordered : (s : Step) → Genuine s → g.barred s ≡ false → (a b : L) → kind.le a b ≡ true →
      kind.le (g.carried s a) (g.carried s b) ≡ true

-- a ruler: which steps are barred, the own length of an unbarred one, and the sum of two lengths
pub record Ruling (L : Type 0) : Type 0 where
  pub barred : Step → Bool
  pub span : Step → L
  pub sum : L → L → L

-- what a ruler answers of a step alone
abbrev pub own : {L : Type 0} → Ruling L → Step → Option L
own r s = cond (r.barred s) None (Some (r.span s))

pub record RulerLaws {L R : Type 0} (kind : Kind L R) (r : Ruling L) : Type 0 where
  pub assoc : (a b c : L) → r.sum (r.sum a b) c ≡ r.sum a (r.sum b c)
  pub comm : (a b : L) → r.sum a b ≡ r.sum b a
  pub unit : (a : L) → r.sum a kind.zero ≡ a
  pub ordered : (a b c : L) → kind.le a b ≡ true → kind.le (r.sum c a) (r.sum c b) ≡ true
  pub barred_back : (s : Step) → Genuine s → r.barred (reversed s) ≡ r.barred s
  pub span_back : (s : Step) → Genuine s → r.barred s ≡ false → r.span (reversed s) ≡ r.span s

-- the gauge bars the steps that the ruler bars, and carries across the others by adding their length
pub record ByAdding {L : Type 0} (r : Ruling L) (g : Crossing L) : Type 0 where
  pub barred : (s : Step) → Genuine s → g.barred s ≡ r.barred s
  pub carried : (s : Step) → Genuine s → r.barred s ≡ false → (a : L) →
      g.carried s a ≡ r.sum a (r.span s)

-- a ruler as a gauge
abbrev pub adding : {L : Type 0} → Ruling L → Crossing L
adding r = record { barred = r.barred; carried = λ s a. r.sum a (r.span s) }
