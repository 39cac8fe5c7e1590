-- Either layer over a lawful gauge is lawful, and over a lawful ruler a lawful ruler. Assumes nothing.
use Rattle.std.specs.Prelude.{◌≡◌, ℕ, zero, suc, ◌+◌, ◌<◌, Bool, true, false, cond, ◌||◌, List, [], ◌∷◌, length, drop, Some, None, slice_index_or, refl}
use Rattle.std.proofs.Common.{sym, ap, ◌∙◌, ⊎_elim, add-one, arith}
use Rattle.std.proofs.Math.Bool.{or_comm}
use Rattle.std.proofs.lemmas.List.{drop_more}
use Rattle.std.proofs.lemmas.Bool.{or_parts}
use Rattle.lengths.specs.Kinds.{Kind, KindLaws}
use Rattle.gauges.specs.Steps.{reversed}
use Rattle.gauges.specs.Meanings.{Crossing, Lawful, Ruling, RulerLaws, ByAdding, crossed}
use Rattle.gauges.specs.Layers.{times, weighted_crossing, weighted_ruling, inside, touches, fenced, fenced_crossing, fenced_ruling}
use Rattle.gauges.specs.declared.rectangle.Rectangle.{Rectangle}
use Rattle.gauges.specs.declared.step.Step.{Step}

pub times_more : {L : Type 0} (n : ℕ) (f : L → L) (a : L) → times (n + 1) f a ≡ f (times n f a)
times_more n f a = rw add-one

module _ {L R : Type 0} {kind : Kind L R} (laws : KindLaws kind) where
  same_is_at_most : (a : L) → kind.le a a ≡ true
  same_is_at_most a = ⊎_elim (λ e. e) (λ e. e) (laws.total a a)

  times_grows : (n : ℕ) (f : L → L) → ((a : L) → kind.le a (f a) ≡ true) → (a : L) →
      kind.le a (times n f a) ≡ true
  times_grows zero f grows a = same_is_at_most a
  times_grows (suc n) f grows a =
      laws.transitive a (times n f a) (f (times n f a)) (times_grows n f grows a) (grows (times n f a))

  times_ordered : (n : ℕ) (f : L → L) →
      ((a b : L) → kind.le a b ≡ true → kind.le (f a) (f b) ≡ true) → (a b : L) →
      kind.le a b ≡ true → kind.le (times n f a) (times n f b) ≡ true
  times_ordered zero f ordered a b le = le
  times_ordered (suc n) f ordered a b le =
      ordered (times n f a) (times n f b) (times_ordered n f ordered a b le)

  pub weighted_lawful : (k : ℕ) (g : Crossing L) → Lawful kind g → Lawful kind (weighted_crossing k g)
  weighted_lawful k g below = record {
    grows = λ s genuine unbarred. times_grows k (g.carried s) (below.grows s genuine unbarred);
    ordered = λ s genuine unbarred. times_ordered k (g.carried s) (below.ordered s genuine unbarred);
  }

pub weighted_ruled : {L R : Type 0} (kind : Kind L R) (k : ℕ) (r : Ruling L) → RulerLaws kind r →
    RulerLaws kind (weighted_ruling kind k r)
weighted_ruled kind k r below = record {
  assoc = below.assoc;
  comm = below.comm;
  unit = below.unit;
  ordered = below.ordered;
  barred_back = below.barred_back;
  span_back =
      λ s genuine unbarred.
      ap (λ own. times k (λ a. r.sum a own) kind.zero) (below.span_back s genuine unbarred);
}

-- carrying n times adds the n-fold sum
times_adds : {L R : Type 0} (kind : Kind L R) (r : Ruling L) → RulerLaws kind r →
    (n : ℕ) (f : L → L) (own : L) → ((a : L) → f a ≡ r.sum a own) → (a : L) →
    times n f a ≡ r.sum a (times n (λ x. r.sum x own) kind.zero)
times_adds kind r laws zero f own adds a = sym (laws.unit a)
times_adds kind r laws (suc n) f own adds a =
    adds (times n f a)
    ∙ ap (λ x. r.sum x own) (times_adds kind r laws n f own adds a)
    ∙ laws.assoc a (times n (λ x. r.sum x own) kind.zero) own

pub weighted_adds : {L R : Type 0} (kind : Kind L R) (k : ℕ) (r : Ruling L) (g : Crossing L) →
    RulerLaws kind r → ByAdding r g → ByAdding (weighted_ruling kind k r) (weighted_crossing k g)
weighted_adds kind k r g laws below = record {
  barred = below.barred;
  carried =
      λ s genuine unbarred.
      times_adds kind r laws k (g.carried s) (r.span s) (below.carried s genuine unbarred);
}

pub fenced_lawful : {L R : Type 0} {kind : Kind L R} (fs : List Rectangle) (g : Crossing L) →
    Lawful kind g → Lawful kind (fenced_crossing fs g)
fenced_lawful fs g below = record {
  grows = λ s genuine unbarred. below.grows s genuine (or_parts _ _ unbarred).1;
  ordered = λ s genuine unbarred. below.ordered s genuine (or_parts _ _ unbarred).1;
}

-- a fence bars a step both ways
fenced_back : (fs : List Rectangle) (s : Step) → fenced fs (reversed s) ≡ fenced fs s
fenced_back [] s = refl
fenced_back (f ∷ fs) s = λ i. or_comm (inside f s.to) (inside f s.from) i || fenced_back fs s i

pub fenced_ruled : {L R : Type 0} {kind : Kind L R} (fs : List Rectangle) (r : Ruling L) →
    RulerLaws kind r → RulerLaws kind (fenced_ruling fs r)
fenced_ruled fs r below = record {
  assoc = below.assoc;
  comm = below.comm;
  unit = below.unit;
  ordered = below.ordered;
  barred_back = λ s genuine i. fenced_back fs s i || below.barred_back s genuine i;
  span_back = λ s genuine unbarred. below.span_back s genuine (or_parts _ _ unbarred).1;
}

pub fenced_adds : {L : Type 0} (fs : List Rectangle) (r : Ruling L) (g : Crossing L) →
    ByAdding r g → ByAdding (fenced_ruling fs r) (fenced_crossing fs g)
fenced_adds fs r g below = record {
  barred = λ s genuine. ap (λ b. fenced fs s || b) (below.barred s genuine);
  carried = λ s genuine unbarred. below.carried s genuine (or_parts _ _ unbarred).1;
}

-- one rectangle of a list and those after it decide what the list decides from there on
pub fenced_next : (fs : List Rectangle) (i : ℕ) (f : Rectangle) (s : Step) (b : Bool) →
    b ≡ touches (slice_index_or fs i f) s → i < length fs →
    (b || fenced (drop (i + 1) fs) s) ≡ fenced (drop i fs) s
fenced_next fs i f s b is within =
    ap (λ x. x || fenced (drop (i + 1) fs) s) is
    ∙ sym (ap (λ l. fenced l s) (drop_more fs i f within))

-- what a gauge answers where it carries
crossed_some : {L : Type 0} (b : Bool) (x y : L) → cond b None (Some x) ≡ Some y →
    (b ≡ false) × (y ≡ x)
crossed_some true x y e = let z : ◌≡◌ {A = ℕ} 0 1 = cc in absurd (omega arith)
crossed_some false x y e = (refl, cc)

module _ {L : Type 0} (g : Crossing L) (s : Step) (a x : L) (n : ℕ)
    (so_far : x ≡ times n (g.carried s) a) where
  -- carried once more
  pub weighted_again : (y : L) → crossed g s x ≡ Some y →
      (y ≡ times (n + 1) (g.carried s) a) × (0 < n + 1 → g.barred s ≡ false)
  weighted_again y answer =
      let here = crossed_some (g.barred s) (g.carried s x) y answer in
      (here.1 ∙ ap (g.carried s) so_far ∙ sym (times_more n (g.carried s) a), λ _. here.0)

  -- carried often enough
  pub weighted_done : (k : ℕ) → n ≡ k → g.barred s ≡ false →
      Some x ≡ crossed (weighted_crossing k g) s a
  weighted_done k all unbarred =
      ap Some (so_far ∙ ap (λ m. times m (g.carried s) a) all)
      ∙ sym (ap (λ b. cond b None (Some (times k (g.carried s) a))) unbarred)
