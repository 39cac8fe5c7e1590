-- The two layers: weighting and fence. Assumes nothing.
use Rattle.std.specs.Prelude.{ℕ, zero, suc, Bool, ◌&&◌, ◌||◌, List, take, None, Option, nat_le, nat_lt}
use Rattle.std.specs.List.{list_any}
use Rattle.board.specs.Outcomes.{refuse}
use Rattle.gauges.specs.declared.refusal.Refusal.{Refusal}
use Rattle.gauges.specs.declared.refusal.Refusal.TheVariants as refusal
use Rattle.lengths.specs.Kinds.{Kind}
use Rattle.gauges.specs.Meanings.{Crossing, Ruling}
use Rattle.gauges.specs.declared.rectangle.Rectangle.{Rectangle}
use Rattle.gauges.specs.declared.rectangles.Rectangles.{Rectangles}
use Rattle.gauges.specs.declared.step.Point.{Point}
use Rattle.gauges.specs.declared.step.Step.{Step}

-- n times one after the other
abbrev pub times : {L : Type 0} → ℕ → (L → L) → L → L
times zero f a = a
times (suc n) f a = f (times n f a)

-- carries across each step k times
abbrev pub weighted_crossing : {L : Type 0} → ℕ → Crossing L → Crossing L
weighted_crossing k g = record { barred = g.barred; carried = λ s a. times k (g.carried s) a }

-- a step is its k-fold sum
abbrev pub weighted_ruling : {L R : Type 0} → Kind L R → ℕ → Ruling L → Ruling L
weighted_ruling kind k r = record {
  barred = r.barred;
  span = λ s. times k (λ a. r.sum a (r.span s)) kind.zero;
  sum = r.sum;
}

-- a point in a rectangle, ends included
abbrev pub inside : Rectangle → Point → Bool
inside f p =
    (nat_le f.first_row p.row && nat_le p.row f.last_row)
    && (nat_le f.first_column p.column && nat_le p.column f.last_column)

-- the rectangles that were added
abbrev pub added : Rectangles → List Rectangle
added f = take f.count f.list

-- a step with an end in the rectangle
abbrev pub touches : Rectangle → Step → Bool
touches f s = inside f s.from || inside f s.to

-- a step with an end in any of the rectangles
abbrev pub fenced : List Rectangle → Step → Bool
fenced fs s = list_any (λ f. touches f s) fs

abbrev pub fenced_crossing : {L : Type 0} → List Rectangle → Crossing L → Crossing L
fenced_crossing fs g = record { barred = λ s. fenced fs s || g.barred s; carried = g.carried }

abbrev pub fenced_ruling : {L : Type 0} → List Rectangle → Ruling L → Ruling L
fenced_ruling fs r = record { barred = λ s. fenced fs s || r.barred s; span = r.span; sum = r.sum }

-- k from 1 to 16
abbrev pub weighting_refusal : ℕ → Option Refusal
weighting_refusal k = refuse (nat_lt k 1 || nat_lt 16 k) refusal.Setting None

-- a first above its last, or a figure above 255
abbrev pub bad_rectangle : Rectangle → Bool
bad_rectangle f =
    (nat_lt f.last_row f.first_row || nat_lt f.last_column f.first_column)
    || (nat_lt 255 f.last_row || nat_lt 255 f.last_column)

-- a rectangle more, of which there are at most 16
abbrev pub rectangle_refusal : Rectangles → Rectangle → Option Refusal
rectangle_refusal fs f =
    refuse (bad_rectangle f) refusal.Setting (refuse (nat_le 16 fs.count) refusal.Fence None)
