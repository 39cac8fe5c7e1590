-- Wrong models, and the theorems that fail of them: gauges that break a law, and a rule that breaks
-- ties the other way. Assumes nothing.
use Rattle.std.specs.Prelude.{◌≡◌, ℕ, ◌+◌, true, false, cond, List, [], ◌∷◌, Some, None, MatchOption, Option, ◌==◌, nat_le}
use Rattle.std.proofs.Common.{arith}
use Rattle.board.specs.declared.cell.Cell.{Cell}
use Rattle.gauges.specs.Meanings.{Crossing}
use Rattle.gauges.specs.Steps.{Genuine}
use Rattle.gauges.specs.declared.step.Step.{Step}
use Rattle.lengths.specs.Kinds.{Kind}
use Rattle.measuring.specs.Boards.{Board}
use Rattle.measuring.specs.Paths.{Measuring, measuring}
use Rattle.measuring.specs.Rankings.{Bid, offer, start}
use Rattle.geodesics.specs.Least.{LeastLengths}
use Rattle.geodesics.specs.Unique.{FirstShortest, offers_to}

-- lengths that are plain numbers, and their own rows
abbrev pub numbers : Kind ℕ ℕ
numbers = record { zero = 0; le = nat_le; encode = λ a. a; decode = λ a. a }

abbrev pub cell_with : ℕ → Cell
cell_with pad = record { height = 0; pad = pad; barred = false }

-- three cells in a row, with a pad of group 1 on the first
abbrev pub strip : Board
strip = record {
  size = record {
    rows = 1;
    columns = 3;
    some_rows = omega arith;
    few_rows = omega arith;
    some_columns = omega arith;
    few_columns = omega arith;
  };
  cells = cell_with 1 ∷ cell_with 0 ∷ cell_with 0 ∷ [];
  groups = 1 ∷ [];
}

abbrev pub by : Crossing ℕ → Measuring ℕ ℕ
by g = measuring numbers g strip 1

abbrev pub Grows : Crossing ℕ → Type 0
Grows g = (s : Step) → Genuine s → (a : ℕ) → nat_le a (g.carried s a) ≡ true

abbrev pub Ordered : Crossing ℕ → Type 0
Ordered g =
    (s : Step) → Genuine s → (a b : ℕ) → nat_le a b ≡ true →
    nat_le (g.carried s a) (g.carried s b) ≡ true

-- no length shrinks, but a step on from the middle makes 2 longer than 3: the last cell is measured
-- as 10 away, and a path that turns back once has the length 3
abbrev pub disordered : Crossing ℕ
disordered = record {
  barred = λ s. false;
  carried = λ s a.
      cond (s.from.column == 0)
      (cond (a == 0) 2 a)
      (cond (s.to.column == 0) (a + 1) (cond (a == 2) 10 a));
}

-- lengths keep their order, but shrink to nothing across a step from the middle: the middle is
-- measured as 1 away, and a path to the last cell and back has the length 0
abbrev pub shrinking : Crossing ℕ
shrinking = record {
  barred = λ s. false;
  carried = λ s a. cond (s.from.column == 1) 0 (cond (s.from.column == 0) (a + 1) a);
}

-- with one of the two laws alone, lengths need not be least
abbrev pub OrderIsNeeded : Type 0
OrderIsNeeded = Grows disordered × (LeastLengths (by disordered) → ⊥)

abbrev pub GrowthIsNeeded : Type 0
GrowthIsNeeded = Ordered shrinking × (LeastLengths (by shrinking) → ⊥)

-- steps that add nothing
abbrev pub still : Crossing ℕ
still = record { barred = λ s. false; carried = λ s a. a }

-- the shorter of two offers, and the last of equals
abbrev pub last_shorter : Option (Bid ℕ) → Option (Bid ℕ) → Option (Bid ℕ)
last_shorter x None = x
last_shorter None (Some b) = Some b
last_shorter (Some a) (Some b) = cond (nat_le b.length a.length) (Some b) (Some a)

-- the best offer by that rule: a cell would link to the highest-ranked of those that made its
-- shortest offer
abbrev pub last_best : Measuring ℕ ℕ → List (Bid ℕ) → ℕ → Option (Bid ℕ)
last_best m [] j = start m j
last_best m (r ∷ rs) j = last_shorter (last_best m rs j) (offer m r j)

-- by that rule a cell need not be ranked by the first of its shortest offers
abbrev pub FirstIsNeeded : Type 0
FirstIsNeeded =
    let m = by still in
    ((rs : List (Bid ℕ)) (j : ℕ) →
    MatchOption (last_best m rs j)
    (offers_to m rs j ≡ [])
    (FirstShortest numbers (offers_to m rs j))) → ⊥
