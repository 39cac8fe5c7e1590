-- What is measured, and the paths of a group with their lengths. Assumes nothing.
use Rattle.std.specs.Prelude.{◌≡◌, ℕ, ◌<◌, cond, List, [], ◌∷◌, Some, None, Option, ◌==◌}
use Rattle.lengths.specs.Kinds.{Kind}
use Rattle.gauges.specs.Meanings.{Crossing, crossed}
use Rattle.measuring.specs.Boards.{Board, open_neighbour, source_of, step}

-- a board is measured by a gauge, in its kind of length, from the sources of a group
pub record Measuring (L R : Type 0) : Type 0 where
  pub kind : Kind L R
  pub gauge : Crossing L
  pub board : Board
  pub group : ℕ

abbrev pub measuring : {L R : Type 0} → Kind L R → Crossing L → Board → ℕ → Measuring L R
measuring kind g b group = record { kind = kind; gauge = g; board = b; group = group }

-- a length carried on across the step from i to j, where there is a length and j is an open
-- neighbour across an unbarred step
abbrev pub onward : {L R : Type 0} → Measuring L R → ℕ → ℕ → Option L → Option L
onward m i j None = None
onward m i j (Some a) =
    cond (open_neighbour m.board i j) (crossed m.gauge (step m.board i j) a) None

-- the length of a path, whose cells are listed from its end back to its source: zero carried across
-- the steps from the source on; none where the list is no path of the group
abbrev pub path_length : {L R : Type 0} → Measuring L R → List ℕ → Option L
path_length m [] = None
path_length m (i ∷ []) = cond (source_of m.board m.group i == 0) None (Some m.kind.zero)
path_length m (j ∷ i ∷ cells) = onward m i j (path_length m (i ∷ cells))

-- a path of the group to a cell, by way of the cells behind it, of that length
abbrev pub Path : {L R : Type 0} → Measuring L R → ℕ → List ℕ → L → Type 0
Path m j cells a = path_length m (j ∷ cells) ≡ Some a

-- a path of the group that ends at a source of the other group
abbrev pub PathBetween : {L R : Type 0} → Measuring L R → ℕ → ℕ → List ℕ → L → Type 0
PathBetween m other j cells a = Path m j cells a × (0 < source_of m.board other j)
