-- Paths of two groups to one cell join to a path between the groups, and every path between them
-- parts at each of its cells. Assumes nothing.
use Rattle.std.proofs.Common.{◌≡◌, ℕ, zero, suc, List, [], ◌∷◌, Some, sym, refl, ap, ◌∙◌, subst, arith}
use Rattle.std.specs.List.{Contains}
use Rattle.std.proofs.lemmas.List.Elements.{Contains-append_right}
use Rattle.lengths.specs.Kinds.{Kind}
use Rattle.gauges.specs.Meanings.{Crossing, Ruling, RulerLaws, ByAdding}
use Rattle.measuring.specs.Boards.{Board}
use Rattle.measuring.specs.Paths.{Measuring, Path, PathBetween, measuring}
use Rattle.geodesics.specs.Fitting.{Fitting}
use Rattle.geodesics.proofs.AddedPaths.{path_source, source_path, path_back}

-- a path between the groups of this length leads through the cell
pub record BetweenThrough {L R : Type 0} (m : Measuring L R) (other i : ℕ) (a : L) : Type 0 where
  pub end : ℕ
  pub cells : List ℕ
  pub path : PathBetween m other end cells a
  pub on : Contains (end ∷ cells) i

-- paths of both groups to the cell, whose lengths add up to this one
pub record Parted {L R : Type 0} (sum : L → L → L) (one two : Measuring L R) (i : ℕ)
    (a : L) : Type 0 where
  pub first : L
  pub second : L
  pub first_cells : List ℕ
  pub second_cells : List ℕ
  pub first_path : Path one i first_cells first
  pub second_path : Path two i second_cells second
  pub is : a ≡ sum first second

module _ {L R : Type 0} {kind : Kind L R} {ruler : Ruling L} (laws : RulerLaws kind ruler)
    {g : Crossing L} (adds : ByAdding ruler g) (b : Board) (fits : Fitting b) (group other : ℕ) where
  -- the first path walks on along the second, back to its source
  joined_on : (rest cells : List ℕ) (j : ℕ) (p q : L) (i : ℕ) →
      Path (measuring kind g b group) j cells p → Path (measuring kind g b other) j rest q →
      Contains (j ∷ cells) i → BetweenThrough (measuring kind g b group) other i (ruler.sum p q)
  joined_on [] cells j p q i first second on =
      let source = path_source (measuring kind g b other) j q second in
      record {
        end = j;
        cells = cells;
        path = (first ∙ ap Some (sym (ap (ruler.sum p) source.1 ∙ laws.unit p)), source.0);
        on = on;
      }
  joined_on (k ∷ rest) cells j p q i first second on =
      let back = path_back laws adds b fits other k j rest q second in
      let more = joined_on rest (j ∷ cells) k (ruler.sum p back.1) back.0 i (back.4 group cells p first) back.2 (Contains-append_right (k ∷ []) (j ∷ cells) i on) in
      let same : ruler.sum (ruler.sum p back.1) back.0 ≡ ruler.sum p q =
      laws.assoc p back.1 back.0 ∙ ap (ruler.sum p) (laws.comm back.1 back.0 ∙ sym back.3) in
      subst (BetweenThrough (measuring kind g b group) other i) same more

  pub joined : (i : ℕ) (cells rest : List ℕ) (p q : L) → Path (measuring kind g b group) i cells p →
      Path (measuring kind g b other) i rest q →
      BetweenThrough (measuring kind g b group) other i (ruler.sum p q)
  joined i cells rest p q first second = joined_on rest cells i p q i first second (0, omega arith, refl)

  -- the second path has walked back from the end of the first to j; the cell lies further back
  parted_on : (cells rest : List ℕ) (j : ℕ) (p q : L) (i : ℕ) →
      Path (measuring kind g b group) j cells p → Path (measuring kind g b other) j rest q →
      Contains (j ∷ cells) i → Parted ruler.sum (measuring kind g b group)
      (measuring kind g b other) i (ruler.sum p q)
  parted_on cells rest j p q i first second (zero, lt, is) =
      subst (λ i. Parted ruler.sum (measuring kind g b group) (measuring kind g b other) i (ruler.sum p q)) is
      (record { first = p; second = q; first_cells = cells; second_cells = rest; first_path = first; second_path = second; is = refl })
  parted_on [] rest j p q i first second (suc n, lt, is) = absurd (omega arith)
  parted_on (k ∷ cells) rest j p q i first second (suc n, lt, is) =
      let back = path_back laws adds b fits group k j cells p first in
      let more = parted_on cells (j ∷ rest) k back.0 (ruler.sum q back.1) i back.2 (back.4 other rest q second) (n, omega arith, is) in
      let same : ruler.sum back.0 (ruler.sum q back.1) ≡ ruler.sum p q =
      ap (ruler.sum back.0) (laws.comm q back.1) ∙ sym (laws.assoc back.0 back.1 q) ∙ ap (λ x. ruler.sum x q) (sym back.3) in
      subst (Parted ruler.sum (measuring kind g b group) (measuring kind g b other) i) same more

  pub parted : (i : ℕ) (a : L) → BetweenThrough (measuring kind g b group) other i a →
      Parted ruler.sum (measuring kind g b group) (measuring kind g b other) i a
  parted i a through =
      let whole = parted_on through.cells [] through.end a kind.zero i through.path.0 (source_path (measuring kind g b other) through.end through.path.1) through.on in
      subst (Parted ruler.sum (measuring kind g b group) (measuring kind g b other) i) (laws.unit a) whole
