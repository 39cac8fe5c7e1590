-- Links and pads by the measuring rule, and the way along them. Assumes nothing.
use Rattle.std.specs.Prelude.{◌≡◌, ℕ, true, cond, List, [], ◌∷◌, length, Some, None, Option, ◌==◌, slice_index_or}
use Rattle.measuring.specs.Boards.{source_of}
use Rattle.measuring.specs.Paths.{Measuring, Path}
use Rattle.measuring.specs.Rankings.{Bid, ranking}

-- the offer by which a cell was ranked; none where it was not
unfoldable pub ranked_by : {L : Type 0} → List (Bid L) → ℕ → Option (Bid L)
ranked_by [] j = None
ranked_by (r ∷ rs) j = cond (r.cell == j) (Some r) (ranked_by rs j)

abbrev pub link_in : {L : Type 0} → Option (Bid L) → Option ℕ
link_in None = None
link_in (Some r) = Some r.link

abbrev pub pad_in : {L : Type 0} → Option (Bid L) → Option ℕ
pad_in None = None
pad_in (Some r) = Some r.pad

-- the cell's link, and its pad; none where it is not reached
abbrev pub link_of : {L R : Type 0} → Measuring L R → ℕ → Option ℕ
link_of m j = link_in (ranked_by (ranking m) j)

abbrev pub pad_of : {L R : Type 0} → Measuring L R → ℕ → Option ℕ
pad_of m j = pad_in (ranked_by (ranking m) j)

-- each cell is followed by its link, and the last one is linked to itself
abbrev pub Linked : {L R : Type 0} → Measuring L R → List ℕ → Type 0
Linked m [] = ⊥
Linked m (i ∷ []) = link_of m i ≡ Some i
Linked m (j ∷ i ∷ cells) = (link_of m j ≡ Some i) × Linked m (i ∷ cells)

-- the way from a cell by way of the cells behind it: along the links, backwards a path that is as
-- short as any, from a source that has the cell's pad
pub record WayBack {L R : Type 0} (m : Measuring L R) (j : ℕ) (behind : List ℕ) : Type 0 where
  pub linked : Linked m (j ∷ behind)
  pub length_of : L
  pub path : Path m j behind length_of
  pub least : (others : List ℕ) (b : L) → Path m j others b → m.kind.le length_of b ≡ true
  pub source :
      pad_of m j ≡
      Some (source_of m.board m.group (slice_index_or (j ∷ behind) (length behind) j))
