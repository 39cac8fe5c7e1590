-- The rule by which the next cell is ranked. Assumes nothing.
use Rattle.std.specs.Prelude.{◌≡◌, ℕ, ◌<◌, ◌≤◌, true, false, List, Some}
use Rattle.board.specs.Sizes.{area}
use Rattle.measuring.specs.Paths.{Measuring}
use Rattle.measuring.specs.Rankings.{Bid, best, is_ranked}

-- after these cells, the last one first, this one is ranked: it has the shortest offer of the
-- unranked cells, and the lowest number of those with one as short
pub record RanksNext {L R : Type 0} (m : Measuring L R) (rs : List (Bid L)) (r : Bid L) : Type 0 where
  pub within : r.cell < area m.board.size
  pub unranked : is_ranked rs r.cell ≡ false
  pub made : best m rs r.cell ≡ Some r
  pub shortest : (j : ℕ) (x : Bid L) → j < area m.board.size → is_ranked rs j ≡ false →
      best m rs j ≡ Some x → m.kind.le r.length x.length ≡ true
  pub lowest : (j : ℕ) (x : Bid L) → j < area m.board.size → is_ranked rs j ≡ false →
      best m rs j ≡ Some x → x.length ≡ r.length → r.cell ≤ j
