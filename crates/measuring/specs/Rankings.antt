-- Offers, and the order in which cells are ranked. Assumes nothing.
use Rattle.std.specs.Prelude.{ℕ, zero, suc, Bool, false, cond, ◌||◌, List, [], ◌∷◌, Some, None, Option, ◌==◌}
use Rattle.board.specs.Sizes.{area}
use Rattle.lengths.specs.Kinds.{Kind}
use Rattle.measuring.specs.Boards.{source_of}
use Rattle.measuring.specs.Paths.{Measuring, onward}

-- an offer to a cell: a length, with the pad and the link that the cell takes with it. A ranked
-- cell is the offer by which it was ranked
pub record Bid (L : Type 0) : Type 0 where
  pub cell : ℕ
  pub length : L
  pub pad : ℕ
  pub link : ℕ

-- a source starts with the offer zero: it has its own pad, and links to itself. No offer is shorter
abbrev pub start : {L R : Type 0} → Measuring L R → ℕ → Option (Bid L)
start m j =
    let pad = source_of m.board m.group j in
    cond (pad == 0) None (Some (record { cell = j; length = m.kind.zero; pad = pad; link = j }))

-- a cell's offer of a length, where there is one
abbrev pub offered : {L : Type 0} → Bid L → ℕ → Option L → Option (Bid L)
offered r j None = None
offered r j (Some a) = Some (record { cell = j; length = a; pad = r.pad; link = r.cell })

-- a ranked cell offers each open neighbour its own length carried across the step, unless that is
-- barred
abbrev pub offer : {L R : Type 0} → Measuring L R → Bid L → ℕ → Option (Bid L)
offer m r j = offered r j (onward m r.cell j (Some r.length))

-- the shorter of two offers, and the first of equals
abbrev pub shorter : {L R : Type 0} → Kind L R → Option (Bid L) → Option (Bid L) → Option (Bid L)
shorter kind x None = x
shorter kind None (Some b) = Some b
shorter kind (Some a) (Some b) = cond (kind.le a.length b.length) (Some a) (Some b)

-- the shortest offer to a cell, and of equals the first, once these cells are ranked, the last one
-- first
unfoldable pub best : {L R : Type 0} → Measuring L R → List (Bid L) → ℕ → Option (Bid L)
best m [] j = start m j
best m (r ∷ rs) j = shorter m.kind (best m rs j) (offer m r j)

unfoldable pub is_ranked : {L : Type 0} → List (Bid L) → ℕ → Bool
is_ranked [] j = false
is_ranked (r ∷ rs) j = r.cell == j || is_ranked rs j

-- the shortest offer to an unranked cell below n, and of equals that to the lowest cell
unfoldable pub next_below : {L R : Type 0} → Measuring L R → List (Bid L) → ℕ → Option (Bid L)
next_below m rs zero = None
next_below m rs (suc n) =
    shorter m.kind (next_below m rs n) (cond (is_ranked rs n) None (best m rs n))

-- the offer by which the next cell is ranked
abbrev pub next : {L R : Type 0} → Measuring L R → List (Bid L) → Option (Bid L)
next m rs = next_below m rs (area m.board.size)

-- one cell more, where there is one
abbrev pub and_one : {L : Type 0} → List (Bid L) → Option (Bid L) → List (Bid L)
and_one rs None = rs
and_one rs (Some r) = r ∷ rs

-- the first n cells that are ranked, or all where there are fewer, the last one first
unfoldable pub first_ranked : {L R : Type 0} → Measuring L R → ℕ → List (Bid L)
first_ranked m zero = []
first_ranked m (suc n) = let rs = first_ranked m n in and_one rs (next m rs)

-- all cells that are ranked
abbrev pub ranking : {L R : Type 0} → Measuring L R → List (Bid L)
ranking m = first_ranked m (area m.board.size)
