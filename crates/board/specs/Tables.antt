-- How what a table holds is read. Assumes nothing.
use Rattle.std.specs.Prelude.{ℕ, ◌-◌, Bool, false, true, cond, not, ◌||◌, List, ◌==◌, nat_le, nat_lt, slice_index}
use Rattle.board.specs.declared.cell.Cell.{Cell}

-- the pads of a plate are numbered from 1 up to this
abbrev pub pads : ℕ
pads = 64

-- an open cell of height 0 with no pad
abbrev pub bare_cell : Cell
bare_cell = record { height = 0; pad = 0; barred = false }

-- a barred cell; what lies beyond a table counts as one
abbrev pub barred_cell : Cell
barred_cell = record { height = 0; pad = 0; barred = true }

-- a number that no pad has
abbrev pub no_pad : ℕ → Bool
no_pad p = p == 0 || nat_lt pads p

-- a pad above 64 counts as 0
abbrev pub known_pad : ℕ → ℕ
known_pad p = cond (nat_le p pads) p 0

-- a group above 2 counts as 0
abbrev pub known_group : ℕ → ℕ
known_group g = cond (nat_le g 2) g 0

-- the group of a pad: pad 1 has the first byte, and pad 0 and those above 64 are in no group
abbrev pub group_of : List ℕ → ℕ → ℕ
group_of groups p = cond (no_pad p) 0 (known_group (slice_index groups (p - 1)))

-- the pad of a source of the group, an open cell whose pad is in it; 0 at any other cell
abbrev pub source_pad : Cell → List ℕ → ℕ → ℕ
source_pad cell groups group =
    let pad = known_pad cell.pad in
    cond (cell.barred || not (group_of groups pad == group)) 0 pad
