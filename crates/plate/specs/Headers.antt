-- What a plate knows of itself besides its tables, and what becomes of that. Assumes nothing.
use Rattle.std.specs.Prelude.{ℕ, false, not, ◌||◌, ◌==◌}
use Rattle.plate.specs.Refusals.{Standing}
use Rattle.plate.specs.declared.header.Header.{Header}

-- plates are compared by this, and never by their headers as a whole
abbrev pub standing : Header → Standing
standing h = record { size = h.size; first = h.first; second = h.second }

-- after an edit: both maps are outdated
abbrev pub outdated : Standing → Standing
outdated p = record p { first = false; second = false }

-- after a group is measured: its map is current, and the other as it was
abbrev pub renewed : ℕ → Standing → Standing
renewed group p = record p { first = p.first || (group == 1); second = p.second || not (group == 1) }
