-- The two pad groups and their numbers. Assumes nothing.
use Rattle.std.specs.Prelude.{ℕ, Bool, ◌||◌, ◌==◌, nat_lt}
use Rattle.board.specs.declared.group.Group.{Group}
use Rattle.board.specs.declared.group.Group.TheVariants.{First, Second}

abbrev pub group_number : Group → ℕ
group_number First = 1
group_number Second = 2

-- a number that neither group has
abbrev pub no_group : ℕ → Bool
no_group number = number == 0 || nat_lt 2 number
