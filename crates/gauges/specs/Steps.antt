-- Which steps there are on a plate. Assumes nothing.
use Rattle.std.specs.Prelude.{◌≡◌, ℕ, ◌+◌, ◌-◌, ◌<◌, Bool, true, not, ◌&&◌, ◌||◌, ◌==◌, nat_le}
use Rattle.gauges.specs.declared.step.Point.{Point}
use Rattle.gauges.specs.declared.step.Step.{Step}

-- the absolute difference
abbrev pub apart : ℕ → ℕ → ℕ
apart a b = (a - b) + (b - a)

-- different cells whose rows and columns each differ by at most 1
abbrev pub neighbours : ℕ → ℕ → ℕ → ℕ → Bool
neighbours r c r' c' = (nat_le (apart r r') 1 && nat_le (apart c c') 1) && not (r == r' && c == c')

-- a cell that a plate can have
pub record Possible (p : Point) : Type 0 where
  pub row : p.row < 256
  pub column : p.column < 256
  pub height : p.height < 65536

-- a step that can be taken on some plate
pub record Genuine (s : Step) : Type 0 where
  pub from : Possible s.from
  pub to : Possible s.to
  pub near : neighbours s.from.row s.from.column s.to.row s.to.column ≡ true

abbrev pub reversed : Step → Step
reversed s = record { from = s.to; to = s.from }

-- the difference of the heights
abbrev pub rise : Step → ℕ
rise s = apart s.from.height s.to.height

-- an edge step stays in its row or its column; any other is a corner step
abbrev pub edge : Step → Bool
edge s = s.from.row == s.to.row || s.from.column == s.to.column
