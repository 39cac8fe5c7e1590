-- What runs by the four rulers answer of distance and gap: least plain sums of the step formula
-- over lists of neighbours on the ledger, with no cap. Assumes nothing.
use Rattle.std.specs.Prelude.{ℕ, List, [], ◌∷◌, MatchOption}
use Rattle.board.specs.Sizes.{cell_at}
use Rattle.board.specs.declared.size.Size.{Size}
use Rattle.lengths.specs.Kinds.{Kind}
use Rattle.lengths.specs.Wholes.{whole_kind}
use Rattle.lengths.specs.Counteds.{counted_kind}
use Rattle.gauges.specs.Meanings.{Ruling, adding}
use Rattle.gauges.specs.Rulers.{whole_ruling, counted_chessboard, chessboard_units}
use Rattle.gauges.specs.declared.step.Step.{Step}
use Rattle.measuring.specs.Boards.{Board}
use Rattle.geodesics.specs.FourRulers.{OfFourRulers}
use Rattle.geodesics.specs.GapSums.{FewestStepsBetween, LeastSumBetween, NoListBetween}
use Rattle.geodesics.specs.Transform.{FewestSteps, LeastSum, NoList}
use Rattle.runs.specs.Histories.{Event, ledger}
use Rattle.runs.specs.Measurers.{Measurer, by_gauge, by_ruler}
use Rattle.runs.specs.Said.{Said}
use Rattle.runs.specs.Said.Said.{distance, gap, refused}
use Rattle.runs.specs.Steps.{EveryRun}
use Rattle.runs.specs.declared.call.Call.TheVariants.{Distance}
use Rattle.runs.specs.declared.call.RulerCall.{RulerCall}
use Rattle.runs.specs.declared.call.RulerCall.TheVariants.{Plain, Gap}

-- an answer to distance: a length or none; of a call that is sent back nothing is said here
abbrev pub DistanceSays : {L : Type 0} → Said L → Type 0 → (L → Type 0) → Type 0
DistanceSays (distance found) none some = MatchOption found none some
DistanceSays (refused e) none some = Unit {0}
DistanceSays _ none some = ⊥

-- an answer to gap, likewise
abbrev pub GapSays : {L : Type 0} → Said L → Type 0 → (L → Type 0) → Type 0
GapSays (gap found) none some = MatchOption found none some
GapSays (refused e) none some = Unit {0}
GapSays _ none some = ⊥

-- by a step formula: To says what a length to a cell is, and Between what one between the groups is
module _ {L : Type 0} (units : Step → ℕ) (To : Board → ℕ → ℕ → L → Type 0)
    (Between : Board → L → Type 0) where
  -- an answer over the board as it stands: none is answered to distance only where no list ends at
  -- the cell, and to gap only where there is no list between the groups
  abbrev pub SumSays : Board → RulerCall → Said L → Type 0
  SumSays b (Plain (Distance row column group)) answer =
      let j = cell_at b.size row column in
      DistanceSays answer (NoList units b group j) (To b group j)
  SumSays b Gap answer = GapSays answer (NoListBetween units b) (Between b)
  SumSays b _ answer = Unit {0}

  -- each answer, over the board that the calls before it make true
  abbrev pub SumsSay : Size → List (Event L) → Type 0
  SumsSay size [] = Unit {0}
  SumsSay size (e ∷ before) = SumsSay size before × SumSays (ledger size before) e.call e.answer

  -- in every run
  abbrev pub TellsSums : {R : Type 0} → Measurer L R → Type 0
  TellsSums by = EveryRun by (λ start history. SumsSay start.plate.size history)

  -- by the ruler as a gauge, which has no gap, and by the ruler with its sums
  abbrev pub TellsSumsBy : {R : Type 0} → Kind L R → Ruling L → Type 0
  TellsSumsBy kind ruler =
      TellsSums (by_gauge kind (adding ruler)) × TellsSums (by_ruler kind (adding ruler) ruler.sum)

-- by a ruler with this formula, the units of a length are the least sum
abbrev pub WholeRuns : (Step → ℕ) → Type 0
WholeRuns units =
    TellsSumsBy units
    (λ b group j a. LeastSum units b group j a.units)
    (λ b a. LeastSumBetween units b a.units)
    whole_kind (whole_ruling units)

-- by counted chessboard, its steps are the fewest of the shortest lists, too
abbrev pub CountedRuns : Type 0
CountedRuns =
    TellsSumsBy chessboard_units
    (λ b group j a.
    LeastSum chessboard_units b group j a.units ×
    FewestSteps chessboard_units b group j a.units a.steps)
    (λ b a.
    LeastSumBetween chessboard_units b a.units ×
    FewestStepsBetween chessboard_units b a.units a.steps)
    counted_kind counted_chessboard

-- runs by the four rulers
abbrev pub PublishedRuns : Type 0
PublishedRuns = OfFourRulers WholeRuns CountedRuns
