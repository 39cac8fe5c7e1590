-- The four rulers. Assumes nothing.
use Rattle.std.specs.Prelude.{ℕ, zero, suc, ◌+◌, ◌*◌, ◌^◌, ◌≤◌, false, cond, None, Option, nat_le, nat_lt}
use Rattle.board.specs.Outcomes.{refuse}
use Rattle.gauges.specs.declared.refusal.Refusal.{Refusal}
use Rattle.gauges.specs.declared.refusal.Refusal.TheVariants as refusal
use Rattle.lengths.specs.Wholes.{whole, whole_sum}
use Rattle.lengths.specs.Counteds.{counted, counted_sum}
use Rattle.lengths.specs.declared.whole.Whole.{Whole}
use Rattle.lengths.specs.declared.counted.Counted.{Counted}
use Rattle.gauges.specs.Steps.{rise, edge}
use Rattle.gauges.specs.Meanings.{Ruling}
use Rattle.gauges.specs.declared.step.Step.{Step}

-- a ruler over whole lengths that bars no step
abbrev pub whole_ruling : (Step → ℕ) → Ruling Whole
whole_ruling units = record { barred = λ _. false; span = λ s. whole (units s); sum = whole_sum }

abbrev pub chessboard_units : Step → ℕ
chessboard_units s = rise s + 1

abbrev pub chessboard : Ruling Whole
chessboard = whole_ruling chessboard_units

abbrev pub three_four_units : ℕ → Step → ℕ
three_four_units w s = w * rise s + cond (edge s) 3 4

-- w from 0 to 64
abbrev pub three_four_refusal : ℕ → Option Refusal
three_four_refusal w = refuse (nat_lt 64 w) refusal.Setting None

-- n is the greatest number whose square is at most x
pub record Root (x n : ℕ) : Type 0 where
  pub at_most : n * n ≤ x
  pub greatest : (m : ℕ) → m * m ≤ x → m ≤ n

-- the root of x bit by bit: r has the bits found already, and k are to come
unfoldable pub root_from : ℕ → ℕ → ℕ → ℕ
root_from zero r x = r
root_from (suc k) r x = root_from k (cond (nat_le ((r + 2 ^ k) * (r + 2 ^ k)) x) (r + 2 ^ k) r) x

-- the root of a number below 2^64
unfoldable pub root : ℕ → ℕ
root x = root_from 32 0 x

-- the square of a step's length in 256ths of a cell
abbrev pub euclid_square : Step → ℕ
euclid_square s = 65536 * (rise s * rise s + cond (edge s) 1 2)

abbrev pub euclid_units : Step → ℕ
euclid_units s = root (euclid_square s)

abbrev pub counted_chessboard : Ruling Counted
counted_chessboard =
    record { barred = λ _. false; span = λ s. counted (rise s + 1) 1; sum = counted_sum }
