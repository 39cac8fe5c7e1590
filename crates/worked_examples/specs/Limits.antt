-- Figures at the limits, each accepted, and one further, each sent back. Assumes nothing.
use Rattle.std.specs.Prelude.{◌≡◌, ℕ, [], ◌∷◌, true, false, Some, None, Ok, Err, List, Option, Result}
use Rattle.board.specs.Sizes.{bad_size}
use Rattle.plate.specs.declared.refusal.Refusal.{Refusal}
use Rattle.plate.specs.declared.refusal.Refusal.TheVariants.{Pad, Short}
use Rattle.gauges.specs.declared.refusal.Refusal.TheVariants.{Setting}
use Rattle.gauges.specs.Layers.{weighting_refusal}
use Rattle.gauges.specs.Rulers.{chessboard_units, three_four_refusal}
use Rattle.lengths.specs.Wholes.{whole_kind}
use Rattle.measuring.specs.Maps.{entries_needed}
use Rattle.plate.specs.Readings.{way_cells}
use Rattle.plate.specs.Refusals.{Standing, set_refusal}
use Rattle.worked_examples.specs.Boards.{map_of, size_1_1, size_1_3, size_2_3, strip}

-- setting a pad on the one cell of a board
abbrev pub pad_set : ℕ → Option Refusal
pad_set pad = set_refusal size_1_1 1 0 0 pad

-- the strip with its first map measured
abbrev pub measured : Standing
measured = record { size = size_1_3; first = true; second = false }

-- the way from the strip's last cell, which has three cells, into a list of so many
abbrev pub way_into : ℕ → Result (List ℕ) Refusal
way_into room = way_cells whole_kind measured (map_of chessboard_units strip 1) 0 2 1 room

pub record Limits : Type 0 where
  pub sides_256 : bad_size (record { rows = 256; columns = 256 }) ≡ false
  pub sides_1 : bad_size (record { rows = 1; columns = 1 }) ≡ false
  pub rows_257 : bad_size (record { rows = 257; columns = 1 }) ≡ true
  pub columns_257 : bad_size (record { rows = 1; columns = 257 }) ≡ true
  pub rows_0 : bad_size (record { rows = 0; columns = 1 }) ≡ true
  pub columns_0 : bad_size (record { rows = 1; columns = 0 }) ≡ true
  pub pad_64 : pad_set 64 ≡ None
  pub pad_65 : pad_set 65 ≡ Some Pad
  pub entries_of_6 : entries_needed size_2_3 ≡ 54
  pub weight_0 : three_four_refusal 0 ≡ None
  pub weight_64 : three_four_refusal 64 ≡ None
  pub weight_65 : three_four_refusal 65 ≡ Some Setting
  pub factor_0 : weighting_refusal 0 ≡ Some Setting
  pub factor_1 : weighting_refusal 1 ≡ None
  pub factor_16 : weighting_refusal 16 ≡ None
  pub factor_17 : weighting_refusal 17 ≡ Some Setting
  pub long_enough : way_into 3 ≡ Ok (2 ∷ 1 ∷ 0 ∷ [])
  pub one_shorter : way_into 2 ≡ Err Short
