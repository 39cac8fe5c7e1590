-- Why calls on a plate are sent back, each rule once: over the plate's size, whether each group's map is current, and the lengths of
-- the tables that a call is lent. Assumes nothing.
use Rattle.std.specs.Prelude.{ℕ, Bool, cond, not, ◌||◌, None, Option, ◌==◌, nat_lt}
use Rattle.board.specs.Groups.{no_group}
use Rattle.board.specs.Outcomes.{refuse}
use Rattle.board.specs.Sizes.{area, area_asked, bad_size, off}
use Rattle.board.specs.Tables.{no_pad, pads}
use Rattle.board.specs.declared.size.Dimensions.{Dimensions}
use Rattle.board.specs.declared.size.Size.{Size}
use Rattle.measuring.specs.Maps.{entries_needed}
use Rattle.plate.specs.declared.edit.Edit.{Edit}
use Rattle.plate.specs.declared.edit.Edit.TheVariants.{Set, Bar, Enrol}
use Rattle.plate.specs.declared.refusal.Refusal.{Refusal}
use Rattle.plate.specs.declared.refusal.Refusal.TheVariants as refusal

abbrev pub number : Refusal → ℕ
number refusal.Size = 1
number refusal.Tables = 2
number refusal.Off = 3
number refusal.Pad = 4
number refusal.Group = 5
number refusal.Outdated = 6
number refusal.Short = 7
number refusal.Torn = 8

-- what the calls of a plate go by besides its tables: its size, and whether the maps of groups 1 and 2 are current
pub record Standing : Type 0 where
  pub size : Size
  pub first : Bool
  pub second : Bool

-- whether a group's map is current; a number that no group has is refused before this is asked
abbrev pub current : Standing → ℕ → Bool
current p group = cond (group == 1) p.first p.second

abbrev pub open_refusal : Dimensions → (cells groups : ℕ) → Option Refusal
open_refusal d cells groups =
    refuse (bad_size d) refusal.Size
    (refuse (nat_lt cells (area_asked d) || nat_lt groups pads) refusal.Tables None)

abbrev pub bar_refusal : Size → (cells row column : ℕ) → Option Refusal
bar_refusal size cells row column =
    refuse (nat_lt cells (area size)) refusal.Tables
    (refuse (off size row column) refusal.Off None)

abbrev pub set_refusal : Size → (cells row column pad : ℕ) → Option Refusal
set_refusal size cells row column pad =
    refuse (nat_lt cells (area size)) refusal.Tables
    (refuse (off size row column) refusal.Off
    (refuse (nat_lt pads pad) refusal.Pad None))

-- group 0 is allowed here
abbrev pub enrol_refusal : (groups pad group : ℕ) → Option Refusal
enrol_refusal groups pad group =
    refuse (nat_lt groups pads) refusal.Tables
    (refuse (no_pad pad) refusal.Pad
    (refuse (nat_lt 2 group) refusal.Group None))

abbrev pub edit_refusal : Size → (cells groups : ℕ) → Edit → Option Refusal
edit_refusal size cells groups (Set row column height pad) = set_refusal size cells row column pad
edit_refusal size cells groups (Bar row column) = bar_refusal size cells row column
edit_refusal size cells groups (Enrol pad group) = enrol_refusal groups pad group

abbrev pub measure_refusal : Size → (cells groups map entries group : ℕ) → Option Refusal
measure_refusal size cells groups map entries group =
    refuse
    ((nat_lt cells (area size) || nat_lt groups pads)
    || (nat_lt map (area size) || nat_lt entries (entries_needed size)))
    refusal.Tables
    (refuse (no_group group) refusal.Group None)

-- distance, nearest and way, over their group's map; what a way's list is too short for is weighed later
abbrev pub reading_refusal : Standing → (map row column group : ℕ) → Option Refusal
reading_refusal p map row column group =
    refuse (nat_lt map (area p.size)) refusal.Tables
    (refuse (off p.size row column) refusal.Off
    (refuse (no_group group) refusal.Group
    (refuse (not (current p group)) refusal.Outdated None)))

-- both maps have to be current
abbrev pub seal_refusal : Standing → Option Refusal
seal_refusal p = refuse (not p.first || not p.second) refusal.Outdated None

abbrev pub gap_refusal : Standing → (first second : ℕ) → Option Refusal
gap_refusal p first second =
    refuse (nat_lt first (area p.size) || nat_lt second (area p.size)) refusal.Tables (seal_refusal p)

abbrev pub route_refusal : Standing → (first second marks : ℕ) → Option Refusal
route_refusal p first second marks =
    refuse (nat_lt marks (area p.size)) refusal.Tables (gap_refusal p first second)
