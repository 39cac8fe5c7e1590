-- What opening a plate and each edit answer, and what they write. Assumes nothing.
use Rattle.std.specs.Prelude.{◌≡◌, ℕ, ◌-◌, false, List, ◌++◌, length, drop, replicate, Some, None, Option, Result, MatchResult, slice_set}
use Rattle.board.specs.Outcomes.{after, answering}
use Rattle.board.specs.Sizes.{Sized, area_asked, cell_at}
use Rattle.board.specs.Tables.{bare_cell, barred_cell, pads}
use Rattle.board.specs.declared.cell.Cell.{Cell}
use Rattle.board.specs.declared.size.Dimensions.{Dimensions}
use Rattle.board.specs.declared.size.Size.{Size}
use Rattle.plate.specs.Headers.{outdated, standing}
use Rattle.plate.specs.Refusals.{open_refusal}
use Rattle.plate.specs.declared.edit.Edit.{Edit}
use Rattle.plate.specs.declared.edit.Edit.TheVariants.{Set, Bar, Enrol}
use Rattle.plate.specs.declared.header.Draft.{Draft}
use Rattle.plate.specs.declared.header.Header.{Header}
use Rattle.plate.specs.declared.refusal.Refusal.{Refusal}

-- a draft of these dimensions with no map measured
pub record Fresh (asked : Dimensions) (d : Draft) : Type 0 where
  pub size : Sized d.header.size asked
  pub first : d.header.first ≡ false
  pub second : d.header.second ≡ false

-- the cells and the groups of a plate just opened
abbrev pub opened_cells : Dimensions → List Cell → List Cell
opened_cells asked cells = replicate (area_asked asked) bare_cell ++ drop (area_asked asked) cells

abbrev pub opened_groups : List ℕ → List ℕ
opened_groups groups = replicate pads 0 ++ drop pads groups

-- what opening does: its answer, and the cells and the groups afterwards
pub record Opens (refused : Option Refusal) (asked : Dimensions) (cells cells' : List Cell)
    (groups groups' : List ℕ) (r : Result Draft Refusal) : Type 0 where
  pub answer : MatchResult r (λ d. (refused ≡ None) × Fresh asked d) (λ e. refused ≡ Some e)
  pub all_bare : cells' ≡ after refused cells (opened_cells asked cells)
  pub no_groups : groups' ≡ after refused groups (opened_groups groups)

-- what opening over these tables does
abbrev pub OpensOver : Dimensions → (cells cells' : List Cell) (groups groups' : List ℕ) →
    Result Draft Refusal → Type 0
OpensOver asked cells cells' groups groups' r =
    Opens (open_refusal asked (length cells) (length groups)) asked cells cells' groups groups' r

-- what an edit makes of the cells of a plate of this size
abbrev pub cells_edited : Size → Edit → List Cell → List Cell
cells_edited size (Set row column height pad) cells =
    slice_set cells (cell_at size row column) (record { height = height; pad = pad; barred = false })
cells_edited size (Bar row column) cells = slice_set cells (cell_at size row column) barred_cell
cells_edited size (Enrol pad group) cells = cells

-- and of the groups, where pad 1 has the first byte
abbrev pub groups_edited : Edit → List ℕ → List ℕ
groups_edited (Set row column height pad) groups = groups
groups_edited (Bar row column) groups = groups
groups_edited (Enrol pad group) groups = slice_set groups (pad - 1) group

-- what an edit does that is sent back by `refused` or else turns its table into `written`
pub record Edits {X : Type 0} (refused : Option Refusal) (h h' : Header) (old written new : List X)
    (r : Result Unit Refusal) : Type 0 where
  pub answer : r ≡ answering refused tt
  pub table : new ≡ after refused old written
  pub header : standing h' ≡ after refused (standing h) (outdated (standing h))

-- likewise over both tables
pub record EditsBoth (refused : Option Refusal) (e : Edit) (h h' : Header)
    (cells cells' : List Cell) (groups groups' : List ℕ) (r : Result Unit Refusal) : Type 0 where
  pub answer : r ≡ answering refused tt
  pub on_cells : cells' ≡ after refused cells (cells_edited h.size e cells)
  pub on_groups : groups' ≡ after refused groups (groups_edited e groups)
  pub header : standing h' ≡ after refused (standing h) (outdated (standing h))
