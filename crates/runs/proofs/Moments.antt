-- A moment of a run: what the calls so far say of the plate, and tables that hold it. Assumes
-- nothing.
use Rattle.std.proofs.Common.{◌≡◌, ℕ, ◌<◌, Bool, true, cond, List, length, take, sym, subst, All, Some, None, Option, ⊎_elim, arith}
use Rattle.std.proofs.Math.ListN.{get_or-eq_default}
use Rattle.std.proofs.lemmas.Bool.{cases_lt}
use Rattle.std.proofs.lemmas.List.Elements.{All-get_or}
use Rattle.board.specs.Sizes.{area}
use Rattle.board.specs.Tables.{barred_cell}
use Rattle.board.specs.declared.cell.Cell.{Cell}
use Rattle.board.specs.declared.record.MapRecord.{MapRecord}
use Rattle.board.specs.declared.size.Size.{Size}
use Rattle.lengths.specs.Kinds.{Kind, KindLaws}
use Rattle.gauges.specs.Meanings.{ByAdding, Crossing, Lawful, Ruling, RulerLaws}
use Rattle.measuring.specs.Boards.{Board}
use Rattle.measuring.specs.Maps.{measured_map}
use Rattle.measuring.specs.Paths.{Measuring}
use Rattle.geodesics.specs.Fitting.{Fitting}
use Rattle.plate.specs.Refusals.{Standing}
use Rattle.plate.specs.declared.refusal.Refusal.{Refusal}
use Rattle.runs.specs.Measurers.{Measurer}
use Rattle.runs.specs.Said.{Said, accepted}
use Rattle.runs.specs.Histories.{Event, edited, ledger, measures, sealed, seals, standing_by}
use Rattle.runs.specs.Steps.{State, rooms_of}
use Rattle.runs.specs.Truths.{Answers, Judged, measured_by, sent_back}
use Rattle.runs.specs.declared.call.RulerCall.{RulerCall}
use Rattle.runs.proofs.Trimmed.{trimmed}

-- what a plate goes by, whether it is sealed, and its board
pub record Moment : Type 0 where
  pub plate : Standing
  pub is_sealed : Bool
  pub board : Board

-- by the calls so far
abbrev pub moment_by : {L : Type 0} → Size → List (Event L) → Moment
moment_by size before = record {
  plate = standing_by size before;
  is_sealed = sealed before;
  board = ledger size before;
}

-- after one call more
abbrev pub moment_after : {L : Type 0} → RulerCall → Said L → Moment → Moment
moment_after call answer now =
    let p = now.plate in
    record {
      plate = record {
        size = p.size;
        first = cond (accepted answer) (measures call 1 p.first) p.first;
        second = cond (accepted answer) (measures call 2 p.second) p.second;
      };
      is_sealed = cond (accepted answer) (seals call now.is_sealed) now.is_sealed;
      board = cond (accepted answer) (edited call now.board) now.board;
    }

-- by the plate and its tables
abbrev pub board_of : {R : Type 0} → State R → Board
board_of s = trimmed s.plate.size s.cells s.groups

abbrev pub moment_of : {R : Type 0} → State R → Moment
moment_of s = record { plate = s.plate; is_sealed = s.is_sealed; board = board_of s }

-- a height of 16 bits
abbrev pub Low : Cell → Type 0
Low c = c.height < 65536

-- a table that holds the measured map
abbrev pub Held : {L R : Type 0} → Measuring L R → List (MapRecord R) → Type 0
Held m map = take (area m.board.size) map ≡ measured_map m

-- sums, if there are any, are those of a lawful ruler by which the gauge adds
abbrev pub OfRuler : {L R : Type 0} → Kind L R → Crossing L → Option (L → L → L) → Type 0
OfRuler kind g None = Unit {0}
OfRuler {L} kind g (Some sum) =
    (ruler : Ruling L) × (ruler.sum ≡ sum) × RulerLaws kind ruler × ByAdding ruler g

-- what a run measures by keeps the laws
pub record Lawfully {L R : Type 0} (by : Measurer L R) : Type 0 where
  pub kind : KindLaws by.kind
  pub gauge : Lawful by.kind by.gauge
  pub sums : OfRuler by.kind by.gauge by.sums

module _ {L R : Type 0} (by : Measurer L R) where
  -- tables with heights of 16 bits, in which the maps that are current are held
  pub record Holds (p : Standing) (cells : List Cell) (groups : List ℕ)
      (first second : List (MapRecord R)) : Type 0 where
    pub low : All Low (take (area p.size) cells)
    pub first_held : p.first ≡ true → Held (measured_by by (trimmed p.size cells groups) 1) first
    pub second_held : p.second ≡ true → Held (measured_by by (trimmed p.size cells groups) 2) second

  abbrev pub Stands : State R → Type 0
  Stands s = Holds s.plate s.cells s.groups s.first s.second

  -- so the board's heights are such; what lies beyond the table has height 0
  pub board_fits : (s : State R) → Stands s → Fitting (board_of s)
  board_fits s stands i lt =
      let cells = (board_of s).cells in
      ⊎_elim
      (λ there. All-get_or Low cells i barred_cell there stands.low)
      (λ past. subst Low (sym (get_or-eq_default cells barred_cell past)) (omega arith))
      (cases_lt i (length cells))

  -- a call whose answer is true, and the state after it
  pub record Next (may : Bool) (back : Option Refusal) (call : RulerCall) (answer : Said L)
      (s s' : State R) : Type 0 where
    pub truth : Judged may back answer (Answers by (board_of s) call answer)
    pub moment : moment_of s' ≡ moment_after call answer (moment_of s)
    pub stands : Stands s'
    pub same_rooms : rooms_of s' ≡ rooms_of s

  -- one that the state allows
  abbrev pub Onward : State R → Said L → State R → RulerCall → Type 0
  Onward s answer s' call = Next true (sent_back (rooms_of s) s.plate call) call answer s s'
