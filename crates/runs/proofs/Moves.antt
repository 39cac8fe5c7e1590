-- One step: calls that are sent back, edits, seal and break. Assumes nothing.
use Rattle.std.proofs.Common.{◌≡◌, ℕ, ◌-◌, ◌<◌, Bool, true, false, List, length, take, set, Some, None, Option, sym, refl, ap, subst, subst₂, All, arith}
use Rattle.std.proofs.lemmas.Bool.{false≢true}
use Rattle.std.proofs.lemmas.Bool.Decides.{nat_tests}
use Rattle.std.proofs.lemmas.List.{length-set}
use Rattle.std.proofs.lemmas.List.Elements.{All-set}
use Rattle.std.proofs.Math.Seq.{take-set-lt}
use Rattle.board.proofs.Areas.{cell_within}
use Rattle.board.specs.Outcomes.{refuse}
use Rattle.board.specs.Sizes.{area, cell_at, off}
use Rattle.board.specs.Tables.{barred_cell, no_pad, pads}
use Rattle.board.specs.declared.cell.Cell.{Cell}
use Rattle.board.specs.declared.size.Size.{Size}
use Rattle.measuring.specs.Boards.{on}
use Rattle.plate.specs.Edits.{cells_edited, groups_edited}
use Rattle.plate.specs.Headers.{outdated}
use Rattle.plate.specs.Refusals.{edit_refusal, seal_refusal}
use Rattle.plate.specs.declared.edit.Edit.{Edit}
use Rattle.plate.specs.declared.edit.Edit.TheVariants.{Set, Bar, Enrol}
use Rattle.plate.specs.declared.refusal.Refusal.{Refusal}
use Rattle.plate.specs.declared.refusal.Refusal.TheVariants.{Tables, Off, Pad}
use Rattle.runs.specs.Measurers.{Measurer}
use Rattle.runs.specs.Said.{Said}
use Rattle.runs.specs.Said.Said.{done, refused}
use Rattle.runs.specs.Histories.{edited}
use Rattle.runs.specs.Steps.{CarriesOut, Does, HeightFits, State, Unless, edit_made, rooms_of}
use Rattle.runs.specs.Truths.{Answers, Judged}
use Rattle.runs.specs.declared.call.Call.TheVariants.{Edit as AnEdit, Seal, Break}
use Rattle.runs.specs.declared.call.RulerCall.{RulerCall}
use Rattle.runs.specs.declared.call.RulerCall.TheVariants.{Plain}
use Rattle.runs.proofs.Trimmed.{trimmed}
use Rattle.runs.proofs.Moments.{Low, Next, Onward, Stands, board_of, moment_after, moment_of}

pub refuse_none : {E : Type 0} (b : Bool) (e : E) (rest : Option E) → refuse b e rest ≡ None →
    (b ≡ false) × (rest ≡ None)
refuse_none true e rest h = absurd (some_is_none h)
  where
    some_is_none : {A : Type 0} {x : A} → Some x ≡ None → ⊥
    some_is_none h = cc
refuse_none false e rest h = (refl, h)

pub off_within : (size : Size) (row column : ℕ) → off size row column ≡ false →
    cell_at size row column < area size
off_within size row column on =
    cell_within size row column (grind (arith, nat_tests)) (grind (arith, nat_tests))

module _ {L R : Type 0} (by : Measurer L R) (s : State R) (stands : Stands by s)
    (call : RulerCall) (answer : Said L) (s' : State R) where
  -- a call that changes nothing
  pub stays : (may : Bool) (back : Option Refusal) → s' ≡ s →
      moment_after call answer (moment_of s) ≡ moment_of s →
      Judged may back answer (Answers by (board_of s) call answer) →
      Next by may back call answer s s'
  stays may back is same truth =
      subst (Next by may back call answer s) (sym is)
      (record { truth = truth; moment = sym same; stands = stands; same_rooms = refl })

  pub sent : (e : Refusal) → answer ≡ refused e → s' ≡ s → Next by true (Some e) call answer s s'
  sent e told is =
      stays true (Some e) is (ap (λ answer. moment_after call answer (moment_of s)) told) told

  -- a call that the state may allow
  pub unless : (may : Bool) (back : Option Refusal) (carried : Type 0) →
      (carried → Next by true back call answer s s') →
      Unless by s answer s' may carried → Next by may back call answer s s'
  unless true back carried goes step = goes step
  unless false back carried goes (told, is) =
      stays false back is (ap (λ answer. moment_after call answer (moment_of s)) told) told

  -- a call that is sent back or else done
  pub does : (back : Option Refusal) (then : State R) →
      (back ≡ None → Next by true None call done s then) →
      Does by s answer s' back then → Next by true back call answer s s'
  does (Some e) then goes step = sent e step.told step.state
  does None then goes step =
      subst₂ (λ answer. Next by true None call answer s) (sym step.told) (sym step.state) (goes refl)

cell_put : (size : Size) (row column : ℕ) (new : Cell) (cells : List Cell) →
    off size row column ≡ false →
    take (area size) (set cells (cell_at size row column) new) ≡
    set (take (area size) cells) (cell_at size row column) new
cell_put size row column new cells on =
    take-set-lt (area size) cells (cell_at size row column) new (off_within size row column on)

-- an edit that is not sent back writes into the needed parts
edit_trimmed : (size : Size) (n k : ℕ) (e : Edit) (cells : List Cell) (groups : List ℕ) →
    edit_refusal size n k e ≡ None →
    trimmed size (cells_edited size e cells) (groups_edited e groups) ≡
    edited (Plain (AnEdit e)) (trimmed size cells groups)
edit_trimmed size n k (Set row column height pad) cells groups none =
    ap (λ cells. on size cells (take pads groups))
    (cell_put size row column _ cells (refuse_none _ Off _ (refuse_none _ Tables _ none).1).0)
edit_trimmed size n k (Bar row column) cells groups none =
    ap (λ cells. on size cells (take pads groups))
    (cell_put size row column _ cells (refuse_none _ Off _ (refuse_none _ Tables _ none).1).0)
edit_trimmed size n k (Enrol pad group) cells groups none =
    ap (on size (take (area size) cells))
    (take-set-lt pads groups (pad - 1) group
    (pad_within pad (refuse_none _ Pad _ (refuse_none _ Tables _ none).1).0))
  where
    pad_within : (pad : ℕ) → no_pad pad ≡ false → pad - 1 < pads
    pad_within pad some = grind (arith, nat_tests)

low_edited : (size : Size) (e : Edit) (cells : List Cell) → HeightFits e → All Low cells →
    All Low (cells_edited size e cells)
low_edited size (Set row column height pad) cells fits low =
    All-set Low cells (cell_at size row column) _ fits low
low_edited size (Bar row column) cells fits low =
    All-set Low cells (cell_at size row column) barred_cell (omega arith) low
low_edited size (Enrol pad group) cells fits low = low

as_many_cells : (size : Size) (e : Edit) (cells : List Cell) →
    length (cells_edited size e cells) ≡ length cells
as_many_cells size (Set row column height pad) cells = length-set cells (cell_at size row column) _
as_many_cells size (Bar row column) cells = length-set cells (cell_at size row column) barred_cell
as_many_cells size (Enrol pad group) cells = refl

as_many_groups : (e : Edit) (groups : List ℕ) → length (groups_edited e groups) ≡ length groups
as_many_groups (Set row column height pad) groups = refl
as_many_groups (Bar row column) groups = refl
as_many_groups (Enrol pad group) groups = length-set groups (pad - 1) group

module _ {L R : Type 0} (by : Measurer L R) (s : State R) (stands : Stands by s)
    (answer : Said L) (s' : State R) where
  pub edit_step : (e : Edit) → CarriesOut by s answer s' (Plain (AnEdit e)) →
      Onward by s answer s' (Plain (AnEdit e))
  edit_step e (fits, step) =
      let size = s.plate.size in
      does by s stands (Plain (AnEdit e)) answer s' _ (edit_made e s)
      (λ none.
      let board = edit_trimmed size (length s.cells) (length s.groups) e s.cells s.groups none in
      record {
        truth = refl;
        moment = λ k. record { plate = outdated s.plate; is_sealed = s.is_sealed; board = board k };
        stands = record {
          low = subst (All Low) (sym (ap (λ b. b.cells) board))
              (low_edited size e (take (area size) s.cells) fits stands.low);
          first_held = λ current. absurd (false≢true current);
          second_held = λ current. absurd (false≢true current);
        };
        same_rooms = λ k. record (rooms_of s) {
          cells = as_many_cells size e s.cells k;
          groups = as_many_groups e s.groups k;
        };
      })
      step

  pub seal_step : CarriesOut by s answer s' (Plain Seal) → Onward by s answer s' (Plain Seal)
  seal_step =
      does by s stands (Plain Seal) answer s' (seal_refusal s.plate) (record s { is_sealed = true })
      (λ _. record { truth = refl; moment = refl; stands = stands; same_rooms = refl })

  pub break_step : CarriesOut by s answer s' (Plain Break) → Onward by s answer s' (Plain Break)
  break_step =
      does by s stands (Plain Break) answer s' None (record s { is_sealed = false })
      (λ _. record { truth = refl; moment = refl; stands = stands; same_rooms = refl })
