-- A run begins with a plate just opened, and tells the truth from there. Assumes nothing.
use Rattle.std.proofs.Common.{◌≡◌, ℕ, ◌*◌, ◌≤◌, false, ◌||◌, ltb, List, [], ◌++◌, length, drop, replicate, None, Ok, Err, Result, refl, ap, ◌∙◌, subst, arith}
use Rattle.std.proofs.lemmas.Bool.Decides.{nat_tests}
use Rattle.std.proofs.lemmas.List.{length-append, length-drop, length-replicate}
use Rattle.board.specs.Outcomes.{after}
use Rattle.board.specs.Sizes.{area, area_asked, bad_size}
use Rattle.board.specs.Tables.{bare_cell, pads}
use Rattle.board.specs.declared.cell.Cell.{Cell}
use Rattle.board.specs.declared.record.MapRecord.{MapRecord}
use Rattle.board.specs.declared.size.Dimensions.{Dimensions}
use Rattle.plate.specs.Edits.{OpensOver, opened_cells, opened_groups}
use Rattle.plate.specs.Refusals.{open_refusal}
use Rattle.plate.specs.declared.header.Draft.{Draft}
use Rattle.plate.specs.declared.refusal.Refusal.{Refusal}
use Rattle.plate.specs.declared.refusal.Refusal.TheVariants.{Size as BadSize, Tables}
use Rattle.queue.specs.declared.offer.Offer.{Offer}
use Rattle.runs.specs.Measurers.{Measurer}
use Rattle.runs.specs.Plates.{state}
use Rattle.runs.specs.Runs.{Answered, Contents, LeadsTo, Leaves, Ran, RanTo, happened, holding, rooms}
use Rattle.runs.specs.Said.{Said}
use Rattle.runs.specs.Steps.{Starts, State, TellsTruth, rooms_of}
use Rattle.runs.specs.Truths.{Truthful}
use Rattle.runs.specs.declared.call.RulerCall.{RulerCall}
use Rattle.runs.specs.declared.plates.Plate.TheVariants as plate
use Rattle.runs.proofs.Moves.{refuse_none}

module _ {asked : Dimensions} {cells cells' : List Cell} {groups groups' : List ℕ} {d : Draft}
    (opens : OpensOver asked cells cells' groups groups' (Ok d)) where
  -- the dimensions are those of a plate
  pub good_size : bad_size asked ≡ false
  good_size = (refuse_none (bad_size asked) BadSize _ opens.answer.0).0

  pub opened_area : area d.header.size ≡ area_asked asked
  opened_area = λ k. opens.answer.1.size.rows k * opens.answer.1.size.columns k

  module _ {R : Type 0} (first second : List (MapRecord R)) (queue : List (Offer R)) where
    abbrev start : State R
    start = state (plate.Draft d) cells' groups' first second queue

    starts : Starts asked cells groups start
    starts = record {
      opened = opens.answer.0;
      sized = opens.answer.1.size;
      first_outdated = opens.answer.1.first;
      second_outdated = opens.answer.1.second;
      is_draft = refl;
      all_bare = opens.all_bare
          ∙ ap (λ back. after back cells (opened_cells asked cells)) opens.answer.0;
      no_groups = opens.no_groups
          ∙ ap (λ back. after back groups (opened_groups groups)) opens.answer.0;
    }

    -- the calls lead on from a plate just opened
    pub leaves : {L : Type 0} {by : Measurer L R} {calls : List RulerCall} {answers : List (Said L)}
        {left : Contents R} →
        LeadsTo by start calls answers left →
        Leaves asked by calls answers (holding cells groups first second queue) left
    leaves leads_to = record {
      start = start;
      starts = starts;
      first = refl;
      second = refl;
      queue = refl;
      leads_to = leads_to;
    }

-- a table with its front part filled is as long as before
refilled : {X : Type 0} (n : ℕ) (x : X) (table : List X) → n ≤ length table →
    length (replicate n x ++ drop n table) ≡ length table
refilled n x table within =
    omega (
      arith,
      length-append (replicate n x)
          (drop n table),
      length-replicate n x,
      length-drop n table,
    )

module _ (asked : Dimensions) (cells : List Cell) (groups : List ℕ)
    (none : open_refusal asked (length cells) (length groups) ≡ None) where
  long_enough : (ltb (length cells) (area_asked asked) || ltb (length groups) pads) ≡ false
  long_enough = (refuse_none _ Tables _ (refuse_none _ BadSize _ none).1).0

  as_many_cells : length (opened_cells asked cells) ≡ length cells
  as_many_cells = let short = long_enough in
      refilled (area_asked asked) bare_cell cells (grind (arith, nat_tests, short))

  as_many_groups : length (opened_groups groups) ≡ length groups
  as_many_groups = let short = long_enough in
      refilled pads 0 groups (grind (arith, nat_tests, short))

module _ {L R : Type 0} (asked : Dimensions) (by : Measurer L R) (calls : List RulerCall)
    (held left : Contents R) (law : TellsTruth by) where
  -- every answer is true
  answered : (answers : List (Said L)) → length answers ≡ length calls →
      Leaves asked by calls answers held left → Answered (rooms held) asked by calls answers
  answered answers all leaves =
      let start = leaves.start in
      let starts = leaves.starts in
      let same_rooms : rooms_of start ≡ rooms held = λ k. record {
        cells = (ap length starts.all_bare
            ∙ as_many_cells asked held.cells held.groups starts.opened) k;
        groups = (ap length starts.no_groups
            ∙ as_many_groups asked held.cells held.groups starts.opened) k;
        first = length (leaves.first k);
        second = length (leaves.second k);
        queue = length (leaves.queue k);
      } in
      record {
        opened = starts.opened;
        size = start.plate.size;
        sized = starts.sized;
        all = all;
        truthful = subst (λ lent. Truthful lent start.plate.size by (happened calls answers []))
            same_rooms
            (law asked held.cells held.groups start starts
            (happened calls answers []) leaves.leads_to.after leaves.leads_to.leads);
      }

  pub ran : (result : Result (List (Said L)) Refusal) → RanTo asked by calls held left result →
      Ran asked by calls held left result
  ran (Ok answers) ends = (answered answers ends.0 ends.1, ends.1)
  ran (Err e) ends = ends
