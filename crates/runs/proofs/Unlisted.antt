-- Calls that write no list or no marks leave them. Assumes nothing.
use Rattle.std.proofs.Common.{◌≡◌, ℕ, Bool, true, false, List, length, take, None, Some, Ok, Err, Option, Result, refl, ap, ◌∙◌, arith}
use Rattle.board.specs.Sizes.{area}
use Rattle.board.specs.declared.cell.Cell.{Cell}
use Rattle.board.specs.declared.record.MapRecord.{MapRecord}
use Rattle.measuring.specs.declared.Counts.{Counts}
use Rattle.plate.specs.declared.refusal.Refusal.{Refusal}
use Rattle.queue.specs.declared.offer.Offer.{Offer}
use Rattle.runs.specs.Measurers.{Measurer}
use Rattle.runs.specs.Plates.{header_of, state}
use Rattle.runs.specs.Replies.{CarriedOut, ListLeft, in_front, marks_told, told, told_of, within}
use Rattle.runs.specs.Said.{Said}
use Rattle.runs.specs.Said.Said.{done, measured, distance, nearest, way, gap, route, refused, not_allowed}
use Rattle.runs.specs.Steps.{CarriesOut, GapStep, RouteStep, State, Steps, Unless, telling}
use Rattle.runs.specs.Truths.{allowed}
use Rattle.runs.specs.declared.call.Call.TheVariants.{Edit, Measure, Distance, Nearest, Way, Seal, Break}
use Rattle.runs.specs.declared.call.RulerCall.{RulerCall}
use Rattle.runs.specs.declared.call.RulerCall.TheVariants.{Plain, Gap, Route}
use Rattle.runs.specs.declared.plates.Plate.{Plate}
use Rattle.runs.specs.declared.reply.Reply.{Reply}
use Rattle.runs.specs.declared.reply.Reply.TheVariants as reply

abbrev pub says_cells : {L : Type 0} → Said L → Bool
says_cells (way cells) = true
says_cells _ = false

abbrev pub says_marks : {L : Type 0} → Said L → Bool
says_marks (route marks count) = true
says_marks _ = false

-- nothing of the kind is said but by a way and a route
record Silent {L : Type 0} (says : Said L → Bool) : Type 0 where
  pub at_done : says done ≡ false
  pub at_counts : (counts : Counts) → says (measured counts) ≡ false
  pub at_distance : (d : Option L) → says (distance d) ≡ false
  pub at_nearest : (p : Option ℕ) → says (nearest p) ≡ false
  pub at_gap : (d : Option L) → says (gap d) ≡ false
  pub at_refusal : (e : Refusal) → says (refused e) ≡ false
  pub at_state : says not_allowed ≡ false

-- nor by the call, if it is a way or a route
abbrev pub Unlisted : {L : Type 0} → (Said L → Bool) → RulerCall → Type 0
Unlisted says (Plain (Way row column group room)) = (cells : List ℕ) → says (way cells) ≡ false
Unlisted says (Route room) = (marks : List ℕ) (count : ℕ) → says (route marks count) ≡ false
Unlisted says _ = Unit {0}

telling_silent : {L X : Type 0} (says : Said L → Bool) (silent : Silent says) (tell : X → Said L) →
    ((x : X) → says (tell x) ≡ false) → (r : Result X Refusal) → says (telling tell r) ≡ false
telling_silent says silent tell none (Ok x) = none x
telling_silent says silent tell none (Err e) = silent.at_refusal e

module _ {L R : Type 0} (says : Said L → Bool) (silent : Silent says) (by : Measurer L R)
    (s : State R) (answer : Said L) (s' : State R) where
  told_silent : {X : Type 0} (tell : X → Said L) → ((x : X) → says (tell x) ≡ false) →
      (r : Result X Refusal) → answer ≡ telling tell r → says answer ≡ false
  told_silent tell none r is = ap says is ∙ telling_silent says silent tell none r

  gap_silent : (sums : Option (L → L → L)) → GapStep by s answer s' sums → says answer ≡ false
  gap_silent None step = absurd step
  gap_silent (Some sum) step = told_silent gap silent.at_gap _ step.told

  route_silent : (sums : Option (L → L → L)) (room : ℕ) →
      ((marks : List ℕ) (count : ℕ) → says (route marks count) ≡ false) →
      RouteStep by s answer s' sums room → says answer ≡ false
  route_silent None room none step = absurd step
  route_silent (Some sum) room none step = told_silent _ (none _) _ step.told

  carried_silent : (call : RulerCall) → Unlisted says call → CarriesOut by s answer s' call →
      says answer ≡ false
  carried_silent (Plain (Edit e)) _ step =
      told_silent {X = Unit {0}} (λ x. done) (λ x. silent.at_done) _ step.1.told
  carried_silent (Plain (Measure group)) _ step = told_silent measured silent.at_counts _ step.told
  carried_silent (Plain (Distance row column group)) _ step =
      told_silent distance silent.at_distance _ step.told
  carried_silent (Plain (Nearest row column group)) _ step =
      told_silent nearest silent.at_nearest _ step.told
  carried_silent (Plain (Way row column group room)) none step = told_silent way none _ step.told
  carried_silent (Plain Seal) _ step =
      told_silent {X = Unit {0}} (λ x. done) (λ x. silent.at_done) _ step.told
  carried_silent (Plain Break) _ step =
      told_silent {X = Unit {0}} (λ x. done) (λ x. silent.at_done) (Ok tt) step.told
  carried_silent Gap _ step = gap_silent by.sums step
  carried_silent (Route room) none step = route_silent by.sums room none step

  unless_silent : (may : Bool) (carried : Type 0) → (carried → says answer ≡ false) →
      Unless by s answer s' may carried → says answer ≡ false
  unless_silent true carried then step = then step
  unless_silent false carried then step = ap says step.0 ∙ silent.at_state

  step_silent : (call : RulerCall) → Unlisted says call → Steps by call answer s s' →
      says answer ≡ false
  step_silent call none step =
      unless_silent (allowed s.is_sealed call) _ (carried_silent call none) step

-- a reply that says no cells leaves the list, one that says no marks leaves the marks, and is told
-- alike with any
unlisted_reply : {L : Type 0} (answer : Reply L) (list marks : List ℕ) →
    says_cells (told answer list marks) ≡ false → ListLeft answer list list
unlisted_reply (reply.Way count) list marks says = absurd (grind arith)
unlisted_reply reply.Done list marks says = record { cells = refl; count = refl }
unlisted_reply (reply.Measured counts) list marks says = record { cells = refl; count = refl }
unlisted_reply (reply.Distance d) list marks says = record { cells = refl; count = refl }
unlisted_reply (reply.Nearest p) list marks says = record { cells = refl; count = refl }
unlisted_reply (reply.Gap d) list marks says = record { cells = refl; count = refl }
unlisted_reply (reply.Route count) list marks says = record { cells = refl; count = refl }
unlisted_reply (reply.Refused e) list marks says = record { cells = refl; count = refl }
unlisted_reply reply.NotAllowed list marks says = record { cells = refl; count = refl }

pub record Unmarked {L : Type 0} (answer : Reply L) (list marks : List ℕ) : Type 0 where
  pub stays : (p : Plate) (table : List ℕ) → table ≡ in_front (marks_told p answer table) table
  pub alike : (others : List ℕ) → told answer list marks ≡ told answer list others

unmarked_reply : {L : Type 0} (answer : Reply L) (list marks : List ℕ) →
    says_marks (told answer list marks) ≡ false → Unmarked answer list marks
unmarked_reply (reply.Route count) list marks says = absurd (grind arith)
unmarked_reply reply.Done list marks says = record { stays = λ _ _. refl; alike = λ _. refl }
unmarked_reply (reply.Measured counts) list marks says =
    record { stays = λ _ _. refl; alike = λ _. refl }
unmarked_reply (reply.Distance d) list marks says =
    record { stays = λ _ _. refl; alike = λ _. refl }
unmarked_reply (reply.Nearest p) list marks says = record { stays = λ _ _. refl; alike = λ _. refl }
unmarked_reply (reply.Gap d) list marks says = record { stays = λ _ _. refl; alike = λ _. refl }
unmarked_reply (reply.Way count) list marks says = record { stays = λ _ _. refl; alike = λ _. refl }
unmarked_reply (reply.Refused e) list marks says = record { stays = λ _ _. refl; alike = λ _. refl }
unmarked_reply reply.NotAllowed list marks says = record { stays = λ _ _. refl; alike = λ _. refl }

silent_cells : {L : Type 0} → Silent {L = L} says_cells
silent_cells = record {
  at_done = refl;
  at_counts = λ _. refl;
  at_distance = λ _. refl;
  at_nearest = λ _. refl;
  at_gap = λ _. refl;
  at_refusal = λ _. refl;
  at_state = refl;
}

silent_marks : {L : Type 0} → Silent {L = L} says_marks
silent_marks = record {
  at_done = refl;
  at_counts = λ _. refl;
  at_distance = λ _. refl;
  at_nearest = λ _. refl;
  at_gap = λ _. refl;
  at_refusal = λ _. refl;
  at_state = refl;
}

module _ {L R : Type 0} (by : Measurer L R) (call : RulerCall) (s s' : State R) (answer : Reply L)
    (list marks : List ℕ) (step : Steps by call (told answer list marks) s s') where
  pub unlisted : Unlisted {L = L} says_cells call → ListLeft answer list list
  unlisted none = unlisted_reply answer list marks
      (step_silent says_cells silent_cells by s (told answer list marks) s' call none step)

  pub unmarked : Unlisted {L = L} says_marks call → Unmarked answer list marks
  unmarked none = unmarked_reply answer list marks
      (step_silent says_marks silent_marks by s (told answer list marks) s' call none step)

-- a call that is no route leaves the marks
pub carried_listing : {L R : Type 0} (by : Measurer L R) (call : RulerCall) {p p' : Plate}
    {answer : Reply L} {cells cells' : List Cell} {groups groups' : List ℕ}
    {first first' second second' : List (MapRecord R)} {queue queue' : List (Offer R)}
    (list list' marks : List ℕ) →
    Unlisted {L = L} says_marks (within (length list) (length marks) call) →
    ListLeft answer list list' →
    Steps by (within (length list) (length marks) call) (told_of p answer list' marks)
    (state p cells groups first second queue) (state p' cells' groups' first' second' queue') →
    CarriedOut by call p (p', answer) cells cells' groups groups' first first' second second' queue
    queue' list list' marks marks
carried_listing by call {p} {p'} {answer} {cells} {cells'} {groups} {groups'} {first} {first'}
    {second} {second'} {queue} {queue'} list list' marks no_marks left step = record {
      step = step;
      on_list = left;
      on_marks = (unmarked by (within (length list) (length marks) call)
          (state p cells groups first second queue)
          (state p' cells' groups' first' second' queue') answer list'
          (take (area (header_of p).size) marks) step no_marks).stays p marks;
    }

-- and one that is no way either leaves the list
pub carried_plainly : {L R : Type 0} (by : Measurer L R) (call : RulerCall) {p p' : Plate}
    {answer : Reply L} {cells cells' : List Cell} {groups groups' : List ℕ}
    {first first' second second' : List (MapRecord R)} {queue queue' : List (Offer R)}
    (list marks : List ℕ) →
    Unlisted {L = L} says_cells (within (length list) (length marks) call) →
    Unlisted {L = L} says_marks (within (length list) (length marks) call) →
    Steps by (within (length list) (length marks) call) (told_of p answer list marks)
    (state p cells groups first second queue) (state p' cells' groups' first' second' queue') →
    CarriedOut by call p (p', answer) cells cells' groups groups' first first' second second' queue
    queue' list list marks marks
carried_plainly by call {p} {p'} {answer} {cells} {cells'} {groups} {groups'} {first} {first'}
    {second} {second'} {queue} {queue'} list marks no_cells no_marks step =
    carried_listing by call list list marks no_marks
    (unlisted by (within (length list) (length marks) call)
    (state p cells groups first second queue)
    (state p' cells' groups' first' second' queue') answer list
    (take (area (header_of p).size) marks) step no_cells) step
