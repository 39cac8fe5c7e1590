-- What a place for an answer holds before its call is made. Assumes nothing.
use Rattle.std.specs.Prelude.{◌≡◌, ℕ, ◌≤◌, ◌<◌, true, false, List, [], length, min, slice_index_or}
use Rattle.board.specs.Sizes.{area_asked, bad_size}
use Rattle.board.specs.declared.size.Dimensions.{Dimensions}
use Rattle.runs.specs.Replies.{within}
use Rattle.runs.specs.declared.answer.Answer.{Answer}
use Rattle.runs.specs.declared.answer.Answer.TheVariants as answer
use Rattle.runs.specs.declared.call.Call.TheVariants.{Way}
use Rattle.runs.specs.declared.call.RulerCall.{RulerCall}
use Rattle.runs.specs.declared.call.RulerCall.TheVariants.{Plain, Route}

-- the list, and the marks, that lie in a place
abbrev pub list_of : {L : Type 0} → Answer L → List ℕ
list_of (answer.Way cells) = cells.items
list_of _ = []

abbrev pub marks_of : {L : Type 0} → Answer L → List ℕ
marks_of (answer.Route marks count) = marks.items
marks_of _ = []

-- how many cells, and marks, a call asks for
abbrev pub cells_asked : RulerCall → ℕ
cells_asked (Plain (Way row column group room)) = room
cells_asked _ = 0

abbrev pub marks_asked : RulerCall → ℕ
marks_asked (Route room) = room
marks_asked _ = 0

-- a place with the cells and the marks that its call asks for, or n where those are fewer
pub record PlaceFor {L : Type 0} (n : ℕ) (call : RulerCall) (place : Answer L) : Type 0 where
  pub list : length (list_of place) ≡ min (cells_asked call) n
  pub marks : length (marks_of place) ≡ min (marks_asked call) n

-- the call with no more room than its place has
abbrev pub within_place : {L : Type 0} → Answer L → RulerCall → RulerCall
within_place place call = within (length (list_of place)) (length (marks_of place)) call

-- the places from one number up to another are for their calls
abbrev pub PlacesFrom : {L C : Type 0} → (C → RulerCall) → ℕ → ℕ → ℕ → List C → List (Answer L) →
    Type 0
PlacesFrom {L} {C} as_call from end n calls places =
    (i : ℕ) (call : C) (place : Answer L) → from ≤ i → i < end →
    PlaceFor n (as_call (slice_index_or calls i call)) (slice_index_or places i place)

-- a place for each call
pub record PlacesFor {L C : Type 0} (as_call : C → RulerCall) (n : ℕ) (calls : List C)
    (places : List (Answer L)) : Type 0 where
  pub long : length places ≡ length calls
  pub fit : PlacesFrom as_call 0 (length calls) n calls places

-- the places on a plate of these dimensions; none where no plate has them
pub record PlacesOn {L C : Type 0} (as_call : C → RulerCall) (asked : Dimensions) (calls : List C)
    (places : List (Answer L)) : Type 0 where
  pub none : bad_size asked ≡ true → places ≡ []
  pub fit : bad_size asked ≡ false → PlacesFor as_call (area_asked asked) calls places
