-- What is true of the answer of each call, by the calls before it. Assumes nothing.
use Rattle.std.specs.Prelude.{◌≡◌, ℕ, ◌<◌, ◌⊎◌, Bool, true, false, cond, not, List, [], ◌∷◌, length, map, None, Some, Option, Decides, MatchBool, MatchOption, ◌==◌, nat_lt}
use Rattle.std.specs.List.{range_with_len}
use Rattle.board.specs.Sizes.{area, cell_at}
use Rattle.board.specs.declared.size.Size.{Size}
use Rattle.measuring.specs.Boards.{Board, open_neighbours}
use Rattle.measuring.specs.Sums.{how_many, sum_below}
use Rattle.measuring.specs.Paths.{Measuring, measuring}
use Rattle.geodesics.specs.Least.{NoPath, Shortest}
use Rattle.geodesics.specs.Between.{NoPathBetween, OnShortest, ShortestBetween}
use Rattle.plate.specs.Refusals.{Standing, edit_refusal, gap_refusal, measure_refusal, reading_refusal, route_refusal, seal_refusal}
use Rattle.plate.specs.declared.refusal.Refusal.{Refusal}
use Rattle.plate.specs.declared.refusal.Refusal.TheVariants.{Short}
use Rattle.runs.specs.Measurers.{Measurer}
use Rattle.runs.specs.Said.{Said}
use Rattle.runs.specs.Said.Said.{done, measured, distance, nearest, way, gap, route, refused, not_allowed}
use Rattle.runs.specs.Histories.{Event, ledger, sealed, standing_by}
use Rattle.runs.specs.Links.{WayBack, pad_of}
use Rattle.runs.specs.declared.call.Call.TheVariants.{Edit, Measure, Distance, Nearest, Way, Seal, Break}
use Rattle.runs.specs.declared.call.RulerCall.{RulerCall}
use Rattle.runs.specs.declared.call.RulerCall.TheVariants.{Plain, Gap, Route}

-- the lengths of the lent tables
pub record Rooms : Type 0 where
  pub cells : ℕ
  pub groups : ℕ
  pub first : ℕ
  pub second : ℕ
  pub queue : ℕ

-- the map that is lent for a group: the first for group 1, and the second for any other
abbrev pub map_room : Rooms → ℕ → ℕ
map_room rooms group = cond (group == 1) rooms.first rooms.second

-- whether a sealed plate, or else a draft, allows a call
abbrev pub allowed : Bool → RulerCall → Bool
allowed is_sealed Gap = true
allowed is_sealed (Route room) = true
allowed is_sealed (Plain (Distance row column group)) = true
allowed is_sealed (Plain (Nearest row column group)) = true
allowed is_sealed (Plain (Way row column group room)) = true
allowed is_sealed (Plain Break) = is_sealed
allowed is_sealed (Plain _) = not is_sealed

-- why a call is sent back, by the plate's rules over these tables; only a way that is too long for
-- its list comes after these
abbrev pub sent_back : Rooms → Standing → RulerCall → Option Refusal
sent_back rooms p (Plain (Edit e)) = edit_refusal p.size rooms.cells rooms.groups e
sent_back rooms p (Plain (Measure group)) =
    measure_refusal p.size rooms.cells rooms.groups (map_room rooms group) rooms.queue group
sent_back rooms p (Plain (Distance row column group)) =
    reading_refusal p (map_room rooms group) row column group
sent_back rooms p (Plain (Nearest row column group)) =
    reading_refusal p (map_room rooms group) row column group
sent_back rooms p (Plain (Way row column group room)) =
    reading_refusal p (map_room rooms group) row column group
sent_back rooms p (Plain Seal) = seal_refusal p
sent_back rooms p (Plain Break) = None
sent_back rooms p Gap = gap_refusal p rooms.first rooms.second
sent_back rooms p (Route room) = route_refusal p rooms.first rooms.second room

-- the cells to which there is a path are counted, and the open neighbours of each of them
pub record CountsAre {L R : Type 0} (m : Measuring L R) (answer : Said L) : Type 0 where
  pub reached : ℕ → Bool
  pub right : (j : ℕ) → j < area m.board.size →
      MatchBool (reached j) ((a : L) × Shortest m j a) (NoPath m j)
  pub is : answer ≡ measured (record {
    reached = how_many reached (area m.board.size);
    steps = sum_below (λ j. cond (reached j) (open_neighbours m.board j) 0) (area m.board.size);
  })

-- a length that is answered is the least of a path to the cell, and none is answered exactly where
-- there is no path
pub record DistanceIs {L R : Type 0} (m : Measuring L R) (j : ℕ) (answer : Said L) : Type 0 where
  pub found : Option L
  pub is : answer ≡ distance found
  pub right : MatchOption found (NoPath m j) (Shortest m j)

-- a pad that is answered is the cell's by the measuring rule, and none is answered exactly where
-- there is no path
pub record NearestIs {L R : Type 0} (m : Measuring L R) (j : ℕ) (answer : Said L) : Type 0 where
  pub is : answer ≡ nearest (pad_of m j)
  pub right : MatchOption (pad_of m j) (NoPath m j) (λ p. (a : L) × Shortest m j a)

-- a way is answered where its list holds it, and else 'short'
pub record WayIs {L R : Type 0} (m : Measuring L R) (j room : ℕ) (answer : Said L) : Type 0 where
  pub behind : List ℕ
  pub right : WayBack m j behind
  pub is : answer ≡ cond (nat_lt room (length (j ∷ behind))) (refused Short) (way (j ∷ behind))

-- the way of a cell to which there is no path has no cells
pub record NoWay {L R : Type 0} (m : Measuring L R) (j : ℕ) (answer : Said L) : Type 0 where
  pub none : NoPath m j
  pub is : answer ≡ way []

-- a gap that is answered is the least length of a path between the groups, and none is answered
-- exactly where there is none
pub record GapIs {L R : Type 0} (m : Measuring L R) (other : ℕ) (answer : Said L) : Type 0 where
  pub found : Option L
  pub is : answer ≡ gap found
  pub right : MatchOption found (NoPathBetween m other) (ShortestBetween m other)

-- a cell is marked exactly when it lies on a path between the groups that is as short as any, and
-- the marked ones are counted
pub record RouteIs {L R : Type 0} (m : Measuring L R) (other : ℕ) (answer : Said L) : Type 0 where
  pub on : ℕ → Bool
  pub right : (i : ℕ) → i < area m.board.size → Decides (on i) (OnShortest m other i)
  pub is : answer ≡ route (map (λ i. cond (on i) 1 0) (range_with_len 0 (area m.board.size)))
      (how_many on (area m.board.size))

module _ {L R : Type 0} (by : Measurer L R) (b : Board) where
  -- the board measured from a group
  abbrev pub measured_by : ℕ → Measuring L R
  measured_by group = measuring by.kind by.gauge b group

  -- a call that is carried out, over the board as it stands
  abbrev pub Answers : RulerCall → Said L → Type 0
  Answers (Plain (Measure group)) answer = CountsAre (measured_by group) answer
  Answers (Plain (Distance row column group)) answer =
      DistanceIs (measured_by group) (cell_at b.size row column) answer
  Answers (Plain (Nearest row column group)) answer =
      NearestIs (measured_by group) (cell_at b.size row column) answer
  Answers (Plain (Way row column group room)) answer =
      WayIs (measured_by group) (cell_at b.size row column) room answer
      ⊎ NoWay (measured_by group) (cell_at b.size row column) answer
  Answers Gap answer = GapIs (measured_by 1) 2 answer
  Answers (Route room) answer = RouteIs (measured_by 1) 2 answer
  Answers (Plain _) answer = answer ≡ done

-- a call that the state does not allow, one that is sent back, or one that is carried out
abbrev pub Judged : {L : Type 0} → Bool → Option Refusal → Said L → Type 0 → Type 0
Judged false back answer right = answer ≡ not_allowed
Judged true (Some e) answer right = answer ≡ refused e
Judged true None answer right = right

-- what is true of an answer, by the calls before it
abbrev pub Truth : {L R : Type 0} → Rooms → Size → Measurer L R → List (Event L) → RulerCall →
    Said L → Type 0
Truth rooms size by before call answer =
    Judged (allowed (sealed before) call) (sent_back rooms (standing_by size before) call) answer
    (Answers by (ledger size before) call answer)

-- each answer is true of the plate at that moment
abbrev pub Truthful : {L R : Type 0} → Rooms → Size → Measurer L R → List (Event L) → Type 0
Truthful rooms size by [] = Unit {0}
Truthful rooms size by (e ∷ before) =
    Truthful rooms size by before × Truth rooms size by before e.call e.answer
