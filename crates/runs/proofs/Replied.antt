-- What a call leaves, by values that are equal to these, by a ruler in the place of its gauge, and
-- by what is said. Assumes nothing.
use Rattle.std.proofs.Common.{◌≡◌, ℕ, Bool, true, false, List, [], length, take, Option, sym, refl, subst}
use Rattle.std.proofs.Math.Path.{transport}
use Rattle.board.specs.Sizes.{area}
use Rattle.board.specs.declared.cell.Cell.{Cell}
use Rattle.board.specs.declared.record.MapRecord.{MapRecord}
use Rattle.lengths.specs.Kinds.{Kind}
use Rattle.gauges.specs.Meanings.{Crossing}
use Rattle.plate.specs.declared.refusal.Refusal.{Refusal}
use Rattle.queue.specs.declared.offer.Offer.{Offer}
use Rattle.runs.specs.Measurers.{Measurer, by_gauge}
use Rattle.runs.specs.Plates.{header_of, state}
use Rattle.runs.specs.Replies.{CarriedOut, told, way_in_room, within}
use Rattle.runs.specs.Said.{Said}
use Rattle.runs.specs.Steps.{CarriesOut, Does, State, Steps, Unless}
use Rattle.runs.specs.Truths.{allowed}
use Rattle.runs.specs.declared.call.Call.{Call}
use Rattle.runs.specs.declared.call.Call.TheVariants.{Edit, Measure, Distance, Nearest, Way, Seal, Break}
use Rattle.runs.specs.declared.call.RulerCall.{RulerCall}
use Rattle.runs.specs.declared.call.RulerCall.TheVariants.{Plain}
use Rattle.runs.specs.declared.plates.Plate.{Plate}
use Rattle.runs.specs.declared.reply.Reply.{Reply}
use Rattle.runs.proofs.Unlisted.{says_marks, unmarked, Unlisted}

-- by values that are equal to these
pub carried : {L R : Type 0} {by : Measurer L R} {p p' q : Plate} {a b : Reply L}
    {cells cells' cells'' : List Cell} {groups groups' groups'' : List ℕ}
    {first first' first'' second second' second'' : List (MapRecord R)}
    {queue queue' queue'' : List (Offer R)} {list list' list'' marks marks' : List ℕ}
    {call asked : Call} →
    asked ≡ call → q ≡ p' → b ≡ a → cells'' ≡ cells' → groups'' ≡ groups' → first'' ≡ first' →
    second'' ≡ second' → queue'' ≡ queue' → list'' ≡ list' →
    CarriedOut by (Plain call) p (p', a) cells cells' groups groups' first first' second second'
    queue queue' list list' marks marks' →
    CarriedOut by (Plain asked) p (q, b) cells cells'' groups groups'' first first'' second second''
    queue queue'' list list'' marks marks'
carried {by = by} {p = p} {cells = cells} {groups = groups} {first = first} {second = second}
    {queue = queue} {list = list} {marks = marks} {marks' = marks'} is ep ea ec eg ef es eq el =
    transport (λ k. CarriedOut by (Plain (sym is k)) p (sym ep k, sym ea k) cells (sym ec k) groups
    (sym eg k) first (sym ef k) second (sym es k) queue (sym eq k) list (sym el k) marks marks')

module _ {L R : Type 0} (kind : Kind L R) (g : Crossing L) (sums : Option (L → L → L)) where
  -- with sums
  abbrev pub summing : Measurer L R
  summing = record { kind = kind; gauge = g; sums = sums }

  module _ (s : State R) (answer : Said L) (s' : State R) where
    does_too : (back : Option Refusal) (then : State R) →
        Does (by_gauge kind g) s answer s' back then → Does summing s answer s' back then
    does_too back then step = record { told = step.told; state = step.state }

    carries_too : (call : Call) → CarriesOut (by_gauge kind g) s answer s' (Plain call) →
        CarriesOut summing s answer s' (Plain call)
    carries_too (Edit e) step = (step.0, does_too _ _ step.1)
    carries_too (Measure group) step =
        record {
          queue = step.queue;
          kept = step.kept;
          long = step.long;
          told = step.told;
          state = step.state;
        }
    carries_too (Distance row column group) step = record { told = step.told; state = step.state }
    carries_too (Nearest row column group) step = record { told = step.told; state = step.state }
    carries_too (Way row column group room) step = record { told = step.told; state = step.state }
    carries_too Seal step = does_too _ _ step
    carries_too Break step = does_too _ _ step

    unless_too : (may : Bool) (carried carried' : Type 0) → (carried → carried') →
        Unless (by_gauge kind g) s answer s' may carried → Unless summing s answer s' may carried'
    unless_too true carried carried' too step = too step
    unless_too false carried carried' too step = step

    -- a plain call asks for no sums
    steps_too : (call : Call) → Steps (by_gauge kind g) (Plain call) answer s s' →
        Steps summing (Plain call) answer s s'
    steps_too call = unless_too (allowed s.is_sealed (Plain call)) _ _ (carries_too call)

  -- nor for marks
  plain_unmarked : (call : Call) → Unlisted {L = L} says_marks (Plain call)
  plain_unmarked (Way row column group room) = λ cells. refl
  plain_unmarked (Edit e) = tt
  plain_unmarked (Measure group) = tt
  plain_unmarked (Distance row column group) = tt
  plain_unmarked (Nearest row column group) = tt
  plain_unmarked Seal = tt
  plain_unmarked Break = tt

  pub carried_too : (call : Call) (p : Plate) (r : Plate × Reply L) (cells cells' : List Cell)
      (groups groups' : List ℕ) (first first' second second' : List (MapRecord R))
      (queue queue' : List (Offer R)) (list list' marks : List ℕ) →
      CarriedOut (by_gauge kind g) (Plain call) p r cells cells' groups groups' first first'
      second second' queue queue' list list' [] [] →
      CarriedOut summing (Plain call) p r cells cells' groups groups' first first'
      second second' queue queue' list list' marks marks
  carried_too call p r cells cells' groups groups' first first' second second' queue queue'
      list list' marks made =
      let s = state p cells groups first second queue in
      let s' = state r.0 cells' groups' first' second' queue' in
      let n = area (header_of p).size in
      let asked = way_in_room (length list) call in
      let silent = unmarked (by_gauge kind g) (Plain asked) s s' r.1 list' (take n []) made.step
      (plain_unmarked asked) in
      record {
        step = subst (λ answer. Steps summing (Plain asked) answer s s')
            (silent.alike (take n marks))
            (steps_too s (told r.1 list' (take n [])) s' asked made.step);
        on_list = made.on_list;
        on_marks = silent.stays p marks;
      }

-- a step by what is said, with as much room
pub said_alike : {L R : Type 0} (by : Measurer L R) (s s' : State R) (call : RulerCall)
    (a a' : Said L) (n n' m m' : ℕ) → a' ≡ a → n' ≡ n → m' ≡ m → Steps by (within n m call) a s s' →
    Steps by (within n' m' call) a' s s'
said_alike by s s' call a a' n n' m m' ea en em =
    transport (λ k. Steps by (within (sym en k) (sym em k) call) (sym ea k) s s')
