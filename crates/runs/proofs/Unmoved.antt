-- No call changes the size of a plate, and only measuring writes the queue. Assumes nothing.
use Rattle.std.proofs.Common.{◌≡◌, Bool, true, false, ◌||◌, List, [], ◌∷◌, drop, Some, None, Option, refl, sym, ap, ◌∙◌, subst}
use Rattle.std.proofs.lemmas.Bool.{or_parts}
use Rattle.std.proofs.lemmas.Bool.{false≢true}
use Rattle.board.specs.Outcomes.{after, answering}
use Rattle.measuring.specs.Maps.{counts_of, entries_needed}
use Rattle.measuring.specs.Paths.{Measuring}
use Rattle.plate.specs.Maps.{Kept}
use Rattle.plate.specs.declared.refusal.Refusal.{Refusal}
use Rattle.queue.specs.declared.offer.Offer.{Offer}
use Rattle.runs.specs.Measurers.{Measurer}
use Rattle.runs.specs.Said.{Said, accepted}
use Rattle.runs.specs.Said.Said.{measured}
use Rattle.runs.specs.Histories.{Event, measured_ever, measured_now}
use Rattle.runs.specs.Runs.{QueueLeft}
use Rattle.runs.specs.Steps.{CarriesOut, Does, GapStep, Leads, Reads, RouteStep, State, Steps, Unless, after_measuring, telling}
use Rattle.runs.specs.Truths.{allowed}
use Rattle.runs.specs.declared.call.Call.TheVariants.{Edit, Measure, Distance, Nearest, Way, Seal, Break}
use Rattle.runs.specs.declared.call.RulerCall.{RulerCall}
use Rattle.runs.specs.declared.call.RulerCall.TheVariants.{Plain, Gap, Route}

-- what stays from state to state, where measuring was done or not
pub record Stays {R : Type 0} (was_measured : Bool) (s s' : State R) : Type 0 where
  pub size : s'.plate.size ≡ s.plate.size
  pub queue : QueueLeft (entries_needed s.plate.size) was_measured s.queue s'.queue

unwritten : {R : Type 0} (b : Bool) (s s' : State R) → s'.plate.size ≡ s.plate.size →
    s'.queue ≡ s.queue → Stays b s s'
unwritten b s s' size queue = record {
  size = size;
  queue = record { behind = ap (drop (entries_needed s.plate.size)) queue; unused = λ _. queue };
}

-- a call that does what writes no queue
undone : {R : Type 0} (b : Bool) (back : Option Refusal) (s then : State R) →
    then.plate.size ≡ s.plate.size → then.queue ≡ s.queue → Stays b s (after back s then)
undone b None s then size queue = unwritten b s then size queue
undone b (Some e) s then size queue = unwritten b s s refl refl

-- a group that is measured
measured_stays : {L R : Type 0} (m : Measuring L R) (back : Option Refusal) (s : State R)
    (answer : Said L) (queue : List (Offer R)) →
    answer ≡ telling measured (answering back (counts_of m)) →
    Kept back (entries_needed s.plate.size) s.queue queue →
    Stays (accepted answer) s (after back s (after_measuring m queue s))
measured_stays m None s answer queue told kept = record {
  size = refl;
  queue = record {
    behind = kept;
    unused = λ none. absurd (false≢true (sym none ∙ ap accepted told));
  };
}
measured_stays m (Some e) s answer queue told kept = unwritten (accepted answer) s s refl refl

module _ {L R : Type 0} (by : Measurer L R) (s : State R) (answer : Said L) (s' : State R) where
  does : (b : Bool) (back : Option Refusal) (then : State R) → then.plate.size ≡ s.plate.size →
      then.queue ≡ s.queue → Does by s answer s' back then → Stays b s s'
  does b back then size queue step =
      subst (Stays b s) (sym step.state) (undone b back s then size queue)

  reads : (b : Bool) {X : Type 0} (tell : X → Said L) (result : _) →
      Reads by s answer s' tell result → Stays b s s'
  reads b tell result step = subst (Stays b s) (sym step.state) (unwritten b s s refl refl)

  carried_stays : (call : RulerCall) → CarriesOut by s answer s' call →
      Stays (measured_now call answer) s s'
  carried_stays (Plain (Edit e)) step = does false _ _ refl refl step.1
  carried_stays (Plain (Measure group)) step =
      subst (Stays (accepted answer) s) (sym step.state)
      (measured_stays _ _ s answer step.queue step.told step.kept)
  carried_stays (Plain (Distance row column group)) step = reads false _ _ step
  carried_stays (Plain (Nearest row column group)) step = reads false _ _ step
  carried_stays (Plain (Way row column group room)) step = reads false _ _ step
  carried_stays (Plain Seal) step = does false _ _ refl refl step
  carried_stays (Plain Break) step = does false _ _ refl refl step
  carried_stays Gap step = gap_stays by.sums step
    where
      gap_stays : (sums : Option (L → L → L)) → GapStep by s answer s' sums → Stays false s s'
      gap_stays None step = absurd step
      gap_stays (Some sum) step = reads false _ _ step
  carried_stays (Route room) step = route_stays by.sums step
    where
      route_stays : (sums : Option (L → L → L)) → RouteStep by s answer s' sums room →
          Stays false s s'
      route_stays None step = absurd step
      route_stays (Some sum) step = reads false _ _ step

  unless_stays : (b may : Bool) (carried : Type 0) → (carried → Stays b s s') →
      Unless by s answer s' may carried → Stays b s s'
  unless_stays b true carried then step = then step
  unless_stays b false carried then step =
      subst (Stays b s) (sym step.1) (unwritten b s s refl refl)

  step_stays : (call : RulerCall) → Steps by call answer s s' →
      Stays (measured_now call answer) s s'
  step_stays call = unless_stays (measured_now call answer) (allowed s.is_sealed call) _
      (carried_stays call)

-- one call after another
stays_on : {R : Type 0} (now before : Bool) (s0 s1 s2 : State R) → Stays before s0 s1 →
    Stays now s1 s2 → Stays (now || before) s0 s2
stays_on now before s0 s1 s2 first then =
    let then_left = subst (λ size. QueueLeft (entries_needed size) now s1.queue s2.queue) first.size
    then.queue in
    record {
      size = then.size ∙ first.size;
      queue = record {
        behind = then_left.behind ∙ first.queue.behind;
        unused = λ none. then_left.unused (or_parts now before none).0
            ∙ first.queue.unused (or_parts now before none).1;
      };
    }

pub stays : {L R : Type 0} (by : Measurer L R) (start : State R) (history : List (Event L))
    (s : State R) → Leads by start history s → Stays (measured_ever history) start s
stays by start [] s leads =
    subst (Stays false start) (sym leads) (unwritten false start start refl refl)
stays by start (e ∷ before) s leads =
    stays_on (measured_now e.call e.answer) (measured_ever before) start leads.0 s
    (stays by start before leads.0 leads.1) (step_stays by leads.0 e.answer s e.call leads.2)
