-- Calls lead on from call to call. Assumes nothing.
use Rattle.std.proofs.Common.{◌≡◌, ◌<◌, List, [], ◌∷◌, ◌++◌, length, map, get_or, refl, sym, subst}
use Rattle.runs.specs.Measurers.{Measurer}
use Rattle.runs.specs.Runs.{LeadsTo, holding}
use Rattle.runs.specs.Said.{said}
use Rattle.runs.specs.Steps.{Leads, State, Steps}
use Rattle.runs.specs.declared.answer.Answer.{Answer}
use Rattle.runs.specs.declared.call.RulerCall.{RulerCall}
use Rattle.runs.proofs.Happenings.{grown, happened_none, so_far}
use Rattle.runs.proofs.Unmoved.{stays}

module _ {L R C : Type 0} (by : Measurer L R) (start : State R) (as_call : C → RulerCall)
    (calls : List C) where
  -- the calls that are answered lead to this state
  abbrev pub Led : List (Answer L) → State R → Type 0
  Led answers s = Leads by start (so_far as_call calls answers) s

  -- before the first call
  pub led_start : Led [] start
  led_start = subst (λ h. Leads by start h start) (sym (happened_none (map as_call calls) [])) refl

  -- one call more
  pub led_on : (answers : List (Answer L)) (mid s : State R) (call : C) (answer : Answer L) →
      length answers < length calls → call ≡ get_or calls (length answers) call → Led answers mid →
      Steps by (as_call call) (said answer) mid s → Led (answers ++ answer ∷ []) s
  led_on answers mid s call answer less is led step =
      subst (λ h. Leads by start h s) (sym (grown as_call calls answers call answer less is))
      (mid, led, step)

  -- what is left in the tables is what the state says
  pub leads_to : (answers : List (Answer L)) (s : State R) → Led answers s →
      LeadsTo by start (map as_call calls) (map said answers)
      (holding s.cells s.groups s.first s.second s.queue)
  leads_to answers s led = record {
    after = s;
    leads = led;
    cells = refl;
    groups = refl;
    first = refl;
    second = refl;
    queue = refl;
    queue_left = (stays by start (so_far as_call calls answers) s led).queue;
  }
