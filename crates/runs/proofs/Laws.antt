-- Every list of calls on a plate just opened has answers that are true. Assumes nothing.
use Rattle.std.proofs.Common.{◌≡◌, ℕ, ◌*◌, List, [], ◌∷◌, ◌++◌, take, drop, replicate, sym, refl, ap, ◌∙◌, subst, subst₂, All, arith}
use Rattle.std.proofs.lemmas.Bool.{false≢true}
use Rattle.std.proofs.lemmas.List.{length-replicate, take_at}
use Rattle.std.proofs.lemmas.List.Elements.{All-replicate}
use Rattle.board.specs.Sizes.{area, area_asked}
use Rattle.board.specs.Tables.{bare_cell, pads}
use Rattle.board.specs.declared.cell.Cell.{Cell}
use Rattle.board.specs.declared.size.Dimensions.{Dimensions}
use Rattle.lengths.specs.Kinds.{Kind, KindLaws}
use Rattle.gauges.specs.Meanings.{ByAdding, Crossing, Lawful, Ruling, RulerLaws}
use Rattle.measuring.specs.Boards.{on}
use Rattle.geodesics.proofs.AddedPaths.{adding_lawful}
use Rattle.runs.specs.Measurers.{Measurer, by_gauge, by_ruler}
use Rattle.runs.specs.Said.{Said}
use Rattle.runs.specs.Histories.{Event}
use Rattle.runs.specs.Steps.{CarriesOut, GaugeRuns, Leads, RulerRuns, Starts, State, Steps, TellsTruth, rooms_of}
use Rattle.runs.specs.Truths.{Answers, Judged, Rooms, Truthful, allowed, sent_back}
use Rattle.runs.specs.declared.call.Call.TheVariants.{Edit as AnEdit, Measure, Distance, Nearest, Way, Seal, Break}
use Rattle.runs.specs.declared.call.RulerCall.{RulerCall}
use Rattle.runs.specs.declared.call.RulerCall.TheVariants.{Plain, Gap, Route}
use Rattle.runs.proofs.Moments.{Lawfully, Low, Moment, Next, Onward, Stands, moment_after, moment_by, moment_of}
use Rattle.runs.proofs.Moves.{break_step, edit_step, seal_step, unless}
use Rattle.runs.proofs.Measures.{measure_step}
use Rattle.runs.proofs.Readings.{distance_step, gap_step, nearest_step, route_step, way_step}

module _ {L R : Type 0} (by : Measurer L R) (laws : Lawfully by) where
  module _ (s : State R) (stands : Stands by s) (answer : Said L) (s' : State R) where
    carried : (call : RulerCall) → CarriesOut by s answer s' call → Onward by s answer s' call
    carried (Plain (AnEdit e)) = edit_step by s stands answer s' e
    carried (Plain (Measure group)) = measure_step by laws s stands group answer s'
    carried (Plain (Distance row column group)) =
        distance_step by laws s stands answer s' row column group
    carried (Plain (Nearest row column group)) =
        nearest_step by laws s stands answer s' row column group
    carried (Plain (Way row column group room)) =
        way_step by laws s stands answer s' row column group room
    carried (Plain Seal) = seal_step by s stands answer s'
    carried (Plain Break) = break_step by s stands answer s'
    carried Gap = gap_step by laws s stands answer s' by.sums laws.sums
    carried (Route room) = route_step by laws s stands answer s' by.sums laws.sums room

    next : (call : RulerCall) → Steps by call answer s s' →
        Next by (allowed s.is_sealed call) (sent_back (rooms_of s) s.plate call) call answer s s'
    next call = unless by s stands call answer s' (allowed s.is_sealed call) _ _ (carried call)

  module _ (start : State R) where
    -- all answers so far are true, and the plate with its tables is as the calls so far say
    pub record SoFar (history : List (Event L)) (s : State R) : Type 0 where
      pub truthful : Truthful (rooms_of start) start.plate.size by history
      pub moment : moment_of s ≡ moment_by start.plate.size history
      pub stands : Stands by s
      pub same_rooms : rooms_of s ≡ rooms_of start

    -- what is true of an answer, at a moment
    abbrev TruthAt : Rooms → Moment → RulerCall → Said L → Type 0
    TruthAt rooms now call answer =
        Judged (allowed now.is_sealed call) (sent_back rooms now.plate call) answer
        (Answers by now.board call answer)

    led : SoFar [] start → (history : List (Event L)) (s : State R) → Leads by start history s →
        SoFar history s
    led opened [] s is = subst (SoFar []) (sym is) opened
    led opened (e ∷ before) s (mid, leads, step) =
        let so = led opened before mid leads in
        let now = next mid so.stands e.answer s e.call step in
        record {
          truthful = (
            so.truthful,
            subst₂ (λ rooms at. TruthAt rooms at e.call e.answer) so.same_rooms so.moment now.truth,
          );
          moment = now.moment ∙ ap (moment_after e.call e.answer) so.moment;
          stands = now.stands;
          same_rooms = now.same_rooms ∙ so.same_rooms;
        }

  module _ (asked : Dimensions) (cells : List Cell) (groups : List ℕ) (start : State R)
      (starts : Starts asked cells groups start) where
    opened : SoFar start [] start
    opened =
        let n = area start.plate.size in
        let n_is : area_asked asked ≡ n =
        λ k. sym starts.sized.rows k * sym starts.sized.columns k in
        let front : take n start.cells ≡ replicate n bare_cell =
        ap (take n) (starts.all_bare ∙ ap (λ n. replicate n bare_cell ++ drop n cells) n_is)
        ∙ take_at (replicate n bare_cell) (drop n cells) n (length-replicate n bare_cell) in
        let front_groups : take pads start.groups ≡ replicate pads 0 =
        ap (take pads) starts.no_groups
        ∙ take_at (replicate pads 0) (drop pads groups) pads (length-replicate {A = ℕ} pads 0) in
        record {
          truthful = tt;
          moment = λ k. record {
            plate = record {
              size = start.plate.size;
              first = starts.first_outdated k;
              second = starts.second_outdated k;
            };
            is_sealed = starts.is_draft k;
            board = on start.plate.size (front k) (front_groups k);
          };
          stands = record {
            low = subst (All Low) (sym front) (All-replicate Low n bare_cell (omega arith));
            first_held = λ current. absurd (false≢true (sym starts.first_outdated ∙ current));
            second_held = λ current. absurd (false≢true (sym starts.second_outdated ∙ current));
          };
          same_rooms = refl;
        }

    pub so_far : (history : List (Event L)) (s : State R) → Leads by start history s →
        SoFar start history s
    so_far = led start opened

  tells_truth : TellsTruth by
  tells_truth asked cells groups start starts history s leads =
      (so_far asked cells groups start starts history s leads).truthful

pub lawful_gauge : {L R : Type 0} {kind : Kind L R} → KindLaws kind →
    {g : Crossing L} → Lawful kind g → Lawfully (by_gauge kind g)
lawful_gauge laws lawful = record { kind = laws; gauge = lawful; sums = tt }

pub lawful_ruler : {L R : Type 0} {kind : Kind L R} → KindLaws kind →
    {ruler : Ruling L} → RulerLaws kind ruler →
    {g : Crossing L} → ByAdding ruler g → Lawfully (by_ruler kind g ruler.sum)
lawful_ruler laws {ruler} ruled adds = record {
  kind = laws;
  gauge = adding_lawful laws ruled adds;
  sums = (ruler, refl, ruled, adds);
}

pub gauge_runs : {L R : Type 0} {kind : Kind L R} → KindLaws kind → GaugeRuns kind
gauge_runs {kind} laws g lawful = tells_truth (by_gauge kind g) (lawful_gauge laws lawful)

pub ruler_runs : {L R : Type 0} {kind : Kind L R} → KindLaws kind → RulerRuns kind
ruler_runs {kind} laws ruler ruled g adds =
    tells_truth (by_ruler kind g ruler.sum) (lawful_ruler laws ruled adds)
