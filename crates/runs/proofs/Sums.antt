-- The distances and gaps of a run are least lengths of paths on the ledger, and by the four rulers
-- those are least plain sums. Assumes nothing.
use Rattle.std.proofs.Common.{ℕ, Bool, true, [], ◌∷◌, Some, None, Option, sym, ap, subst}
use Rattle.board.specs.Sizes.{cell_at}
use Rattle.lengths.specs.Kinds.{Kind, KindLaws}
use Rattle.lengths.specs.WholeLaws.{whole_laws}
use Rattle.lengths.specs.CountedLaws.{counted_laws}
use Rattle.gauges.specs.Meanings.{RulerLaws, Ruling, adding}
use Rattle.gauges.specs.Rulers.{whole_ruling, counted_chessboard}
use Rattle.gauges.specs.RulerLaw.{by_adding, counted_ruler, ruler_lawful, whole_ruler}
use Rattle.gauges.specs.declared.step.Step.{Step}
use Rattle.measuring.specs.Boards.{Board}
use Rattle.geodesics.specs.Fitting.{Fitting}
use Rattle.geodesics.specs.GapSums.{NoListBetween}
use Rattle.geodesics.specs.Transform.{NoList, Transforms}
use Rattle.geodesics.proofs.Formulas.{Alike, chessboard_alike, euclid_alike, three_four_alike}
use Rattle.geodesics.proofs.GapSums.{Summing, counted_summing, match_on, whole_summing}
use Rattle.geodesics.proofs.Transforms.{published_transform}
use Rattle.plate.specs.declared.refusal.Refusal.{Refusal}
use Rattle.runs.specs.Histories.{ledger, sealed, standing_by}
use Rattle.runs.specs.Measurers.{Measurer, by_gauge, by_ruler}
use Rattle.runs.specs.Said.{Said}
use Rattle.runs.specs.Steps.{rooms_of}
use Rattle.runs.specs.Sums.{DistanceSays, GapSays, PublishedRuns, SumSays, TellsSums, TellsSumsBy, WholeRuns}
use Rattle.runs.specs.Truths.{Answers, DistanceIs, GapIs, Judged, allowed, measured_by, sent_back}
use Rattle.runs.specs.declared.call.Call.TheVariants.{Distance}
use Rattle.runs.specs.declared.call.RulerCall.{RulerCall}
use Rattle.runs.specs.declared.call.RulerCall.TheVariants.{Plain, Gap}
use Rattle.runs.proofs.Laws.{lawful_gauge, lawful_ruler, so_far}
use Rattle.runs.proofs.Moments.{Lawfully, board_fits}

module _ {L R : Type 0} (by : Measurer L R) {units : Step → ℕ} {To : Board → ℕ → ℕ → L → Type 0}
    {Between : Board → L → Type 0}
    (summing : Summing by.kind by.gauge units To Between) where
  module _ (b : Board) (fits : Fitting b) where
    distance_says : (group j : ℕ) (back : Option Refusal) (answer : Said L) →
        Judged true back answer (DistanceIs (measured_by by b group) j answer) →
        DistanceSays answer (NoList units b group j) (To b group j)
    distance_says group j (Some e) answer is =
        subst (λ answer. DistanceSays answer (NoList units b group j) (To b group j)) (sym is) tt
    distance_says group j None answer right =
        subst (λ answer. DistanceSays answer (NoList units b group j) (To b group j)) (sym right.is)
        (match_on right.found
        (summing.none_to b fits group j) (summing.to_cell b fits group j) right.right)

    gap_says : (back : Option Refusal) (answer : Said L) →
        Judged true back answer (GapIs (measured_by by b 1) 2 answer) →
        GapSays answer (NoListBetween units b) (Between b)
    gap_says (Some e) answer is =
        subst (λ answer. GapSays answer (NoListBetween units b) (Between b)) (sym is) tt
    gap_says None answer right =
        subst (λ answer. GapSays answer (NoListBetween units b) (Between b)) (sym right.is)
        (match_on right.found (summing.none_between b fits) (summing.between b fits) right.right)

    -- a plate in either state allows distance and gap
    sum_says : (is_sealed : Bool) (call : RulerCall) (back : Option Refusal) (answer : Said L) →
        Judged (allowed is_sealed call) back answer (Answers by b call answer) →
        SumSays units To Between b call answer
    sum_says is_sealed (Plain (Distance row column group)) back answer judged =
        distance_says group (cell_at b.size row column) back answer judged
    sum_says is_sealed Gap back answer judged = gap_says back answer judged
    sum_says is_sealed _ back answer judged = tt

  -- each answer is true, over a ledger with heights of 16 bits
  tells : Lawfully by → TellsSums units To Between by
  tells laws asked cells groups start starts [] s leads = tt
  tells laws asked cells groups start starts (e ∷ before) s (mid, leads, step) =
      let size = start.plate.size in
      let so = so_far by laws asked cells groups start starts before mid leads in
      let all = so_far by laws asked cells groups start starts (e ∷ before) s (mid, leads, step) in
      let fits = subst Fitting (ap (λ now. now.board) so.moment) (board_fits by mid so.stands) in (
        tells laws asked cells groups start starts before mid leads,
        sum_says (ledger size before) fits (sealed before) e.call
            (sent_back (rooms_of start) (standing_by size before) e.call) e.answer all.truthful.1,
      )

module _ {L R : Type 0} {kind : Kind L R} (laws : KindLaws kind) where
  tells_both : {units : Step → ℕ} {To : Board → ℕ → ℕ → L → Type 0} {Between : Board → L → Type 0}
      (ruler : Ruling L) → RulerLaws kind ruler → Summing kind (adding ruler) units To Between →
      TellsSumsBy units To Between kind ruler
  tells_both ruler ruled summing = (
    tells (by_gauge kind (adding ruler)) summing (lawful_gauge laws (ruler_lawful laws ruled)),
    tells (by_ruler kind (adding ruler) ruler.sum) summing (lawful_ruler laws ruled (by_adding ruler)),
  )

whole_runs : {units : Step → ℕ} → Transforms units → Alike units → WholeRuns units
whole_runs {units} sums alike =
    tells_both whole_laws (whole_ruling units) (whole_ruler units alike) (whole_summing sums alike)

pub published_runs : PublishedRuns
published_runs = record {
  chessboard = whole_runs published_transform.chessboard chessboard_alike;
  three_four = λ w light. whole_runs (published_transform.three_four w light) (three_four_alike w);
  euclid = whole_runs published_transform.euclid euclid_alike;
  counted = tells_both counted_laws counted_chessboard counted_ruler counted_summing;
}
