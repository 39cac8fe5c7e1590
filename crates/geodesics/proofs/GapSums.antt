-- By the four rulers the gap of two measured maps is the least plain sum between the groups.
-- Assumes nothing.
use Rattle.std.proofs.Common.{◌≡◌, ℕ, ◌≤◌, true, Some, None, MatchOption, Option, ap, ◌∙◌, arith}
use Rattle.std.proofs.lemmas.Bool.Decides.{nat_tests}
use Rattle.board.specs.Sizes.{area}
use Rattle.lengths.specs.Kinds.{Kind, KindLaws}
use Rattle.lengths.specs.Wholes.{whole_kind}
use Rattle.lengths.specs.Counteds.{counted_kind}
use Rattle.lengths.specs.WholeLaws.{whole_laws}
use Rattle.lengths.specs.CountedLaws.{counted_laws}
use Rattle.lengths.specs.declared.whole.Whole.{Whole}
use Rattle.lengths.specs.declared.counted.Counted.{Counted}
use Rattle.lengths.specs.declared.counted_row.CountedRow.{CountedRow}
use Rattle.gauges.specs.Meanings.{Crossing, RulerLaws, Ruling, adding}
use Rattle.gauges.specs.Rulers.{whole_ruling, counted_chessboard, chessboard_units}
use Rattle.gauges.specs.RulerLaw.{by_adding, counted_gauge, counted_ruler, whole_gauge, whole_ruler}
use Rattle.gauges.specs.declared.step.Step.{Step}
use Rattle.measuring.specs.Boards.{Board}
use Rattle.measuring.specs.Maps.{measured_map}
use Rattle.measuring.specs.Paths.{measuring}
use Rattle.measuring.specs.MapReadings.{least_sum}
use Rattle.geodesics.specs.Between.{NoPathBetween, ShortestBetween}
use Rattle.geodesics.specs.Fitting.{Fitting}
use Rattle.geodesics.specs.GapSums.{FewestStepsBetween, GapTransforms, LeastSumBetween, NoListBetween, PublishedGap}
use Rattle.geodesics.specs.Least.{NoPath, Shortest}
use Rattle.geodesics.specs.Transform.{FewestSteps, LeastSum, NoList, Transforms}
use Rattle.geodesics.proofs.Formulas.{Alike, chessboard_alike, euclid_alike, three_four_alike}
use Rattle.geodesics.proofs.Gaps.{gap_is_least}
use Rattle.geodesics.proofs.ShortestSums.{between_from, between_parts, end_row, least_between, no_list, no_list_between, no_longer, shortest_row}
use Rattle.geodesics.proofs.Transforms.{published_transform}

-- what is so of the least lengths of paths, to a cell and between the groups, and where there is no
-- path
pub record Summing {L R : Type 0} (kind : Kind L R) (g : Crossing L) (units : Step → ℕ)
    (To : Board → ℕ → ℕ → L → Type 0) (Between : Board → L → Type 0) : Type 0 where
  pub to_cell : (b : Board) → Fitting b → (group j : ℕ) (a : L) →
      Shortest (measuring kind g b group) j a → To b group j a
  pub none_to : (b : Board) → Fitting b → (group j : ℕ) →
      NoPath (measuring kind g b group) j → NoList units b group j
  pub between : (b : Board) → Fitting b → (a : L) → ShortestBetween (measuring kind g b 1) 2 a →
      Between b a
  pub none_between : (b : Board) → Fitting b →
      NoPathBetween (measuring kind g b 1) 2 → NoListBetween units b

abbrev pub WholeSumming : (Step → ℕ) → Type 0
WholeSumming units =
    Summing whole_kind (adding (whole_ruling units)) units
    (λ b group j a. LeastSum units b group j a.units)
    (λ b a. LeastSumBetween units b a.units)

whole_ordered : (a c : Whole) → whole_kind.le a c ≡ true → a.units ≤ c.units
whole_ordered a c le = grind (arith, nat_tests)

pub whole_summing : {units : Step → ℕ} → Transforms units → Alike units → WholeSumming units
whole_summing {units} sums alike =
    let lawful = whole_gauge units alike in record {
      to_cell = λ b fits. shortest_row whole_laws lawful units (LeastSum units) sums b fits;
      none_to = λ b fits. no_list whole_laws lawful units (LeastSum units) sums b fits;
      between = λ b fits. least_between whole_laws lawful units (LeastSum units) sums b fits (λ n. n) (λ _ _ _ sum. sum) whole_ordered;
      none_between = λ b fits. no_list_between whole_laws lawful units (LeastSum units) sums b fits;
    }

abbrev pub CountedSumming : Type 0
CountedSumming =
    Summing counted_kind (adding counted_chessboard) chessboard_units
    (λ b group j a. LeastSum chessboard_units b group j a.units × FewestSteps chessboard_units b group j a.units a.steps)
    (λ b a. LeastSumBetween chessboard_units b a.units × FewestStepsBetween chessboard_units b a.units a.steps)

counted_ordered : (a c : Counted) → counted_kind.le a c ≡ true → a.units ≤ c.units
counted_ordered a c le = grind (arith, nat_tests)

-- lengths with the same units go by their steps
counted_steps : (a c : Counted) → counted_kind.le a c ≡ true → a.units ≡ c.units → a.steps ≤ c.steps
counted_steps a c le same = grind (arith, nat_tests)

abbrev counted_row : Board → ℕ → ℕ → CountedRow → Type 0
counted_row b group j row = LeastSum chessboard_units b group j row.units × FewestSteps chessboard_units b group j row.units row.steps

counted_between : (b : Board) → Fitting b → (a : Counted) →
    ShortestBetween (measuring counted_kind (adding counted_chessboard) b 1) 2 a →
    LeastSumBetween chessboard_units b a.units × FewestStepsBetween chessboard_units b a.units a.steps
counted_between b fits a shortest =
    let own = (end_row counted_laws counted_gauge chessboard_units counted_row published_transform.counted b fits a shortest).1 in (
      least_between counted_laws counted_gauge chessboard_units counted_row published_transform.counted b fits
          (λ row. row.units) (λ _ _ _ both. both.0) counted_ordered a shortest,
      record {
        end = shortest.end;
        cells = own.cells;
        shortest = between_from chessboard_units b shortest.end own.cells _ shortest.path.1 own.shortest;
        steps = own.steps;
        fewest = λ j others e.
            let other = no_longer counted_laws counted_gauge chessboard_units counted_row published_transform.counted b fits
            a shortest j others a.units e in
            let plain = (between_parts chessboard_units b j others a.units e).1 in
            let same : a.units ≡ other.length.units = omega (arith, other.row.0.least others a.units plain, counted_ordered a other.length other.le) in
            let few = other.row.1.fewest others (plain ∙ ap Some same) in
            omega (arith, counted_steps a other.length other.le same);
      },
    )

pub counted_summing : CountedSumming
counted_summing = record {
  to_cell = λ b fits. shortest_row counted_laws counted_gauge chessboard_units counted_row published_transform.counted b fits;
  none_to = λ b fits. no_list counted_laws counted_gauge chessboard_units counted_row published_transform.counted b fits;
  between = counted_between;
  none_between = λ b fits. no_list_between counted_laws counted_gauge chessboard_units counted_row published_transform.counted b fits;
}

pub match_on : {A : Type 0} (o : Option A) {P P' : Type 0} {Q Q' : A → Type 0} →
    (P → P') → ((a : A) → Q a → Q' a) → MatchOption o P Q → MatchOption o P' Q'
match_on None none some holds = none holds
match_on (Some a) none some holds = some a holds

gap_sums : {L R : Type 0} {kind : Kind L R} → KindLaws kind → (ruler : Ruling L) →
    RulerLaws kind ruler →
    {units : Step → ℕ} {To : Board → ℕ → ℕ → L → Type 0} {Between : Board → L → Type 0} → Summing kind (adding ruler) units To Between → (b : Board) → Fitting b →
    let one = measured_map (measuring kind (adding ruler) b 1) in
    let two = measured_map (measuring kind (adding ruler) b 2) in
    MatchOption (least_sum kind ruler.sum one two (area b.size)) (NoListBetween units b) (Between b)
gap_sums laws ruler ruled summing b fits =
    match_on _ (summing.none_between b fits) (summing.between b fits) (gap_is_least laws ruler ruled (adding ruler) (by_adding ruler) b fits)

whole_gap : {units : Step → ℕ} → Transforms units → Alike units → GapTransforms units
whole_gap {units} sums alike = gap_sums whole_laws (whole_ruling units) (whole_ruler units alike) (whole_summing sums alike)

pub published_gap : PublishedGap
published_gap = record {
  chessboard = whole_gap published_transform.chessboard chessboard_alike;
  three_four = λ w light. whole_gap (published_transform.three_four w light) (three_four_alike w);
  euclid = whole_gap published_transform.euclid euclid_alike;
  counted = gap_sums counted_laws counted_chessboard counted_ruler counted_summing;
}
