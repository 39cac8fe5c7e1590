-- Where every step is barred, exactly the sources are reached. Assumes nothing.
use Rattle.std.proofs.Common.{◌≡◌, ℕ, true, not, eqb, [], None, sym, ap, ◌∙◌, ⊎_elim, arith}
use Rattle.std.proofs.lemmas.Bool.{both_ways, cases_Bool, cases_eq, cond-false, eq-eqb, ne_eqb}
use Rattle.lengths.specs.Kinds.{Kind, KindLaws}
use Rattle.gauges.specs.Meanings.{Lawful}
use Rattle.gauges.specs.declared.step.Step.{Step}
use Rattle.measuring.specs.Boards.{source_of}
use Rattle.measuring.specs.Paths.{Measuring}
use Rattle.measuring.specs.Rankings.{is_ranked, ranking}
use Rattle.measuring.proofs.Ranked.{start_is, best_comes}
use Rattle.geodesics.specs.Fitting.{Fitting}
use Rattle.geodesics.specs.Least.{BarredEverywhere, OverEveryGauge}
use Rattle.geodesics.proofs.Crossings.{offer_crosses}
use Rattle.geodesics.proofs.RankedPaths.{path-ranked}
use Rattle.geodesics.proofs.Records.{measured_reached}
use Rattle.geodesics.proofs.Ruled.{ranked_among, among_ranked, rule_at, ranking_is}

module _ {L R : Type 0} (m : Measuring L R) (laws : KindLaws m.kind) where
  -- a path of one cell ends at a source
  every_source_ranked : Lawful m.kind m.gauge → Fitting m.board → (j : ℕ) →
      (source_of m.board m.group j ≡ 0 → ⊥) → is_ranked (ranking m) j ≡ true
  every_source_ranked lawful fits j some =
      let source = source_of m.board m.group j in
      let end = path-ranked m laws lawful fits (ranking_is m laws) [] j _ (cond-false (eqb source 0) None _ (ne_eqb source 0 some)) in
      ap (is_ranked (ranking m)) (sym end.here) ∙ among_ranked end.among

  -- with no step to cross, a ranked cell has its start alone
  ranked_source : ((s : Step) → m.gauge.barred s ≡ true) → (j : ℕ) → is_ranked (ranking m) j ≡ true →
      source_of m.board m.group j ≡ 0 → ⊥
  ranked_source barred j ranked none =
      let found = ranked_among (ranking m) j ranked in
      let rule = rule_at found.1 (ranking_is m laws).ranked in
      ⊎_elim
      (λ start. omega (arith, (start_is m found.0.cell start).0, ap (source_of m.board m.group) found.2))
      (λ by. both_ways _ (offer_crosses m by.0 _ by.2).0.unbarred (barred _))
      (best_comes m rule.0 found.0.cell rule.1.made)

  reached_sources : Lawful m.kind m.gauge → Fitting m.board → BarredEverywhere m
  reached_sources lawful fits barred j lt =
      let source = source_of m.board m.group j in
      measured_reached m j lt ∙
      ⊎_elim
      (λ none. ⊎_elim
      (λ ranked. absurd (ranked_source barred j ranked none))
      (λ unranked. unranked ∙ sym (ap not (eq-eqb source 0 none)))
      (cases_Bool (is_ranked (ranking m) j)))
      (λ some. every_source_ranked lawful fits j some ∙ sym (ap not (ne_eqb source 0 some)))
      (cases_eq source 0)

pub sources_only : {L R : Type 0} {kind : Kind L R} → KindLaws kind →
    OverEveryGauge kind BarredEverywhere
sources_only laws g lawful b fits group = reached_sources _ laws lawful fits
