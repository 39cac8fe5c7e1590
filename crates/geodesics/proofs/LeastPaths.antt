-- The lengths of a measured map are least, and its links are ways. Assumes nothing.
use Rattle.std.proofs.Common.{◌≡◌, ℕ, zero, suc, ◌≤◌, Bool, true, false, eqb, List, [], ◌∷◌, length, get_or, Some, None, MatchBool, sym, refl, ap, ◌∙◌, subst, ⊎_elim, arith}
use mathlib.Core.List.Memᴰ.{cases_cons as among_cases}
use mathlib.Core.List.Memᴰ.{head as first}
use mathlib.Core.List.Memᴰ.{not-nil as among_none}
use mathlib.Core.List.Memᴰ.{tail as later}
use mathlib.Core.List.{Memᴰ as Among}
use Rattle.std.proofs.lemmas.List.{get_or_default}
use Rattle.std.proofs.lemmas.Bool.{both_ways, cond-true, cond-false, eq-eqb, ne_eqb}
use Rattle.board.specs.Sizes.{area}
use Rattle.lengths.specs.Kinds.{Kind, KindLaws}
use Rattle.gauges.specs.Meanings.{Lawful}
use Rattle.measuring.specs.Boards.{source_of}
use Rattle.measuring.specs.Paths.{Measuring, onward, Path}
use Rattle.measuring.specs.Rankings.{Bid, start, offer, is_ranked, ranking}
use Rattle.measuring.specs.Rules.{RanksNext}
use Rattle.measuring.specs.Maps.{ranked_record, measured_map}
use Rattle.measuring.specs.Ways.{then, way_within}
use Rattle.measuring.proofs.Ranked.{start_is, best_comes, at_most_area, ranking_sound}
use Rattle.geodesics.specs.Fitting.{Fitting}
use Rattle.geodesics.specs.Unique.{ByRule}
use Rattle.geodesics.specs.Least.{measured_record, LeastLengths, Way, LinksAreWays, OverEveryGauge}
use Rattle.geodesics.proofs.Crossings.{crosses_onward, offer_crosses}
use Rattle.geodesics.proofs.RankedPaths.{path-ranked}
use Rattle.geodesics.proofs.Records.{record_of_ranked, measured_is, reached_within, measured_reached}
use Rattle.geodesics.proofs.Ruled.{ranked_among, among_ranked, rule_at, ranking_is}

-- the way of at most n cells along the links from a ranked cell: a path of its length, from a
-- source that has its pad
record Trail {L R : Type 0} (m : Measuring L R) (n : ℕ) (r : Bid L) : Type 0 where
  cells : List ℕ
  linked : way_within (m.kind.encode m.kind.zero) (measured_map m) n r.cell ≡ Some (r.cell ∷ cells)
  path : Path m r.cell cells r.length
  source : source_of m.board m.group (get_or (r.cell ∷ cells) (length cells) r.cell) ≡ r.pad

module _ {L R : Type 0} (m : Measuring L R) where
  -- the map has the cell's own record
  abbrev Shown : Bid L → Type 0
  Shown r = (rank : ℕ) × (measured_record m r.cell ≡ ranked_record m.kind rank r)

  -- a source's way is itself
  trail_of_source : (n : ℕ) (r : Bid L) → Shown r → start m r.cell ≡ Some r → Trail m (suc n) r
  unfolding way_within
  trail_of_source n r shown start =
      let is = start_is m r.cell start in
      let link : (measured_record m r.cell).link ≡ r.cell = ap (λ x. x.link) shown.1 ∙ ap (λ x. x.link) is.1 in
      record {
        cells = [];
        linked =
            cond-true (measured_record m r.cell).reached _ None (ap (λ x. x.reached) shown.1) ∙
            cond-true (eqb (measured_record m r.cell).link r.cell) _ _ (eq-eqb _ r.cell link);
        path =
            cond-false (eqb (source_of m.board m.group r.cell) 0) None _ (ne_eqb (source_of m.board m.group r.cell) 0 (omega (arith, is.0))) ∙
            ap Some (sym (ap (λ x. x.length) is.1));
        source = sym (ap (λ x. x.pad) is.1);
      }

  -- a way goes on to the cell that made the offer
  trail_of_offer : (n : ℕ) (r s : Bid L) → Shown r → (s.cell ≡ r.cell → ⊥) →
      offer m s r.cell ≡ Some r → Trail m n s → Trail m (suc n) r
  unfolding way_within
  trail_of_offer n r s shown other offered rest =
      let across = offer_crosses m s r.cell offered in
      let link : (measured_record m r.cell).link ≡ s.cell = ap (λ x. x.link) shown.1 ∙ ap (λ x. x.link) across.1 in
      record {
        cells = s.cell ∷ rest.cells;
        linked =
            cond-true (measured_record m r.cell).reached _ None (ap (λ x. x.reached) shown.1) ∙
            cond-false (eqb (measured_record m r.cell).link r.cell) _ _ (ne_eqb _ r.cell (λ e. other (sym link ∙ e))) ∙
            ap (λ i. then r.cell (way_within (m.kind.encode m.kind.zero) (measured_map m) n i)) link ∙
            ap (then r.cell) rest.linked;
        path =
            ap (onward m s.cell r.cell) rest.path ∙
            crosses_onward m s.cell r.cell s.length across.0 ∙
            ap Some (sym (ap (λ x. x.length) across.1));
        source =
            ap (source_of m.board m.group) (get_or_default (s.cell ∷ rest.cells) (length rest.cells) r.cell s.cell (omega arith)) ∙
            rest.source ∙
            sym (ap (λ x. x.pad) across.1);
      }

  trail_of_next : (n : ℕ) {r : Bid L} {rs : List (Bid L)} → RanksNext m rs r → Shown r →
      ((s : Bid L) → Among s rs → Trail m n s) → Trail m (suc n) r
  trail_of_next n {r} {rs} rule shown before =
      ⊎_elim
      (trail_of_source n r shown)
      (λ by.
      let other = λ (e : by.0.cell ≡ r.cell). both_ways _ rule.unranked (ap (is_ranked rs) (sym e) ∙ among_ranked by.1) in
      trail_of_offer n r by.0 shown other by.2 (before _ by.1))
      (best_comes m rs r.cell rule.made)

  -- a cell links to one that was ranked before it, so the way has at most as many cells as were ranked
  trails : (rs : List (Bid L)) → ByRule m rs → ((s : Bid L) → Among s rs → Shown s) → (n : ℕ) →
      length rs ≤ n → (r : Bid L) → Among r rs → Trail m n r
  trails [] rule shown n le r among = absurd (among_none among)
  trails (t ∷ rs) rule shown zero le r among = absurd (omega arith)
  trails (t ∷ rs) rule shown (suc n) le r among =
      let shown-before = λ (s : Bid L) (there : Among s rs). shown s (later there) in
      ⊎_elim
      (λ is. subst (Trail m (suc n)) (sym is) (trail_of_next n rule.1 (shown t (first refl)) (trails rs rule.0 shown-before n (omega arith))))
      (λ before. trails rs rule.0 shown-before (suc n) (omega arith) r before)
      (among_cases among)

pub when_cases : {P Q : Type 0} (b : Bool) → (b ≡ true → P) → (b ≡ false → Q) → MatchBool b P Q
when_cases true is isnt = is refl
when_cases false is isnt = isnt refl

module _ {L R : Type 0} (m : Measuring L R) (laws : KindLaws m.kind) where
  shown : (r : Bid L) → Among r (ranking m) → Shown m r
  shown r among =
      let found = record_of_ranked m.kind among (ranking_sound m laws).apart in
      (found.0, measured_is m r.cell (rule_at among (ranking_is m laws).ranked).1.within ∙ found.1)

  trail : (r : Bid L) → Among r (ranking m) → Trail m (area m.board.size) r
  trail = trails m (ranking m) (ranking_is m laws).ranked shown _ (at_most_area (ranking_sound m laws))

  shown_length : {r : Bid L} → Among r (ranking m) → m.kind.decode (measured_record m r.cell).length ≡ r.length
  shown_length {r} among = ap (λ x. m.kind.decode x.length) (shown r among).1 ∙ laws.same r.length

  way : (r : Bid L) → Among r (ranking m) → Way m r.cell
  way r among =
      let t = trail r among in
      record {
        cells = t.cells;
        linked = t.linked;
        path = t.path ∙ ap Some (sym (shown_length among));
        source = t.source ∙ sym (ap (λ x. x.pad) (shown r among).1);
      }

  pub ways : LinksAreWays m
  ways j reached =
      let found = ranked_among (ranking m) j (sym (measured_reached m j (reached_within m j reached)) ∙ reached) in
      subst (Way m) found.2 (way found.0 found.1)

  pub lengths_least : Lawful m.kind m.gauge → Fitting m.board → LeastLengths m
  lengths_least lawful fits j lt =
      let ranked = measured_reached m j lt in
      when_cases (measured_record m j).reached
      (λ reached.
      let w = ways j reached in
      record {
        cells = w.cells;
        path = w.path;
        least = λ others b path.
            let end = path-ranked m laws lawful fits (ranking_is m laws) others j b path in
            subst (λ i. m.kind.le (m.kind.decode (measured_record m i).length) b ≡ true) end.here (ap (λ a. m.kind.le a b) (shown_length end.among) ∙ end.at_most);
      })
      (λ unreached cells a path.
      let end = path-ranked m laws lawful fits (ranking_is m laws) cells j a path in
      both_ways _ (sym ranked ∙ unreached) (ap (is_ranked (ranking m)) (sym end.here) ∙ among_ranked end.among))

pub least_lengths : {L R : Type 0} {kind : Kind L R} → KindLaws kind → OverEveryGauge kind LeastLengths
least_lengths laws g lawful b fits group = lengths_least _ laws lawful fits

pub links_are_ways : {L R : Type 0} {kind : Kind L R} → KindLaws kind → OverEveryGauge kind LinksAreWays
links_are_ways laws g lawful b fits group = ways _ laws
