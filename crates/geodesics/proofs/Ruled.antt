-- The rule gives one ranking. Assumes nothing.
use Rattle.std.proofs.Common.{◌≡◌, ℕ, zero, suc, true, eqb, List, [], ◌∷◌, length, sym, refl, ap, ◌∙◌, subst, ⊎_elim}
use mathlib.Core.List.Memᴰ.{head as first}
use mathlib.Core.List.Memᴰ.{tail as later}
use mathlib.Core.List.{Memᴰ as Among}
use Rattle.std.proofs.lemmas.Bool.{false≢true, eqb-true, eq-eqb, or_cases, or_left, or_right}
use Rattle.lengths.specs.Kinds.{KindLaws}
use Rattle.measuring.specs.Paths.{Measuring}
use Rattle.measuring.specs.Rankings.{Bid, is_ranked, next, first_ranked, ranking}
use Rattle.measuring.specs.Rules.{RanksNext}
use Rattle.measuring.proofs.Ranked.{option_cases, next_is, is_next, next_none, none_next, SoundRanking, none_sound, rule_sound, at_most_area, first_ranked_more, first_ranked_ended, first_ranked_stops, ranking_ended}
use Rattle.geodesics.specs.Unique.{ByRule, RankingOf, OneRanking}

module _ {L : Type 0} where
  pub ranked_among : (rs : List (Bid L)) (j : ℕ) → is_ranked rs j ≡ true →
      (r : Bid L) × Among r rs × (r.cell ≡ j)
  unfolding is_ranked
  ranked_among [] j e = absurd (false≢true e)
  ranked_among (r ∷ rs) j e =
      ⊎_elim
      (λ here. (r, first refl, eqb-true r.cell j here))
      (λ there. let found = ranked_among rs j there in (found.0, later found.1, found.2))
      (or_cases (eqb r.cell j) _ e)

  pub among_ranked : {r : Bid L} {rs : List (Bid L)} → Among r rs → is_ranked rs r.cell ≡ true
  unfolding is_ranked
  among_ranked {r = r} (first {x = s} {xs = rs} is) = or_left _ (is_ranked rs r.cell) (eq-eqb s.cell r.cell (ap (λ b. b.cell) (sym is)))
  among_ranked {r = r} (later {x = s} there) = or_right (eqb s.cell r.cell) _ (among_ranked there)

module _ {L R : Type 0} {m : Measuring L R} where
  -- each was ranked by the rule, after some others
  pub rule_at : {r : Bid L} {rs : List (Bid L)} → Among r rs → ByRule m rs →
      (before : List (Bid L)) × RanksNext m before r
  rule_at (first {xs = rs} is) rule = (rs, subst (RanksNext m rs) (sym is) rule.1)
  rule_at (later there) rule = rule_at there rule.0

  pub by_rule_sound : (rs : List (Bid L)) → ByRule m rs → SoundRanking m rs
  by_rule_sound [] rule = none_sound
  by_rule_sound (r ∷ rs) rule = rule_sound (by_rule_sound rs rule.0) rule.1

module _ {L R : Type 0} (m : Measuring L R) (laws : KindLaws m.kind) where
  first_ranked_by_rule : (n : ℕ) → ByRule m (first_ranked m n)
  unfolding first_ranked
  first_ranked_by_rule zero = tt
  first_ranked_by_rule (suc n) =
      ⊎_elim
      (λ none. subst (ByRule m) (sym (first_ranked_ended m n none)) (first_ranked_by_rule n))
      (λ some. subst (ByRule m) (sym (first_ranked_more m n some.1)) (first_ranked_by_rule n, next_is m laws _ some.1))
      (option_cases (next m (first_ranked m n)))

  by_rule_first : (rs : List (Bid L)) → ByRule m rs → first_ranked m (length rs) ≡ rs
  unfolding first_ranked
  by_rule_first [] rule = refl
  by_rule_first (r ∷ rs) rule =
      let before = by_rule_first rs rule.0 in
      first_ranked_more m (length rs) (ap (next m) before ∙ is_next m laws rs rule.1) ∙ ap (λ s. r ∷ s) before

  pub ranking_is : RankingOf m (ranking m)
  ranking_is = record { ranked = first_ranked_by_rule _; ended = next_none m _ (ranking_ended m laws) }

  pub one_ranking : OneRanking m
  one_ranking = record {
    one = ranking_is;
    only = λ rs other.
        let these = by_rule_first rs other.ranked in
        sym (first_ranked_stops m (length rs) _ (ap (next m) these ∙ none_next m rs other.ended) (at_most_area (by_rule_sound rs other.ranked)) ∙ these);
  }
