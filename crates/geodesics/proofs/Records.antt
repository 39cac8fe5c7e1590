-- The records of a measured map are those of the ranked cells. Assumes nothing.
use Rattle.std.proofs.Common.{◌≡◌, ℕ, ◌<◌, true, cond, ◌||◌, eqb, List, [], ◌∷◌, length, sym, refl, ap, ◌∙◌, ⊎_elim, arith}
use mathlib.Core.List.Memᴰ.{head as first}
use mathlib.Core.List.Memᴰ.{tail as later}
use mathlib.Core.List.{Memᴰ as Among}
use Rattle.std.proofs.lemmas.List.FromFn.{get_or-map-range_with_len}
use Rattle.std.proofs.lemmas.List.{get_or_past}
use Rattle.std.proofs.lemmas.Bool.{both_ways, cases_Bool, cases_lt, cond-true, cond-false, eq-eqb, ne_eqb}
use Rattle.board.specs.Sizes.{area}
use Rattle.lengths.specs.Kinds.{Kind}
use Rattle.measuring.specs.Paths.{Measuring}
use Rattle.measuring.specs.Rankings.{Bid, is_ranked, ranking}
use Rattle.measuring.specs.Maps.{ranked_record, record_at, measured_map}
use Rattle.measuring.proofs.Maps.{map_length}
use Rattle.measuring.proofs.Ranked.{Apart}
use Rattle.geodesics.specs.Least.{measured_record}
use Rattle.geodesics.proofs.Ruled.{among_ranked}

module _ {L R : Type 0} (kind : Kind L R) where
  pub reached_is_ranked : (rs : List (Bid L)) (j : ℕ) → (record_at kind rs j).reached ≡ is_ranked rs j
  unfolding record_at is_ranked
  reached_is_ranked [] j = refl
  reached_is_ranked (r ∷ rs) j =
      ⊎_elim
      (λ is. ap (λ b. (cond b (ranked_record kind (length rs) r) (record_at kind rs j)).reached) is ∙ sym (ap (λ b. b || is_ranked rs j) is))
      (λ isnt. ap (λ b. (cond b (ranked_record kind (length rs) r) (record_at kind rs j)).reached) isnt ∙ reached_is_ranked rs j ∙ sym (ap (λ b. b || is_ranked rs j) isnt))
      (cases_Bool (eqb r.cell j))

  -- a ranked cell has its own record, with some rank
  pub record_of_ranked : {r : Bid L} {rs : List (Bid L)} → Among r rs → Apart rs →
      (rank : ℕ) × (record_at kind rs r.cell ≡ ranked_record kind rank r)
  unfolding record_at
  record_of_ranked {r = r} (first {x = s} {xs = rs} is) apart =
      (length rs, cond-true (eqb s.cell r.cell) _ _ (eq-eqb s.cell r.cell (ap (λ b. b.cell) (sym is))) ∙ ap (ranked_record kind (length rs)) (sym is))
  record_of_ranked {r = r} (later {x = s} {xs = rs} there) apart =
      let found = record_of_ranked there apart.1 in
      let other : s.cell ≡ r.cell → ⊥ = λ e. both_ways _ (ap (is_ranked rs) (sym e) ∙ apart.0) (among_ranked there) in
      (found.0, cond-false (eqb s.cell r.cell) _ _ (ne_eqb s.cell r.cell other) ∙ found.1)

module _ {L R : Type 0} (m : Measuring L R) where
  pub measured_is : (j : ℕ) → j < area m.board.size → measured_record m j ≡ record_at m.kind (ranking m) j
  unfolding measured_map
  measured_is j lt = get_or-map-range_with_len (record_at m.kind (ranking m)) 0 (area m.board.size) j j _ lt (omega arith)

  pub reached_within : (j : ℕ) → (measured_record m j).reached ≡ true → j < area m.board.size
  unfolding measured_map
  reached_within j reached =
      ⊎_elim
      (λ lt. lt)
      (λ past. absurd (both_ways _ (ap (λ r. r.reached) (get_or_past (measured_map m) j _ (omega (arith, map_length m)))) reached))
      (cases_lt j (area m.board.size))

  pub measured_reached : (j : ℕ) → j < area m.board.size →
      (measured_record m j).reached ≡ is_ranked (ranking m) j
  measured_reached j lt = ap (λ r. r.reached) (measured_is j lt) ∙ reached_is_ranked m.kind (ranking m) j
