-- Boards that say the same have one map. Assumes nothing.
use Rattle.std.proofs.Common.{◌≡◌, ℕ, zero, suc, ◌*◌, ◌/◌, ◌%◌, ◌<◌, cond, not, ◌&&◌, eqb, ltb, List, [], ◌∷◌, length, map, sum_by, Some, None, Option, sym, refl, ap, ◌∙◌, ⊎_elim, arith}
use Rattle.std.specs.List.{All, range_with_len}
use Rattle.std.proofs.lemmas.List.Elements.{All-head, All-tail}
use Rattle.std.proofs.lemmas.Bool.{and_left, cases_Bool, cases_lt, cond-false, le-ltb}
use Rattle.board.specs.Sizes.{area}
use Rattle.board.specs.Tables.{source_pad}
use Rattle.lengths.specs.Kinds.{Kind, KindLaws}
use Rattle.gauges.specs.Meanings.{crossed}
use Rattle.gauges.specs.Steps.{neighbours}
use Rattle.measuring.specs.Boards.{Board, cell, is_open, source_of, step, open_neighbour}
use Rattle.measuring.specs.Sums.{how_many}
use Rattle.measuring.specs.Paths.{Measuring, measuring, onward}
use Rattle.measuring.specs.Rankings.{Bid, offered, shorter, best, is_ranked, next_below, next, and_one, first_ranked, ranking}
use Rattle.measuring.specs.Maps.{record_at, measured_map, counts_of, reached_count, step_count}
use Rattle.measuring.proofs.Ranked.{first_ranked_sound}
use Rattle.geodesics.specs.Least.{OverEveryGauge}
use Rattle.geodesics.specs.Unique.{SameBoard, OneMap}
use Rattle.geodesics.proofs.GenuineSteps.{neighbour_within}
use Rattle.geodesics.proofs.FirstOffers.{first_offers}
use Rattle.geodesics.proofs.Ruled.{one_ranking}

abbrev on : {L R : Type 0} → Measuring L R → Board → Measuring L R
on m c = measuring m.kind m.gauge c m.group

module _ {L R : Type 0} (m : Measuring L R) (c : Board) (same : SameBoard m.group m.board c) where
  same_area : area c.size ≡ area m.board.size
  same_area = λ k. sym same.rows k * sym same.columns k

  -- cells beyond the area are no sources, and are not open
  same_source : (j : ℕ) → source_of c m.group j ≡ source_of m.board m.group j
  same_source j =
      ⊎_elim
      (λ lt. sym (same.sources j lt))
      (λ past.
      cond-false (ltb j (area c.size)) (source_pad (cell c j) c.groups m.group) 0 (le-ltb j (area c.size) (omega (arith, same_area))) ∙
      sym (cond-false (ltb j (area m.board.size)) (source_pad (cell m.board j) m.board.groups m.group) 0 (le-ltb j (area m.board.size) past)))
      (cases_lt j (area m.board.size))

  same_open : (j : ℕ) → is_open c j ≡ is_open m.board j
  same_open j =
      ⊎_elim
      (λ lt k. ltb j (same_area k) && not (sym (same.barred j lt) k))
      (λ past.
      and_left (ltb j (area c.size)) _ (le-ltb j (area c.size) (omega (arith, same_area))) ∙
      sym (and_left (ltb j (area m.board.size)) _ (le-ltb j (area m.board.size) past)))
      (cases_lt j (area m.board.size))

  same_neighbour : (i j : ℕ) → open_neighbour c i j ≡ open_neighbour m.board i j
  same_neighbour i j =
      let columns = sym same.columns in
      λ k. neighbours (i / columns k) (i % columns k) (j / columns k) (j % columns k) && same_open j k

  same_step : (i j : ℕ) → i < area m.board.size → j < area m.board.size → step c i j ≡ step m.board i j
  same_step i j from to =
      let columns = sym same.columns in
      λ k. record {
        from = record { row = i / columns k; column = i % columns k; height = sym (same.heights i from) k };
        to = record { row = j / columns k; column = j % columns k; height = sym (same.heights j to) k };
      }

  same_onward : (i j : ℕ) (o : Option L) → i < area m.board.size →
      onward (on m c) i j o ≡ onward m i j o
  same_onward i j None lt = refl
  same_onward i j (Some a) lt =
      ⊎_elim
      (λ near k. cond (same_neighbour i j k) (crossed m.gauge (same_step i j lt (neighbour_within m.board i j near) k) a) None)
      (λ apart.
      cond-false (open_neighbour c i j) _ None (same_neighbour i j ∙ apart) ∙
      sym (cond-false (open_neighbour m.board i j) _ None apart))
      (cases_Bool (open_neighbour m.board i j))

  abbrev Within : Bid L → Type 0
  Within r = r.cell < area m.board.size

  same_best : (rs : List (Bid L)) → All Within rs → (j : ℕ) → best (on m c) rs j ≡ best m rs j
  unfolding best
  same_best [] within j =
      ap (λ pad. cond (eqb pad 0) None (Some (record { cell = j; length = m.kind.zero; pad = pad; link = j }))) (same_source j)
  same_best (r ∷ rs) within j =
      λ k. shorter m.kind (same_best rs (All-tail Within r rs within) j k) (offered r j (same_onward r.cell j (Some r.length) (All-head Within r rs within) k))

  same_next_below : (rs : List (Bid L)) → All Within rs → (n : ℕ) →
      next_below (on m c) rs n ≡ next_below m rs n
  unfolding next_below
  same_next_below rs within zero = refl
  same_next_below rs within (suc n) =
      λ k. shorter m.kind (same_next_below rs within n k) (cond (is_ranked rs n) None (same_best rs within n k))

  module _ (laws : KindLaws m.kind) where
    same-first-ranked : (n : ℕ) → first_ranked (on m c) n ≡ first_ranked m n
    unfolding first_ranked
    same-first-ranked zero = refl
    same-first-ranked (suc n) =
        let rs = first_ranked m n in
        ap (λ rs. and_one rs (next (on m c) rs)) (same-first-ranked n) ∙
        ap (and_one rs) (same_next_below rs (first_ranked_sound m laws n).within (area c.size) ∙ ap (next_below m rs) same_area)

    same_ranking : ranking (on m c) ≡ ranking m
    same_ranking = same-first-ranked (area c.size) ∙ ap (first_ranked m) same_area

    same_map : measured_map (on m c) ≡ measured_map m
    unfolding measured_map
    same_map = λ k. map (record_at m.kind (same_ranking k)) (range_with_len 0 (same_area k))

    -- and one pair of counts
    pub same_counts : counts_of (on m c) ≡ counts_of m
    unfolding reached_count step_count
    same_counts = λ k. record {
      reached = length (same_ranking k);
      steps = sum_by (λ r. how_many (λ j. same_neighbour r.cell j k) (same_area k)) (same_ranking k);
    }

pub one_map : {L R : Type 0} {kind : Kind L R} → KindLaws kind → OverEveryGauge kind OneMap
one_map laws g lawful b fits group = (first_offers _ laws, one_ranking _ laws, λ c same. same_map _ c same laws)
