-- What readings of tables that hold measured maps answer. Assumes nothing.
use Rattle.std.proofs.Common.{◌≡◌, ℕ, zero, suc, ◌<◌, ◌≤◌, ◌⊎◌, Bool, true, false, cond, nat_lt, List, [], ◌∷◌, length, Some, None, Ok, Err, Decides, MatchOption, sym, refl, ap, ◌∙◌, subst, ⊎_elim, inl, inr, arith}
use Rattle.std.proofs.lemmas.Bool.{cases_Bool, cond-true, cond-false}
use Rattle.std.proofs.lemmas.List.{get_or-take}
use Rattle.std.proofs.lemmas.List.FromFn.{length-map-range_with_len}
use Rattle.board.specs.Records.{unreached_record}
use Rattle.board.specs.Sizes.{area}
use Rattle.board.specs.Tables.{known_pad}
use Rattle.board.specs.declared.record.MapRecord.{MapRecord}
use Rattle.lengths.specs.Kinds.{Kind, KindLaws}
use Rattle.gauges.specs.Meanings.{ByAdding, Crossing, Lawful, Ruling, RulerLaws}
use Rattle.measuring.specs.Boards.{Board}
use Rattle.measuring.specs.Maps.{measured_map}
use Rattle.measuring.specs.MapReadings.{distance_at, least, least_sum, length_of, marked, nearest_at, on_route, route_marks, same_length, sum_at, summed, way_from}
use Rattle.measuring.specs.Paths.{Measuring, measuring}
use Rattle.measuring.specs.Ways.{at, way_within}
use Rattle.plate.specs.Readings.{fitting_way}
use Rattle.plate.specs.declared.refusal.Refusal.TheVariants.{Short}
use Rattle.geodesics.specs.Between.{NoPathBetween, OnShortest, ShortestBetween}
use Rattle.geodesics.specs.Fitting.{Fitting}
use Rattle.geodesics.specs.Least.{NoPath, Shortest, measured_record}
use Rattle.geodesics.proofs.Gaps.{gap_is_least, route_is_shortest}
use Rattle.runs.specs.Said.{Said}
use Rattle.runs.specs.Said.Said.{distance, nearest, way, gap, route, refused}
use Rattle.runs.specs.Steps.{telling}
use Rattle.runs.specs.Truths.{DistanceIs, GapIs, NearestIs, NoWay, RouteIs, WayIs}
use Rattle.runs.proofs.Moments.{Held}
use Rattle.runs.proofs.Ranks.{distance_shown, nearest_shown, no_path, way_back, way_of}

module _ {L R : Type 0} (m : Measuring L R) (map : List (MapRecord R)) (held : Held m map) where
  abbrev n : ℕ
  n = area m.board.size

  abbrev row : R
  row = m.kind.encode m.kind.zero

  abbrev here : ℕ → MapRecord R
  here j = at row map j

  at_held : (j : ℕ) → j < n → here j ≡ measured_record m j
  at_held j lt =
      sym (get_or-take n map j (unreached_record row) lt) ∙ ap (λ map. at row map j) held

  module _ (laws : KindLaws m.kind) (lawful : Lawful m.kind m.gauge) (fits : Fitting m.board)
      (j : ℕ) (lt : j < n) where
    pub distance_held : DistanceIs m j (distance (distance_at m.kind map j))
    distance_held = record {
      found = distance_at m.kind map j;
      is = refl;
      right =
          subst (λ r. MatchOption (length_of m.kind r) (NoPath m j) (Shortest m j)) (sym (at_held j lt))
          (distance_shown m laws lawful fits j lt);
    }

    pub nearest_held : NearestIs m j (nearest (nearest_at m.kind map j))
    nearest_held =
        let shown = nearest_shown m laws lawful fits j lt (nearest_at m.kind map j)
        (ap (λ r. cond r.reached (Some (known_pad r.pad)) None) (at_held j lt)) in
        record { is = ap nearest shown.0; right = shown.1 }

    -- what is told of a way
    pub way_held : (room : ℕ) (answer : Said L) →
        answer ≡
        telling way (cond (here j).reached (fitting_way room (way_from m.kind n map j)) (Ok [])) →
        WayIs m j room answer ⊎ NoWay m j answer
    way_held room answer told =
        ⊎_elim
        (λ reached.
        let w = way_of m laws lawful fits j reached in
        inl (record {
          behind = w.cells;
          right = way_back m laws lawful fits j lt reached;
          is = told
              ∙ ap (telling way) (cond-true _ _ _ (ap (λ r. r.reached) (at_held j lt) ∙ reached))
              ∙ ap (λ map. telling way (fitting_way room (way_within row map n j))) held
              ∙ ap (λ cells. telling way (fitting_way room cells)) w.linked
              ∙ fitted (j ∷ w.cells) (nat_lt room (length (j ∷ w.cells)));
        }))
        (λ unreached.
        inr (record {
          none = no_path m laws lawful fits j lt unreached;
          is = told
              ∙ ap (telling way) (cond-false _ _ _ (ap (λ r. r.reached) (at_held j lt) ∙ unreached));
        }))
        (cases_Bool (measured_record m j).reached)
      where
        fitted : (cells : List ℕ) (b : Bool) →
            telling {L = L} way (cond b (Err Short) (Ok cells)) ≡ cond b (refused Short) (way cells)
        fitted cells true = refl
        fitted cells false = refl

-- both maps
module _ {L R : Type 0} (kind : Kind L R) (ruler : Ruling L) (g : Crossing L) (b : Board) where
  abbrev of : ℕ → Measuring L R
  of group = measuring kind g b group

  module _ (first second : List (MapRecord R)) (first_held : Held (of 1) first)
      (second_held : Held (of 2) second) where
    sum_held : (j : ℕ) → j < area b.size →
        sum_at kind ruler.sum first second j ≡
        sum_at kind ruler.sum (measured_map (of 1)) (measured_map (of 2)) j
    sum_held j lt =
        λ i.
        summed ruler.sum
        (length_of kind (at_held (of 1) first first_held j lt i))
        (length_of kind (at_held (of 2) second second_held j lt i))

    least_held : (n : ℕ) → n ≤ area b.size →
        least_sum kind ruler.sum first second n ≡
        least_sum kind ruler.sum (measured_map (of 1)) (measured_map (of 2)) n
    unfolding least_sum
    least_held zero le = refl
    least_held (suc n) le =
        λ i. least kind (least_held n (omega arith) i) (sum_held n (omega arith) i)

    module _ (laws : KindLaws kind) (ruled : RulerLaws kind ruler) (adds : ByAdding ruler g)
        (fits : Fitting b) where
      pub gap_held : GapIs (of 1) 2 (gap (least_sum kind ruler.sum first second (area b.size)))
      gap_held = record {
        found = least_sum kind ruler.sum first second (area b.size);
        is = refl;
        right = subst (λ o. MatchOption o (NoPathBetween (of 1) 2) (ShortestBetween (of 1) 2))
            (sym (least_held (area b.size) (omega arith)))
            (gap_is_least laws ruler ruled g adds b fits);
      }

      pub route_held : RouteIs (of 1) 2
          (route
          (route_marks kind ruler.sum first second (area b.size))
          (marked kind ruler.sum first second (area b.size)))
      unfolding route_marks marked
      route_held = record {
        on = on_route kind ruler.sum first second (area b.size);
        right = λ i lt.
            subst (λ t. Decides t (OnShortest (of 1) 2 i))
            (sym (λ k. same_length kind (sum_held i lt k) (least_held (area b.size) (omega arith) k)))
            (route_is_shortest laws ruler ruled g adds b fits i lt);
        is = refl;
      }

pub marks_length : {L R : Type 0} (kind : Kind L R) (sum : L → L → L)
    (first second : List (MapRecord R)) (n : ℕ) → length (route_marks kind sum first second n) ≡ n
unfolding route_marks
marks_length kind sum first second n =
    length-map-range_with_len (λ j. cond (on_route kind sum first second n j) 1 0) 0 n
