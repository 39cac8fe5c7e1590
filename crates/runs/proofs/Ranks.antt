-- The links and pads of a measured map are those of the ranking. Assumes nothing.
use Rattle.std.proofs.Common.{◌≡◌, ℕ, zero, suc, ◌<◌, Bool, true, false, cond, ◌==◌, List, [], ◌∷◌, length, Some, None, Option, MatchBool, MatchOption, sym, refl, ap, ◌∙◌, subst, ⊎_elim, arith}
use Rattle.std.proofs.lemmas.Bool.{both_ways, cases_Bool, cond-true, cond-false, eqb-true}
use Rattle.std.proofs.lemmas.Bool.Decides.{nat_tests}
use Rattle.board.specs.Sizes.{area}
use Rattle.board.specs.Tables.{known_pad}
use Rattle.board.specs.declared.record.MapRecord.{MapRecord}
use Rattle.lengths.specs.Kinds.{Kind, KindLaws}
use Rattle.gauges.specs.Meanings.{Lawful}
use Rattle.measuring.specs.Boards.{Board, source_of}
use Rattle.measuring.specs.Maps.{ranked_record, record_at, measured_map}
use Rattle.measuring.specs.MapReadings.{length_of}
use Rattle.measuring.specs.Paths.{Measuring}
use Rattle.measuring.specs.Rankings.{Bid, ranking}
use Rattle.measuring.specs.Ways.{then, way_within}
use Rattle.geodesics.specs.Fitting.{Fitting}
use Rattle.geodesics.specs.Least.{LeastLengths, NoPath, Shortest, Way, measured_record}
use Rattle.geodesics.proofs.LeastPaths.{least_lengths, links_are_ways}
use Rattle.geodesics.proofs.Records.{measured_is, reached_within}
use Rattle.runs.specs.Links.{Linked, WayBack, link_in, link_of, pad_in, pad_of, ranked_by}

-- a record is that of the offer by which its cell was ranked
abbrev ByRank : {L R : Type 0} → MapRecord R → Option (Bid L) → Type 0
ByRank here o =
    MatchOption o
    (here.reached ≡ false)
    (λ r. (here.reached ≡ true) × (here.link ≡ r.link) × (here.pad ≡ r.pad))

module _ {L R : Type 0} (kind : Kind L R) where
  by_rank_more : (rank : ℕ) (r : Bid L) (here : MapRecord R) (o : Option (Bid L)) (b : Bool) →
      ByRank here o →
      ByRank (cond b (ranked_record kind rank r) here) (cond b (Some r) o)
  by_rank_more rank r here o true h = (refl, refl, refl)
  by_rank_more rank r here o false h = h

  by_rank : (rs : List (Bid L)) (j : ℕ) → ByRank (record_at kind rs j) (ranked_by rs j)
  unfolding record_at ranked_by
  by_rank [] j = refl
  by_rank (r ∷ rs) j = by_rank_more (length rs) r _ _ (r.cell == j) (by_rank rs j)

module _ {L R : Type 0} (here : MapRecord R) where
  link_by : (o : Option (Bid L)) → ByRank here o → here.reached ≡ true → link_in o ≡ Some here.link
  link_by None by reached = absurd (both_ways _ by reached)
  link_by (Some r) by reached = ap Some (sym by.1)

  pad_by : (o : Option (Bid L)) → ByRank here o → here.reached ≡ true → pad_in o ≡ Some here.pad
  pad_by None by reached = absurd (both_ways _ by reached)
  pad_by (Some r) by reached = ap Some (sym by.2)

  no_pad_by : (o : Option (Bid L)) → ByRank here o → here.reached ≡ false → pad_in o ≡ None
  no_pad_by None by unreached = refl
  no_pad_by (Some r) by unreached = absurd (both_ways _ unreached by.0)

known_source : (b : Board) (group i : ℕ) → known_pad (source_of b group i) ≡ source_of b group i
known_source b group i = grind (arith, nat_tests)

none_is_some : {A : Type 0} {x : A} → None ≡ Some x → ⊥
none_is_some e = cc

-- a way that goes on begins with its cell
then_is : (j : ℕ) (onward : Option (List ℕ)) (way : List ℕ) → then j onward ≡ Some way →
    (rest : List ℕ) × (onward ≡ Some rest) × (way ≡ j ∷ rest)
then_is j None way e = absurd (none_is_some e)
then_is j (Some rest) way e = (rest, refl, cc)

module _ {L R : Type 0} (m : Measuring L R) (laws : KindLaws m.kind) where
  ranked_so : (j : ℕ) → j < area m.board.size → ByRank (measured_record m j) (ranked_by (ranking m) j)
  ranked_so j lt =
      subst (λ here. ByRank here (ranked_by (ranking m) j)) (sym (measured_is m j lt))
      (by_rank m.kind (ranking m) j)

  link_shown : (j : ℕ) → (measured_record m j).reached ≡ true → link_of m j ≡ Some (measured_record m j).link
  link_shown j reached = link_by (measured_record m j) _ (ranked_so j (reached_within m j reached)) reached

  pad_shown : (j : ℕ) → (measured_record m j).reached ≡ true → pad_of m j ≡ Some (measured_record m j).pad
  pad_shown j reached = pad_by (measured_record m j) _ (ranked_so j (reached_within m j reached)) reached

  no_pad_shown : (j : ℕ) → j < area m.board.size → (measured_record m j).reached ≡ false → pad_of m j ≡ None
  no_pad_shown j lt unreached = no_pad_by (measured_record m j) _ (ranked_so j lt) unreached

  -- a way in the measured map is one by the links of the ranking
  linked : (n j : ℕ) (way : List ℕ) →
      way_within (m.kind.encode m.kind.zero) (measured_map m) n j ≡ Some way →
      (behind : List ℕ) × (way ≡ j ∷ behind) × Linked m (j ∷ behind)
  unfolding way_within
  linked zero j way e = absurd (none_is_some e)
  linked (suc n) j way e =
      let here = measured_record m j in
      ⊎_elim
      (λ reached.
      let on = sym (cond-true _ _ _ reached) ∙ e in
      ⊎_elim
      (λ itself.
      let ends = sym (cond-true _ _ _ itself) ∙ on in
      let alone : way ≡ j ∷ [] = cc in
      ([], alone, link_shown j reached ∙ ap Some (eqb-true here.link j itself)))
      (λ other.
      let goes = then_is j _ way (sym (cond-false _ _ _ other) ∙ on) in
      let onward = linked n here.link goes.0 goes.1 in
      (here.link ∷ onward.0, goes.2 ∙ ap (λ rest. j ∷ rest) onward.1, (link_shown j reached, onward.2)))
      (cases_Bool (here.link == j)))
      (λ unreached. absurd (none_is_some (sym (cond-false _ _ _ unreached) ∙ e)))
      (cases_Bool here.reached)

  module _ (lawful : Lawful m.kind m.gauge) (fits : Fitting m.board) where
    pub least : LeastLengths m
    least = least_lengths laws m.gauge lawful m.board fits m.group

    pub way_of : (j : ℕ) → (measured_record m j).reached ≡ true → Way m j
    way_of = links_are_ways laws m.gauge lawful m.board fits m.group

    abbrev length_shown : ℕ → L
    length_shown j = m.kind.decode (measured_record m j).length

    shortest : (j : ℕ) → j < area m.board.size → (measured_record m j).reached ≡ true →
        Shortest m j (length_shown j)
    shortest j lt reached =
        subst (λ b. MatchBool b (Shortest m j (length_shown j)) (NoPath m j)) reached (least j lt)

    pub no_path : (j : ℕ) → j < area m.board.size → (measured_record m j).reached ≡ false → NoPath m j
    no_path j lt unreached =
        subst (λ b. MatchBool b (Shortest m j (length_shown j)) (NoPath m j)) unreached (least j lt)

    pub way_back : (j : ℕ) → j < area m.board.size → (reached : (measured_record m j).reached ≡ true) →
        WayBack m j (way_of j reached).cells
    way_back j lt reached =
        let way = way_of j reached in
        let found = linked (area m.board.size) j (j ∷ way.cells) way.linked in
        let same : found.0 ≡ way.cells = behind_is j (sym found.1) in
        record {
          linked = subst (λ cells. Linked m (j ∷ cells)) same found.2;
          length_of = length_shown j;
          path = way.path;
          least = (shortest j lt reached).least;
          source = pad_shown j reached ∙ ap Some (sym way.source);
        }
      where
        behind_is : (j : ℕ) {cells others : List ℕ} → j ∷ cells ≡ j ∷ others → cells ≡ others
        behind_is j e = cc

    -- the pad of a measured record is that of a source, and as such at most 64
    known_shown : (j : ℕ) → (measured_record m j).reached ≡ true →
        known_pad (measured_record m j).pad ≡ (measured_record m j).pad
    known_shown j reached =
        let way = way_of j reached in
        ap known_pad (sym way.source) ∙ known_source m.board m.group _ ∙ way.source

    pub distance_shown : (j : ℕ) → j < area m.board.size →
        MatchOption (length_of m.kind (measured_record m j)) (NoPath m j) (Shortest m j)
    distance_shown j lt = matched _ _ (least j lt)
      where
        matched : (b : Bool) (a : L) → MatchBool b (Shortest m j a) (NoPath m j) →
            MatchOption (cond b (Some a) None) (NoPath m j) (Shortest m j)
        matched true a h = h
        matched false a h = h

    abbrev Near : ℕ → Option ℕ → Type 0
    Near j pad = MatchOption pad (NoPath m j) (λ p. (a : L) × Shortest m j a)

    pub nearest_shown : (j : ℕ) → j < area m.board.size → (answer : Option ℕ) →
        answer ≡ cond (measured_record m j).reached (Some (known_pad (measured_record m j).pad)) None →
        (answer ≡ pad_of m j) × MatchOption (pad_of m j) (NoPath m j) (λ p. (a : L) × Shortest m j a)
    nearest_shown j lt answer is =
        ⊎_elim
        (λ reached. (
          is ∙ cond-true _ _ _ reached ∙ ap Some (known_shown j reached) ∙ sym (pad_shown j reached),
          subst (Near j) (sym (pad_shown j reached)) (length_shown j, shortest j lt reached),
        ))
        (λ unreached. (
          is ∙ cond-false _ _ _ unreached ∙ sym (no_pad_shown j lt unreached),
          subst (Near j) (sym (no_pad_shown j lt unreached)) (no_path j lt unreached),
        ))
        (cases_Bool (measured_record m j).reached)
