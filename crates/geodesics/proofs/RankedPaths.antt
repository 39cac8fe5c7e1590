-- The lengths of a ranking are least. Assumes nothing.
use Rattle.std.proofs.Common.{◌≡◌, ℕ, ◌<◌, true, eqb, List, [], ◌∷◌, Some, None, Option, sym, refl, ap, ◌∙◌, subst, ⊎_elim, arith}
use mathlib.Core.List.Memᴰ.{cases_cons as among_cases}
use mathlib.Core.List.Memᴰ.{head as first}
use mathlib.Core.List.Memᴰ.{not-nil as among_none}
use mathlib.Core.List.Memᴰ.{tail as later}
use mathlib.Core.List.{Memᴰ as Among}
use Rattle.std.proofs.lemmas.Bool.{cases_Bool, cond-false, eqb-false, ne_eqb, or_parts}
use Rattle.board.specs.Sizes.{area}
use Rattle.lengths.specs.Kinds.{Kind, KindLaws}
use Rattle.gauges.specs.Meanings.{Lawful}
use Rattle.measuring.specs.Boards.{source_of}
use Rattle.measuring.specs.Paths.{Measuring, Path}
use Rattle.measuring.specs.Rankings.{Bid, start, offered, offer, shorter, best, is_ranked}
use Rattle.measuring.specs.Rules.{RanksNext}
use Rattle.measuring.proofs.Ranked.{option_cases, some_or_none, same_some, cond_some, shorter_either, shorter_none, shorter_of_first, shorter_of_second, le_same}
use Rattle.geodesics.specs.Fitting.{Fitting}
use Rattle.geodesics.specs.Unique.{ByRule, RankingOf}
use Rattle.geodesics.proofs.Crossings.{Crosses, carried, source_within, crosses_onward, path_parts, offer_crosses}
use Rattle.geodesics.proofs.GenuineSteps.{neighbour_within, genuine_step}
use Rattle.geodesics.proofs.Ruled.{ranked_among, rule_at}

-- there is an offer, and it is at most this long
abbrev AtMost : {L R : Type 0} → Kind L R → Option (Bid L) → L → Type 0
AtMost {L} kind o a = (x : Bid L) × (o ≡ Some x) × (kind.le x.length a ≡ true)

-- the cell is ranked, with at most this length
pub record RankedWithin {L R : Type 0} (kind : Kind L R) (rs : List (Bid L)) (j : ℕ)
    (a : L) : Type 0 where
  pub by : Bid L
  pub among : Among by rs
  pub here : by.cell ≡ j
  pub at_most : kind.le by.length a ≡ true

module _ {L R : Type 0} (m : Measuring L R) (laws : KindLaws m.kind) where
  shorter_than_first : (x y : Option (Bid L)) (a : L) → AtMost m.kind x a →
      AtMost m.kind (shorter m.kind x y) a
  shorter_than_first x y a there =
      ⊎_elim
      (λ none. some_or_none there.1 (shorter_none m.kind x y none).0)
      (λ some. (some.0, some.1, laws.transitive _ _ _ (shorter_of_first laws x y some.1 there.1) there.2))
      (option_cases (shorter m.kind x y))

  shorter_than_second : (x y : Option (Bid L)) (a : L) → AtMost m.kind y a →
      AtMost m.kind (shorter m.kind x y) a
  shorter_than_second x y a there =
      ⊎_elim
      (λ none. some_or_none there.1 (shorter_none m.kind x y none).1)
      (λ some. (some.0, some.1, laws.transitive _ _ _ (shorter_of_second laws x y some.1 there.1) there.2))
      (option_cases (shorter m.kind x y))

  best_of_start : (rs : List (Bid L)) (j : ℕ) (a : L) → AtMost m.kind (start m j) a →
      AtMost m.kind (best m rs j) a
  unfolding best
  best_of_start [] j a there = there
  best_of_start (r ∷ rs) j a there = shorter_than_first _ (offer m r j) a (best_of_start rs j a there)

  best_of_offer : {r : Bid L} {rs : List (Bid L)} → Among r rs → (j : ℕ) (a : L) →
      AtMost m.kind (offer m r j) a → AtMost m.kind (best m rs j) a
  unfolding best
  best_of_offer (first {xs = rs} is) j a there = shorter_than_second (best m rs j) _ a (subst (λ r. AtMost m.kind (offer m r j) a) is there)
  best_of_offer (later {x = s} among) j a there = shorter_than_first _ (offer m s j) a (best_of_offer among j a there)

  -- a ranked cell's offer to a neighbour
  best_of_crossing : {r : Bid L} {rs : List (Bid L)} → Among r rs → (j : ℕ) → Crosses m r.cell j →
      AtMost m.kind (best m rs j) (carried m r.cell j r.length)
  best_of_crossing {r} among j crosses =
      best_of_offer among j _ (_, ap (offered r j) (crosses_onward m r.cell j r.length crosses), le_same laws refl)

  best_of_source : (rs : List (Bid L)) (j : ℕ) → 0 < source_of m.board m.group j →
      AtMost m.kind (best m rs j) m.kind.zero
  best_of_source rs j some =
      best_of_start rs j _ (_, cond-false (eqb (source_of m.board m.group j) 0) None _ (ne_eqb (source_of m.board m.group j) 0 (omega arith)), le_same laws refl)

  module _ (lawful : Lawful m.kind m.gauge) (fits : Fitting m.board) where
    carried-longer : (i j : ℕ) → i < area m.board.size → Crosses m i j → (a : L) →
        m.kind.le a (carried m i j a) ≡ true
    carried-longer i j lt crosses = lawful.grows _ (genuine_step m.board fits i j lt crosses.near) crosses.unbarred

    carried-ordered : (i j : ℕ) → i < area m.board.size → Crosses m i j → (a b : L) →
        m.kind.le a b ≡ true → m.kind.le (carried m i j a) (carried m i j b) ≡ true
    carried-ordered i j lt crosses = lawful.ordered _ (genuine_step m.board fits i j lt crosses.near) crosses.unbarred

    -- lengths rise with rank
    next-longer : {r s : Bid L} {rs : List (Bid L)} → RanksNext m rs s → RanksNext m (s ∷ rs) r →
        m.kind.le s.length r.length ≡ true
    unfolding best is_ranked
    next-longer {r} {s} rule next =
        ⊎_elim
        (λ before. rule.shortest _ _ next.within (or_parts (eqb s.cell r.cell) _ next.unranked).1 before)
        (λ offered.
        let across = offer_crosses m s r.cell offered in
        subst (λ a. m.kind.le s.length a ≡ true) (sym (ap (λ b. b.length) across.1)) (carried-longer _ _ rule.within across.0 s.length))
        (shorter_either m.kind _ _ next.made)

    longer : {s : Bid L} {rs : List (Bid L)} → Among s rs → {r : Bid L} → ByRule m rs →
        RanksNext m rs r → m.kind.le s.length r.length ≡ true
    longer (first is) rule next = laws.transitive _ _ _ (le_same laws (ap (λ b. b.length) is)) (next-longer rule.1 next)
    longer (later among) rule next = laws.transitive _ _ _ (longer among rule.0 rule.1) (next-longer rule.1 next)

    -- no ranked cell is longer than another's offer to it, whichever was ranked first
    no_longer : (rs : List (Bid L)) {r s : Bid L} (j : ℕ) → ByRule m rs → Among r rs → Among s rs →
        s.cell ≡ j → Crosses m r.cell j → m.kind.le s.length (carried m r.cell j r.length) ≡ true
    no_longer [] j rule offers takes is crosses = absurd (among_none takes)
    no_longer (t ∷ rs) {r} {s} j rule offers takes is crosses =
        let beyond : m.kind.le s.length r.length ≡ true → m.kind.le s.length (carried m r.cell j r.length) ≡ true =
        λ le. laws.transitive _ _ _ le (carried-longer _ _ (rule_at offers rule).1.within crosses r.length) in
        ⊎_elim
        (λ offers-last. ⊎_elim
        (λ takes-last. beyond (le_same laws (ap (λ b. b.length) (takes-last ∙ sym offers-last))))
        (λ before. beyond (subst (λ b. m.kind.le s.length b.length ≡ true) (sym offers-last) (longer before rule.0 rule.1)))
        (among_cases takes))
        (λ offers-before. ⊎_elim
        (λ takes-last.
        let found = best_of_crossing offers-before j crosses in
        let made : best m rs j ≡ Some s = ap (best m rs) (sym is ∙ ap (λ b. b.cell) takes-last) ∙ rule.1.made ∙ ap Some (sym takes-last) in
        subst (λ b. m.kind.le b.length (carried m r.cell j r.length) ≡ true) (same_some found.1 made) found.2)
        (λ takes-before. no_longer rs j rule.0 offers-before takes-before is crosses)
        (among_cases takes))
        (among_cases offers)

    module _ {rs : List (Bid L)} (ranked : RankingOf m rs) where
      -- a cell with an offer is ranked
      offer-ranked : (j : ℕ) {a : L} → j < area m.board.size → AtMost m.kind (best m rs j) a →
          (s : Bid L) × Among s rs × (s.cell ≡ j)
      offer-ranked j lt there =
          ⊎_elim
          (ranked_among rs j)
          (λ unranked. some_or_none there.1 (ranked.ended j lt unranked))
          (cases_Bool (is_ranked rs j))

      crossing-ranked : {r : Bid L} → Among r rs → (j : ℕ) → Crosses m r.cell j →
          RankedWithin m.kind rs j (carried m r.cell j r.length)
      crossing-ranked {r} among j crosses =
          let found = offer-ranked j (neighbour_within m.board r.cell j crosses.near) (best_of_crossing among j crosses) in
          record { by = found.0; among = found.1; here = found.2; at_most = no_longer rs j ranked.ranked among found.1 found.2 crosses }

      source-ranked : (j : ℕ) → 0 < source_of m.board m.group j → RankedWithin m.kind rs j m.kind.zero
      source-ranked j some =
          let found = offer-ranked j (source_within m.board m.group j some) (best_of_source rs j some) in
          let rule = rule_at found.1 ranked.ranked in
          let start = best_of_source rule.0 j some in
          let made : best m rule.0 j ≡ Some found.0 = ap (best m rule.0) (sym found.2) ∙ rule.1.made in
          record {
            by = found.0;
            among = found.1;
            here = found.2;
            at_most = subst (λ b. m.kind.le b.length m.kind.zero ≡ true) (same_some start.1 made) start.2;
          }

      -- the end of every path is ranked, with at most its length
      pub path-ranked : (cells : List ℕ) (j : ℕ) (a : L) → Path m j cells a → RankedWithin m.kind rs j a
      path-ranked [] j a path =
          ⊎_elim
          (λ w. some_or_none w.1 refl)
          (λ w. subst (RankedWithin m.kind rs j) (same_some refl w.1) (source-ranked j (omega (arith, eqb-false (source_of m.board m.group j) 0 w.0))))
          (cond_some (eqb (source_of m.board m.group j) 0) _ _ path)
      path-ranked (i ∷ cells) j a path =
          let parts = path_parts m i j cells a path in
          let from = path-ranked cells i parts.0 parts.1 in
          let r = from.by in
          let crosses : Crosses m r.cell j = subst (λ i. Crosses m i j) (sym from.here) parts.2 in
          let to = crossing-ranked from.among j crosses in
          let same : a ≡ carried m r.cell j parts.0 = parts.3 ∙ ap (λ i. carried m i j parts.0) (sym from.here) in
          record {
            by = to.by;
            among = to.among;
            here = to.here;
            at_most = laws.transitive _ _ _ to.at_most (subst (λ a. m.kind.le (carried m r.cell j r.length) a ≡ true) (sym same) (carried-ordered _ _ (rule_at from.among ranked.ranked).1.within crosses _ _ from.at_most));
          }
