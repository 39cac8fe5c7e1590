-- The best offer to a cell is the first of the shortest. Assumes nothing.
use Rattle.std.proofs.Common.{◌≡◌, true, false, List, [], ◌∷◌, ◌++◌, Some, None, Option, sym, refl, ap, ◌∙◌, subst, ⊎_elim, MatchOption}
use Rattle.std.specs.List.{All}
use Rattle.std.proofs.lemmas.List.Elements.{All-append, All-cons, All-nil, All-push, All-weaker}
use Rattle.std.proofs.lemmas.List.{append_assoc, append-nil}
use Rattle.std.proofs.lemmas.Bool.{both_ways, cases_Bool, cond-false, cond-true}
use Rattle.lengths.specs.Kinds.{Kind, KindLaws}
use Rattle.measuring.specs.Paths.{Measuring}
use Rattle.measuring.specs.Rankings.{Bid, best, offer, shorter, start}
use Rattle.measuring.proofs.Ranked.{le_since_not}
use Rattle.geodesics.specs.Unique.{FirstOffers, FirstShortest, listed, offers_to}

abbrev Found : {L R : Type 0} → Kind L R → List (Bid L) → Option (Bid L) → Type 0
Found kind offers o = MatchOption o (offers ≡ []) (FirstShortest kind offers)

one : {L R : Type 0} (kind : Kind L R) (o : Option (Bid L)) → Found kind (listed o) o
one kind None = refl
one kind (Some x) = record { before = []; behind = []; is = refl; longer = All-nil (λ y. kind.le y.length x.length ≡ false); as_long = All-nil (λ y. kind.le x.length y.length ≡ true) }

module _ {L R : Type 0} {kind : Kind L R} (laws : KindLaws kind) where
  -- a shorter offer than all: those before and what was the shortest are longer
  all_longer : (x y : Bid L) (offers : List (Bid L)) → FirstShortest kind offers x →
      kind.le x.length y.length ≡ false → All (λ z. kind.le z.length y.length ≡ false) offers
  all_longer x y offers first isnt =
      let still : (z : Bid L) → kind.le x.length z.length ≡ true → kind.le z.length y.length ≡ false =
      λ z le. ⊎_elim (λ is. absurd (both_ways _ isnt (laws.transitive _ _ _ le is))) (λ f. f) (cases_Bool (kind.le z.length y.length)) in
      let Longer : Bid L → Type 0 = λ z. kind.le z.length y.length ≡ false in
      subst (All Longer) (sym first.is)
      (All-append Longer first.before (x ∷ first.behind)
      (All-weaker (λ z. kind.le z.length x.length ≡ false) Longer (λ z longer. still z (le_since_not laws _ _ longer)) first.before first.longer)
      (All-cons Longer x first.behind isnt (All-weaker (λ z. kind.le x.length z.length ≡ true) Longer still first.behind first.as_long)))

  one_more : (offers : List (Bid L)) (a o : Option (Bid L)) → Found kind offers a →
      Found kind (offers ++ listed o) (shorter kind a o)
  one_more offers None None found = append-nil offers ∙ found
  one_more offers (Some x) None found = subst (λ l. FirstShortest kind l x) (sym (append-nil offers)) found
  one_more offers None (Some y) found = subst (λ l. FirstShortest kind (l ++ (y ∷ [])) y) (sym found) (one kind (Some y))
  one_more offers (Some x) (Some y) found =
      ⊎_elim
      (λ is. subst (Found kind (offers ++ (y ∷ []))) (sym (cond-true (kind.le x.length y.length) (Some x) (Some y) is)) (record {
        before = found.before;
        behind = found.behind ++ (y ∷ []);
        is = ap (λ l. l ++ (y ∷ [])) found.is ∙ append_assoc found.before (x ∷ found.behind) (y ∷ []);
        longer = found.longer;
        as_long = All-push (λ z. kind.le x.length z.length ≡ true) found.behind y found.as_long is;
      }))
      (λ isnt. subst (Found kind (offers ++ (y ∷ []))) (sym (cond-false (kind.le x.length y.length) (Some x) (Some y) isnt)) (record {
        before = offers;
        behind = [];
        is = refl;
        longer = all_longer x y offers found isnt;
        as_long = All-nil (λ z. kind.le y.length z.length ≡ true);
      }))
      (cases_Bool (kind.le x.length y.length))

pub first_offers : {L R : Type 0} (m : Measuring L R) → KindLaws m.kind → FirstOffers m
unfolding best
first_offers m laws [] j = one m.kind (start m j)
first_offers m laws (r ∷ rs) j = one_more laws (offers_to m rs j) (best m rs j) (offer m r j) (first_offers m laws rs j)
