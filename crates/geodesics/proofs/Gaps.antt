-- The gap is the least length of a path between the groups, and the route is where such paths lie.
-- Assumes nothing.
use Rattle.std.proofs.Common.{◌≡◌, ℕ, ◌<◌, Bool, true, false, cond, List, Some, None, MatchBool, Option, sym, refl, ap, ◌∙◌, subst, subst₂, ⊎_elim, arith, MatchOption}
use Rattle.std.proofs.lemmas.Option.{MatchOption-at_some, MatchOption-at_none}
use Rattle.std.proofs.lemmas.Bool.{and_from, and_parts, false≢true}
use Rattle.board.specs.Sizes.{area}
use Rattle.lengths.specs.Kinds.{Kind, KindLaws}
use Rattle.gauges.specs.Meanings.{ByAdding, Crossing, Ruling, RulerLaws}
use Rattle.measuring.specs.Boards.{Board}
use Rattle.measuring.specs.Paths.{Measuring, PathBetween, measuring}
use Rattle.measuring.specs.Maps.{measured_map}
use Rattle.measuring.specs.MapReadings.{distance_at, summed, sum_at, least_sum, same_length}
use Rattle.measuring.proofs.Ranked.{option_cases, some_or_none}
use Rattle.geodesics.specs.Fitting.{Fitting}
use Rattle.geodesics.specs.Least.{NoPath, Shortest, measured_record}
use Rattle.geodesics.specs.Between.{GapIsLeast, NoPathBetween, OnShortest, OverEveryRuler, RouteIsShortest, ShortestBetween}
use Rattle.geodesics.proofs.AddedPaths.{adding_lawful}
use Rattle.geodesics.proofs.Crossings.{source_within}
use Rattle.geodesics.proofs.JoinedPaths.{BetweenThrough, joined, parted}
use Rattle.geodesics.proofs.LeastPaths.{least_lengths}
use Rattle.geodesics.proofs.LeastSums.{some_cases, NoneBelow, LeastBelow, least_below}

when_some : {A : Type 0} (t : Bool) (x : A) (P : Type 0) (Q : A → Type 0) → MatchBool t (Q x) P →
    MatchOption (cond t (Some x) None) P Q
when_some true x P Q holds = holds
when_some false x P Q holds = holds

-- two lengths of which neither is longer are one
one_length : {L R : Type 0} {kind : Kind L R} → KindLaws kind → (x y : Option L) →
    same_length kind x y ≡ true → (a : L) × (x ≡ Some a) × (y ≡ Some a)
one_length laws None y same = absurd (false≢true same)
one_length laws (Some a) None same = absurd (false≢true same)
one_length laws (Some a) (Some b) same =
    let both = and_parts _ _ same in
    (a, refl, ap Some (sym (laws.equal a b both.0 both.1)))

-- a path between the groups of this length leads through the cell, and every one is at least as long
record ShortestThrough {L R : Type 0} (m : Measuring L R) (other i : ℕ) (a : L) : Type 0 where
  through : BetweenThrough m other i a
  least : (b : L) → BetweenThrough m other i b → m.kind.le a b ≡ true

-- no path between the groups leads through the cell
abbrev NoneThrough : {L R : Type 0} → Measuring L R → ℕ → ℕ → Type 0
NoneThrough {L} m other i = (a : L) → BetweenThrough m other i a → ⊥

-- a path between the groups leads through its end
through_end : {L R : Type 0} (m : Measuring L R) (other j : ℕ) (cells : List ℕ) (a : L) →
    PathBetween m other j cells a → BetweenThrough m other j a
through_end m other j cells a path = record { end = j; cells = cells; path = path; on = (0, omega arith, refl) }

module _ {L R : Type 0} {kind : Kind L R} (laws : KindLaws kind) {ruler : Ruling L}
    (ruled : RulerLaws kind ruler) {g : Crossing L} (adds : ByAdding ruler g) (b : Board)
    (fits : Fitting b) where
  abbrev of : ℕ → Measuring L R
  of group = measuring kind g b group

  abbrev sum_of : ℕ → Option L
  sum_of = sum_at kind ruler.sum (measured_map (of 1)) (measured_map (of 2))

  abbrev gap : Option L
  gap = least_sum kind ruler.sum (measured_map (of 1)) (measured_map (of 2)) (area b.size)

  -- a cell's distance is the least length of a path of the group to it
  distances : (group j : ℕ) → j < area b.size →
      MatchOption (distance_at kind (measured_map (of group)) j) (NoPath (of group) j)
      (Shortest (of group) j)
  distances group j lt = when_some (measured_record (of group) j).reached _ _ _ (least_lengths laws g (adding_lawful laws ruled adds) b fits group j lt)

  sums_ordered : (p q p' q' : L) → kind.le p p' ≡ true → kind.le q q' ≡ true →
      kind.le (ruler.sum p q) (ruler.sum p' q') ≡ true
  sums_ordered p q p' q' le le' =
      laws.transitive _ _ _
      (ruled.ordered q q' p le')
      (subst₂ (λ x y. kind.le x y ≡ true) (ruled.comm q' p) (ruled.comm q' p') (ruled.ordered p p' q' le))

  summed_cases : (i : ℕ) (x y : Option L) → MatchOption x (NoPath (of 1) i) (Shortest (of 1) i) →
      MatchOption y (NoPath (of 2) i) (Shortest (of 2) i) → MatchOption (summed ruler.sum x y)
      (NoneThrough (of 1) 2 i) (ShortestThrough (of 1) 2 i)
  summed_cases i None y first second = λ a through.
      let parts = parted ruled adds b fits 1 2 i a through in
      first parts.first_cells parts.first parts.first_path
  summed_cases i (Some p) None first second = λ a through.
      let parts = parted ruled adds b fits 1 2 i a through in
      second parts.second_cells parts.second parts.second_path
  summed_cases i (Some p) (Some q) first second = record {
    through = joined ruled adds b fits 1 2 i first.cells second.cells p q first.path second.path;
    least = λ a through.
        let parts = parted ruled adds b fits 1 2 i a through in
        subst (λ x. kind.le (ruler.sum p q) x ≡ true) (sym parts.is)
        (sums_ordered p q parts.first parts.second (first.least parts.first_cells _ parts.first_path) (second.least parts.second_cells _ parts.second_path));
  }

  -- a cell's sum is the least length of a path between the groups through it
  sums : (i : ℕ) → i < area b.size → MatchOption (sum_of i) (NoneThrough (of 1) 2 i)
      (ShortestThrough (of 1) 2 i)
  sums i lt = summed_cases i _ _ (distances 1 i lt) (distances 2 i lt)

  sum_is : (i : ℕ) → i < area b.size → (a : L) → sum_of i ≡ Some a → ShortestThrough (of 1) 2 i a
  sum_is i lt a is = MatchOption-at_some _ (ShortestThrough (of 1) 2 i) a is (sums i lt)

  -- so a cell on a path between the groups has a sum, at most as long
  sum_within : (i : ℕ) → i < area b.size → (a : L) → BetweenThrough (of 1) 2 i a →
      (c : L) × (sum_of i ≡ Some c) × (kind.le c a ≡ true)
  sum_within i lt a through =
      ⊎_elim
      (λ none. absurd (MatchOption-at_none (NoneThrough (of 1) 2 i) _ none (sums i lt) a through))
      (λ some. (some.0, some.1, (sum_is i lt some.0 some.1).least a through))
      (option_cases (sum_of i))

  sum_at_end : (j : ℕ) (cells : List ℕ) (a : L) → PathBetween (of 1) 2 j cells a →
      (c : L) × (sum_of j ≡ Some c) × (kind.le c a ≡ true)
  sum_at_end j cells a path = sum_within j (source_within b 2 j path.1) a (through_end (of 1) 2 j cells a path)

  gap_none : gap ≡ None → NoPathBetween (of 1) 2
  gap_none none j cells a path =
      some_or_none (sum_at_end j cells a path).1 (MatchOption-at_none (NoneBelow sum_of (area b.size)) _ none (least_below laws ruler.sum _ _ (area b.size)) j (source_within b 2 j path.1))

  gap_is : (a : L) → gap ≡ Some a → LeastBelow kind sum_of (area b.size) a
  gap_is a is = MatchOption-at_some _ (LeastBelow kind sum_of (area b.size)) a is (least_below laws ruler.sum _ _ (area b.size))

  gap_some : (a : L) → gap ≡ Some a → ShortestBetween (of 1) 2 a
  gap_some a some =
      let low = gap_is a some in
      let through = (sum_is low.cell low.within a low.is).through in
      record {
        end = through.end;
        cells = through.cells;
        path = through.path;
        least = λ j others c path.
            let here = sum_at_end j others c path in
            laws.transitive _ _ _ (low.least j here.0 (source_within b 2 j path.1) here.1) here.2;
      }

  -- a cell whose sum is the gap is on a path as short as any, and the other way round
  marked_on : (i : ℕ) → i < area b.size → same_length kind (sum_of i) gap ≡ true → OnShortest (of 1) 2 i
  marked_on i lt marked =
      let same = one_length laws (sum_of i) gap marked in
      let through = (sum_is i lt same.0 same.1).through in
      record {
        end = through.end;
        cells = through.cells;
        length = same.0;
        path = through.path;
        least = (gap_some same.0 same.2).least;
        on = through.on;
      }

  on_marked : (i : ℕ) → i < area b.size → OnShortest (of 1) 2 i → same_length kind (sum_of i) gap ≡ true
  on_marked i lt shortest =
      let here = sum_within i lt shortest.length (record { end = shortest.end; cells = shortest.cells; path = shortest.path; on = shortest.on }) in
      ⊎_elim
      (λ none. absurd (gap_none none shortest.end shortest.cells _ shortest.path))
      (λ some.
      let found = gap_some some.0 some.1 in
      (λ k. same_length kind (here.1 k) (some.1 k)) ∙
      and_from _ _
      (laws.transitive _ _ _ here.2 (shortest.least found.end found.cells _ found.path))
      ((gap_is some.0 some.1).least i here.0 lt here.1))
      (option_cases gap)

pub gap_is_least : {L R : Type 0} {kind : Kind L R} → KindLaws kind → OverEveryRuler kind GapIsLeast
gap_is_least laws ruler ruled g adds b fits = some_cases _ _ _ (gap_none laws ruled adds b fits) (gap_some laws ruled adds b fits)

pub route_is_shortest : {L R : Type 0} {kind : Kind L R} → KindLaws kind →
    OverEveryRuler kind RouteIsShortest
route_is_shortest laws ruler ruled g adds b fits i lt = (marked_on laws ruled adds b fits i lt, on_marked laws ruled adds b fits i lt)
