-- Paths and plain sums go together, and a measured length is the sum along its way. Assumes nothing.
use Rattle.std.proofs.Common.{◌≡◌, ℕ, zero, suc, ◌+◌, ◌^◌, ◌<◌, ◌≤◌, true, false, eqb, List, [], ◌∷◌, length, Some, None, MatchBool, Option, sym, refl, ap, ◌∙◌, subst, subst₂, arith}
use Rattle.std.proofs.lemmas.List.FromFn.{get_or-map-range_with_len}
use Rattle.std.proofs.lemmas.Bool.{cond-true, cond-false, cond_both}
use Rattle.std.proofs.lemmas.Bool.Decides.{when_true, when_false}
use Rattle.board.proofs.Areas.{area_bound}
use Rattle.board.specs.Sizes.{area}
use Rattle.board.specs.declared.record.MapRecord.{MapRecord}
use Rattle.lengths.specs.Kinds.{Kind, KindLaws}
use Rattle.gauges.specs.Meanings.{Crossing, Lawful}
use Rattle.gauges.specs.declared.step.Step.{Step}
use Rattle.measuring.specs.Boards.{Board, open_neighbour, source_of, step}
use Rattle.measuring.specs.Paths.{measuring, onward, path_length}
use Rattle.measuring.specs.Rankings.{Bid, ranking}
use Rattle.measuring.specs.Maps.{measured_map, ranked_record, record_at}
use Rattle.measuring.specs.Ways.{at, then, way_within}
use Rattle.geodesics.specs.Fitting.{Fitting}
use Rattle.geodesics.specs.Least.{measured_record}
use Rattle.geodesics.specs.Transform.{plus, plain_sum, NoList}
use Rattle.geodesics.proofs.Crossings.{path_parts}
use Rattle.geodesics.proofs.LeastPaths.{least_lengths, links_are_ways, when_cases}
use Rattle.geodesics.proofs.PlainSums.{Moderate, taken_some, source_sum, across, sum_bounded}

-- a gauge that bars nothing carries a sum and a number of steps, held by a length, across a step,
-- while the sum is below 2^64
pub record Carries {L R : Type 0} (kind : Kind L R) (g : Crossing L) (units : Step → ℕ)
    (held : ℕ → ℕ → L) : Type 0 where
  pub start : kind.zero ≡ held 0 0
  pub unbarred : (s : Step) → g.barred s ≡ false
  pub adds : (s : Step) (n k : ℕ) → k ≤ n → n + units s < 2 ^ 64 →
      g.carried s (held n k) ≡ held (n + units s) (suc k)

-- a list that has a sum is a path, whose length holds the sum and the steps while the sum is below 2^64
record Summed {L : Type 0} (held : ℕ → ℕ → L) (found : Option L) (n k : ℕ) : Type 0 where
  pub length : L
  pub is : found ≡ Some length
  pub exact : n < 2 ^ 64 → length ≡ held n k

module _ {L R : Type 0} {kind : Kind L R} {g : Crossing L} {units : Step → ℕ} {held : ℕ → ℕ → L}
    (carries : Carries kind g units held) (moderate : Moderate units) (b : Board)
    (fitting : Fitting b) (group : ℕ) where
  path_of_sum : (j : ℕ) (cells : List ℕ) (n : ℕ) → plain_sum units b group (j ∷ cells) ≡ Some n →
      Summed held (path_length (measuring kind g b group) (j ∷ cells)) n (length cells)
  path_of_sum j [] n e =
      let start = source_sum (eqb (source_of b group j) 0) 0 n e in
      record {
        length = kind.zero;
        is = cond-false _ _ _ start.0;
        exact = λ _. carries.start ∙ ap (λ x. held x 0) (sym start.1);
      }
  path_of_sum j (i ∷ cells) n e =
      let s = step b i j in
      let parts = across (units s) (open_neighbour b i j) (plain_sum units b group (i ∷ cells)) n e in
      let bounds = sum_bounded moderate b fitting group i cells parts.sum parts.before_is in
      let before = path_of_sum i cells parts.sum parts.before_is in
      record {
        length = g.carried s before.length;
        is = ap (onward (measuring kind g b group) i j) before.is ∙ cond-true _ _ _ parts.taken ∙ cond-false _ _ _ (carries.unbarred s);
        exact = λ fits.
            ap (g.carried s) (before.exact (omega arith))
            ∙ carries.adds s parts.sum (length cells) bounds.least (omega arith)
            ∙ ap (λ x. held x (suc (length cells))) (sym parts.after_is);
      }

  -- and every path has a sum
  sum_of_path : (j : ℕ) (cells : List ℕ) (a : L) → path_length (measuring kind g b group)
      (j ∷ cells) ≡ Some a → (n : ℕ) × (plain_sum units b group (j ∷ cells) ≡ Some n)
  sum_of_path j [] a e = (0, cond-false _ _ _ (source_sum (eqb (source_of b group j) 0) kind.zero a e).0)
  sum_of_path j (i ∷ cells) a e =
      let parts = path_parts (measuring kind g b group) i j cells a e in
      let before = sum_of_path i cells parts.0 parts.1 in
      (before.0 + units (step b i j), cond-true _ _ _ parts.2.near ∙ ap (plus (units (step b i j))) before.1)

then_short : (j n : ℕ) (o : Option (List ℕ)) (cells : List ℕ) →
    ((rest : List ℕ) → o ≡ Some rest → length rest ≤ n) → then j o ≡ Some cells →
    length cells ≤ suc n
then_short j n None cells short e = absurd (grind arith)
then_short j n (Some rest) cells short e = let same : j ∷ rest ≡ cells = cc in omega (arith, ap length same, short rest refl)

-- a way within n cells has at most n
pub way_short : {R : Type 0} (row : R) (map : List (MapRecord R)) (n j : ℕ) (cells : List ℕ) →
    way_within row map n j ≡ Some cells → length cells ≤ n
unfolding way_within
way_short row map zero j cells e = absurd (grind arith)
way_short row map (suc n) j cells e =
    let here = at row map j in
    cond_both (eqb here.link j) (Some (j ∷ [])) (then j (way_within row map n here.link)) (λ o. o ≡ Some cells → length cells ≤ suc n)
    (λ _ one. let same : j ∷ [] ≡ cells = cc in omega (arith, ap length same))
    (λ _ more. then_short j n (way_within row map n here.link) cells (way_short row map n here.link) more)
    (taken_some here.reached _ cells e).1

module _ {L R : Type 0} {kind : Kind L R} (laws : KindLaws kind) where
  record_kept : (ranked : List (Bid L)) (j : ℕ) →
      kind.encode (kind.decode (record_at kind ranked j).length) ≡ (record_at kind ranked j).length
  unfolding record_at
  record_kept [] j = ap kind.encode (laws.same kind.zero)
  record_kept (r ∷ ranked) j =
      cond_both (eqb r.cell j) (ranked_record kind (length ranked) r) (record_at kind ranked j) (λ x. kind.encode (kind.decode x.length) ≡ x.length)
      (λ _. ap kind.encode (laws.same r.length))
      (λ _. record_kept ranked j)

  -- a row of the measured map is that of the length that it is read as
  pub row_kept : (g : Crossing L) (b : Board) (group j : ℕ) → j < area b.size →
      let row = (measured_record (measuring kind g b group) j).length in
      kind.encode (kind.decode row) ≡ row
  unfolding measured_map
  row_kept g b group j within =
      let m = measuring kind g b group in
      subst (λ x. kind.encode (kind.decode x.length) ≡ x.length)
      (sym (get_or-map-range_with_len (record_at kind (ranking m)) 0 (area b.size) j j _ within (omega arith)))
      (record_kept (ranking m) j)

-- a list to the cell whose sum and steps the row holds, and no list to it is shorter as a length
pub record Found {L R : Type 0} (kind : Kind L R) (held : ℕ → ℕ → L) (units : Step → ℕ) (b : Board)
    (group j : ℕ) (row : R) : Type 0 where
  pub cells : List ℕ
  pub total : ℕ
  pub sum : plain_sum units b group (j ∷ cells) ≡ Some total
  pub steps : length cells ≤ total
  pub small : total < 2 ^ 40
  pub row_is : row ≡ kind.encode (held total (length cells))
  pub least : (others : List ℕ) (k : ℕ) → plain_sum units b group (j ∷ others) ≡ Some k →
      k < 2 ^ 64 → kind.le (held total (length cells)) (held k (length others)) ≡ true

-- what follows from such a list holds of a reached cell's row, and no list ends at an unreached cell
pub by_lists : {L R : Type 0} {kind : Kind L R} → KindLaws kind → {g : Crossing L} → Lawful kind g →
    {units : Step → ℕ} {held : ℕ → ℕ → L} → Carries kind g units held → Moderate units →
    (b : Board) → Fitting b → (group j : ℕ) → j < area b.size → (P : R → Type 0) →
    ((row : R) → Found kind held units b group j row → P row) →
    let here = measured_record (measuring kind g b group) j in
    MatchBool here.reached (P here.length) (NoList units b group j)
by_lists {kind = kind} laws {g = g} lawful {units = units} {held = held} carries moderate b fitting group j within P follows =
    let m = measuring kind g b group in
    let paths = path_of_sum carries moderate b fitting group j in
    let lengths = least_lengths laws g lawful b fitting group j within in
    when_cases (measured_record m j).reached
    (λ reached.
    let way = links_are_ways laws g lawful b fitting group j reached in
    let shortest = when_true _ _ reached lengths in
    let sum = sum_of_path carries moderate b fitting group j way.cells _ way.path in
    let bounds = sum_bounded moderate b fitting group j way.cells sum.0 sum.1 in
    let short = way_short _ _ (area b.size) j _ way.linked in
    let small : sum.0 < 2 ^ 40 = omega (arith, area_bound b.size) in
    let own = paths way.cells sum.0 sum.1 in
    let exact = own.exact (omega arith) in
    let held-is : kind.decode (measured_record m j).length ≡ held sum.0 (length way.cells) = cc in
    follows (measured_record m j).length (record {
      cells = way.cells;
      total = sum.0;
      sum = sum.1;
      steps = bounds.least;
      small = small;
      row_is = sym (row_kept laws g b group j within) ∙ ap kind.encode held-is;
      least = λ others k e fits.
          let other = paths others k e in
          subst₂ (λ x y. kind.le x y ≡ true) held-is (other.exact fits) (shortest.least others other.length other.is);
    }))
    (λ unreached cells n e. let path = paths cells n e in when_false _ _ unreached lengths cells path.length path.is)
