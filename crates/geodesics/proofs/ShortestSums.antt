-- The length of a shortest path is that of its end in the measured map, so it is a least plain sum
-- where that is one. Assumes nothing.
use Rattle.std.proofs.Common.{◌≡◌, ℕ, ◌<◌, ◌≤◌, Bool, true, false, cond, eqb, List, [], ◌∷◌, Some, None, MatchBool, Option, refl, sym, ap, ◌∙◌, subst, ⊎_elim, arith}
use Rattle.std.proofs.lemmas.Bool.{and_parts, cases_Bool, cond-false, eqb-false, ltb-true, ne_eqb}
use Rattle.std.proofs.lemmas.Bool.Decides.{when_true, when_false}
use Rattle.board.specs.Sizes.{area}
use Rattle.lengths.specs.Kinds.{Kind, KindLaws}
use Rattle.gauges.specs.Meanings.{Crossing, Lawful}
use Rattle.gauges.specs.declared.step.Step.{Step}
use Rattle.measuring.specs.Boards.{Board, open_neighbour, source_of, step}
use Rattle.measuring.specs.Paths.{Measuring, Path, measuring}
use Rattle.geodesics.specs.Between.{NoPathBetween, ShortestBetween}
use Rattle.geodesics.specs.Fitting.{Fitting}
use Rattle.geodesics.specs.GapSums.{LeastSumBetween, NoListBetween, sum_between}
use Rattle.geodesics.specs.Least.{NoPath, Shortest, measured_record}
use Rattle.geodesics.specs.Transform.{LeastSum, NoList, plain_sum}
use Rattle.geodesics.proofs.AddedPaths.{path_open}
use Rattle.geodesics.proofs.Crossings.{source_within}
use Rattle.geodesics.proofs.GenuineSteps.{neighbour_within}
use Rattle.geodesics.proofs.LeastPaths.{least_lengths}
use Rattle.geodesics.proofs.PlainSums.{across, source_sum}
use Rattle.geodesics.proofs.SummedPaths.{row_kept}

-- a path, and a list that has a sum, end at a cell of the board
path_within : {L R : Type 0} (m : Measuring L R) (j : ℕ) (cells : List ℕ) (a : L) →
    Path m j cells a → j < area m.board.size
path_within m j cells a path = ltb-true j (area m.board.size) (and_parts _ _ (path_open m j cells a path)).0

list_within : (units : Step → ℕ) (b : Board) (group j : ℕ) (cells : List ℕ) (n : ℕ) →
    plain_sum units b group (j ∷ cells) ≡ Some n → j < area b.size
list_within units b group j [] n e =
    let source = source_of b group j in
    source_within b group j (omega (arith, eqb-false source 0 (source_sum (eqb source 0) 0 n e).0))
list_within units b group j (i ∷ cells) n e =
    neighbour_within b i j (across (units (step b i j)) (open_neighbour b i j) (plain_sum units b group (i ∷ cells)) n e).taken

unless_some : {A : Type 0} (t : Bool) (o : Option A) (x : A) → cond t None o ≡ Some x →
    (t ≡ false) × (o ≡ Some x)
unless_some true o x e = absurd (grind arith)
unless_some false o x e = (refl, e)

-- a list between the groups is a list of group 1 to a source of group 2
pub between_parts : (units : Step → ℕ) (b : Board) (j : ℕ) (cells : List ℕ) (n : ℕ) →
    sum_between units b j cells ≡ Some n → (0 < source_of b 2 j) × (plain_sum units b 1 (j ∷ cells) ≡ Some n)
between_parts units b j cells n e =
    let source = source_of b 2 j in
    let parts = unless_some (eqb source 0) (plain_sum units b 1 (j ∷ cells)) n e in
    (omega (arith, eqb-false source 0 parts.0), parts.1)

pub between_from : (units : Step → ℕ) (b : Board) (j : ℕ) (cells : List ℕ) (n : ℕ) →
    0 < source_of b 2 j → plain_sum units b 1 (j ∷ cells) ≡ Some n → sum_between units b j cells ≡ Some n
between_from units b j cells n some e =
    let source = source_of b 2 j in
    cond-false (eqb source 0) None _ (ne_eqb source 0 (omega arith)) ∙ e

-- of the measured maps this holds of a reached cell's row, and no list ends at an unreached cell
abbrev pub HoldsOfRows : {L R : Type 0} → Kind L R → Crossing L → (Step → ℕ) →
    (Board → ℕ → ℕ → R → Type 0) → Type 0
HoldsOfRows kind g units P =
    (b : Board) → Fitting b → (group j : ℕ) → j < area b.size →
    let here = measured_record (measuring kind g b group) j in
    MatchBool here.reached (P b group j here.length) (NoList units b group j)

module _ {L R : Type 0} {kind : Kind L R} (laws : KindLaws kind) {g : Crossing L} (lawful : Lawful kind g)
    (units : Step → ℕ) (P : Board → ℕ → ℕ → R → Type 0) (held : HoldsOfRows kind g units P) (b : Board) (fits : Fitting b) where
  abbrev of : ℕ → Measuring L R
  of group = measuring kind g b group

  -- it holds of the row of a shortest path's length
  pub shortest_row : (group j : ℕ) (a : L) → Shortest (of group) j a → P b group j (kind.encode a)
  shortest_row group j a shortest =
      let lt = path_within (of group) j shortest.cells a shortest.path in
      let lengths = least_lengths laws g lawful b fits group j lt in
      ⊎_elim
      (λ reached.
      let own = when_true _ _ reached lengths in
      let same : kind.decode (measured_record (of group) j).length ≡ a =
      laws.equal _ _ (own.least shortest.cells a shortest.path) (shortest.least own.cells _ own.path) in
      subst (P b group j) (sym (row_kept laws g b group j lt) ∙ ap kind.encode same) (when_true _ _ reached (held b fits group j lt)))
      (λ unreached. absurd (when_false _ (NoPath (of group) j) unreached lengths shortest.cells a shortest.path))
      (cases_Bool (measured_record (of group) j).reached)

  pub no_list : (group j : ℕ) → NoPath (of group) j → NoList units b group j
  no_list group j none cells n e =
      let lt = list_within units b group j cells n e in
      ⊎_elim
      (λ reached. let own = when_true _ _ reached (least_lengths laws g lawful b fits group j lt) in none own.cells _ own.path)
      (λ unreached. when_false _ (NoList units b group j) unreached (held b fits group j lt) cells n e)
      (cases_Bool (measured_record (of group) j).reached)

  -- a shortest path between the groups is a shortest path of group 1 to its end
  pub end_row : (a : L) (shortest : ShortestBetween (of 1) 2 a) → P b 1 shortest.end (kind.encode a)
  end_row a shortest = shortest_row 1 shortest.end a (record {
    cells = shortest.cells;
    path = shortest.path.0;
    least = λ others c path. shortest.least shortest.end others c (path, shortest.path.1);
  })

  -- and at most as long as a shortest path of group 1 to the end of a list between the groups
  pub record NoLonger (a : L) (j : ℕ) : Type 0 where
    pub length : L
    pub row : P b 1 j (kind.encode length)
    pub le : kind.le a length ≡ true

  pub no_longer : (a : L) → ShortestBetween (of 1) 2 a → (j : ℕ) (others : List ℕ) (k : ℕ) →
      sum_between units b j others ≡ Some k → NoLonger a j
  no_longer a shortest j others k e =
      let parts = between_parts units b j others k e in
      let lt = source_within b 2 j parts.0 in
      ⊎_elim
      (λ reached.
      let own = when_true _ _ reached (least_lengths laws g lawful b fits 1 j lt) in
      record {
        length = kind.decode (measured_record (of 1) j).length;
        row = shortest_row 1 j _ own;
        le = shortest.least j own.cells _ (own.path, parts.0);
      })
      (λ unreached. absurd (when_false _ (NoList units b 1 j) unreached (held b fits 1 j lt) others k parts.1))
      (cases_Bool (measured_record (of 1) j).reached)

  pub no_list_between : NoPathBetween (of 1) 2 → NoListBetween units b
  no_list_between none j cells n e =
      let parts = between_parts units b j cells n e in
      no_list 1 j (λ others a path. none j others a (path, parts.0)) cells n parts.1

  -- where rows hold least sums and lengths go by them, a shortest path between the groups has the
  -- least sum between them
  pub least_between : (sum_of : R → ℕ) →
      ((group j : ℕ) (row : R) → P b group j row → LeastSum units b group j (sum_of row)) →
      ((a c : L) → kind.le a c ≡ true → sum_of (kind.encode a) ≤ sum_of (kind.encode c)) →
      (a : L) → ShortestBetween (of 1) 2 a → LeastSumBetween units b (sum_of (kind.encode a))
  least_between sum_of sums ordered a shortest =
      let own = sums 1 shortest.end _ (end_row a shortest) in
      record {
        end = shortest.end;
        cells = own.cells;
        sum = between_from units b shortest.end own.cells _ shortest.path.1 own.sum;
        least = λ j others k e.
            let other = no_longer a shortest j others k e in
            let at_least = (sums 1 j _ other.row).least others k (between_parts units b j others k e).1 in
            omega (arith, ordered a other.length other.le);
        small = own.small;
      }
