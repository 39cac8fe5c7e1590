-- Paths by a gauge that adds by a lawful ruler: a step adds its own length, and can be taken back.
-- Assumes nothing.
use Rattle.std.proofs.Common.{◌≡◌, ℕ, ◌<◌, true, false, eqb, List, [], ◌∷◌, Some, None, sym, ap, ◌∙◌, subst, subst₂, arith}
use Rattle.std.proofs.lemmas.Bool.{and_parts, and_from, cond-false, eqb-false, ltb-true, ne_eqb}
use Rattle.std.proofs.lemmas.Bool.Decides.{nat_tests}
use Rattle.board.specs.Sizes.{area}
use Rattle.lengths.specs.Kinds.{Kind, KindLaws}
use Rattle.gauges.specs.Steps.{Genuine, neighbours}
use Rattle.gauges.specs.Meanings.{Crossing, Lawful, Ruling, RulerLaws, ByAdding}
use Rattle.gauges.specs.declared.step.Point.{Point}
use Rattle.gauges.specs.RulerLaw.{ruler_lawful}
use Rattle.measuring.specs.Boards.{Board, is_open, open_neighbour, point, source_of, step}
use Rattle.measuring.specs.Paths.{Measuring, onward, Path, measuring}
use Rattle.geodesics.specs.Fitting.{Fitting}
use Rattle.geodesics.proofs.Crossings.{Crosses, carried, crosses_onward, path_parts}
use Rattle.geodesics.proofs.GenuineSteps.{genuine_step}
use Rattle.geodesics.proofs.PlainSums.{source_sum}

-- what adds by a lawful ruler is a lawful gauge
pub adding_lawful : {L R : Type 0} {kind : Kind L R} {ruler : Ruling L} {g : Crossing L} →
    KindLaws kind → RulerLaws kind ruler → ByAdding ruler g → Lawful kind g
adding_lawful {kind = kind} {ruler = ruler} {g = g} k laws adds =
    let lawful = ruler_lawful k laws in
    record {
      grows = λ s genuine unbarred a.
          let free = sym (adds.barred s genuine) ∙ unbarred in
          subst (λ x. kind.le a x ≡ true) (sym (adds.carried s genuine free a)) (lawful.grows s genuine free a);
      ordered = λ s genuine unbarred a b le.
          let free = sym (adds.barred s genuine) ∙ unbarred in
          subst₂ (λ x y. kind.le x y ≡ true) (sym (adds.carried s genuine free a)) (sym (adds.carried s genuine free b)) (lawful.ordered s genuine free a b le);
    }

neighbours_back : (p q : Point) → neighbours p.row p.column q.row q.column ≡ true →
    neighbours q.row q.column p.row p.column ≡ true
neighbours_back p q near = grind (arith, nat_tests)

source_open : (b : Board) (group j : ℕ) → 0 < source_of b group j → is_open b j ≡ true
source_open b group j some = grind (arith, nat_tests)

-- a path of one cell is a source, and its length zero
pub path_source : {L R : Type 0} (m : Measuring L R) (j : ℕ) (a : L) → Path m j [] a →
    (0 < source_of m.board m.group j) × (a ≡ m.kind.zero)
path_source m j a path =
    let source = source_of m.board m.group j in
    let start = source_sum (eqb source 0) m.kind.zero a path in
    (omega (arith, eqb-false source 0 start.0), start.1)

pub source_path : {L R : Type 0} (m : Measuring L R) (j : ℕ) → 0 < source_of m.board m.group j →
    Path m j [] m.kind.zero
source_path m j some =
    let source = source_of m.board m.group j in
    cond-false (eqb source 0) None _ (ne_eqb source 0 (omega arith))

-- a path ends at an open cell
pub path_open : {L R : Type 0} (m : Measuring L R) (j : ℕ) (cells : List ℕ) (a : L) →
    Path m j cells a → is_open m.board j ≡ true
path_open m j [] a path = source_open m.board m.group j (path_source m j a path).0
path_open m j (i ∷ cells) a path = (and_parts _ _ (path_parts m i j cells a path).2.near).1

module _ {L R : Type 0} {kind : Kind L R} {ruler : Ruling L} (laws : RulerLaws kind ruler)
    {g : Crossing L} (adds : ByAdding ruler g) (b : Board) (fits : Fitting b) where
  genuine : (group i j : ℕ) → is_open b i ≡ true → Crosses (measuring kind g b group) i j →
      Genuine (step b i j)
  genuine group i j here crosses = genuine_step b fits i j (ltb-true i (area b.size) (and_parts _ _ here).0) crosses.near

  free : (group i j : ℕ) → is_open b i ≡ true → Crosses (measuring kind g b group) i j →
      ruler.barred (step b i j) ≡ false
  free group i j here crosses = sym (adds.barred _ (genuine group i j here crosses)) ∙ crosses.unbarred

  carried_adds : (group i j : ℕ) → is_open b i ≡ true → Crosses (measuring kind g b group) i j →
      (a : L) → carried (measuring kind g b group) i j a ≡ ruler.sum a (ruler.span (step b i j))
  carried_adds group i j here crosses = adds.carried _ (genuine group i j here crosses) (free group i j here crosses)

  -- whichever group is measured, the step back can be taken
  crosses_back : (group other i j : ℕ) → is_open b i ≡ true →
      Crosses (measuring kind g b group) i j → Crosses (measuring kind g b other) j i
  crosses_back group other i j here crosses =
      let there = and_parts _ _ crosses.near in
      let open-j : is_open b j ≡ true = there.1 in
      let near : open_neighbour b j i ≡ true = and_from _ _ (neighbours_back (point b i) (point b j) there.0) here in
      let back = genuine_step b fits j i (ltb-true j (area b.size) (and_parts _ _ open-j).0) near in
      record {
        near = near;
        unbarred = adds.barred _ back ∙ laws.barred_back _ (genuine group i j here crosses) ∙ free group i j here crosses;
      }

  -- a path goes on across a step by adding the step's length
  pub path_onward : (group i j : ℕ) (cells : List ℕ) (a : L) →
      Path (measuring kind g b group) i cells a → Crosses (measuring kind g b group) i j →
      Path (measuring kind g b group) j (i ∷ cells) (ruler.sum a (ruler.span (step b i j)))
  path_onward group i j cells a path crosses =
      let m = measuring kind g b group in
      ap (onward m i j) path ∙ crosses_onward m i j a crosses ∙ ap Some (carried_adds group i j (path_open m i cells a path) crosses a)

  -- a path to j by way of i is a path to i with the step's length added; and a path to j, of any
  -- group, goes on to i by adding the same
  pub path_back : (group i j : ℕ) (cells : List ℕ) (a : L) →
      Path (measuring kind g b group) j (i ∷ cells) a →
      (p s : L) × Path (measuring kind g b group) i cells p × (a ≡ ruler.sum p s) ×
      ((other : ℕ) (others : List ℕ) (q : L) → Path (measuring kind g b other) j others q → Path (measuring kind g b other) i (j ∷ others) (ruler.sum q s))
  path_back group i j cells a path =
      let m = measuring kind g b group in
      let parts = path_parts m i j cells a path in
      let here = path_open m i cells parts.0 parts.1 in
      let crosses = parts.2 in (
        parts.0,
        ruler.span (step b i j),
        parts.1,
        parts.3 ∙ carried_adds group i j here crosses parts.0,
        λ other others q rest.
            path_onward other j i others q rest (crosses_back group other i j here crosses) ∙
            ap (λ s. Some (ruler.sum q s)) (laws.span_back _ (genuine group i j here crosses) (free group i j here crosses)),
      )
