-- Plain sums part by part, and their bounds. Assumes nothing.
use Rattle.std.proofs.Common.{◌≡◌, ℕ, ◌+◌, ◌-◌, ◌*◌, ◌^◌, ◌<◌, ◌≤◌, Bool, true, false, cond, eqb, List, [], ◌∷◌, length, Some, None, Option, refl, arith}
use Rattle.std.proofs.lemmas.Bool.{eqb-false}
use Rattle.board.specs.Sizes.{area}
use Rattle.gauges.specs.Steps.{Genuine}
use Rattle.gauges.specs.declared.step.Step.{Step}
use Rattle.measuring.specs.Boards.{Board, open_neighbour, source_of, step}
use Rattle.geodesics.specs.Fitting.{Fitting}
use Rattle.geodesics.specs.Transform.{plus, plain_sum}
use Rattle.geodesics.proofs.Crossings.{source_within}
use Rattle.geodesics.proofs.GenuineSteps.{neighbour_within, genuine_step}

-- a step has at least one unit, and fewer than 2^24
pub record Moderate (units : Step → ℕ) : Type 0 where
  pub some : (s : Step) → Genuine s → 1 ≤ units s
  pub few : (s : Step) → Genuine s → units s < 2 ^ 24

-- what is found behind a test
pub taken_some : {A : Type 0} (t : Bool) (o : Option A) (x : A) → cond t o None ≡ Some x →
    (t ≡ true) × (o ≡ Some x)
taken_some true o x e = (refl, e)
taken_some false o x e = absurd (grind arith)

-- what is found at a source
pub source_sum : {A : Type 0} (t : Bool) (x y : A) → cond t None (Some x) ≡ Some y →
    (t ≡ false) × (y ≡ x)
source_sum true x y e = absurd (grind arith)
source_sum false x y e = (refl, cc)

-- the parts of a sum across a step
pub record Across (units : ℕ) (t : Bool) (before : Option ℕ) (n : ℕ) : Type 0 where
  pub taken : t ≡ true
  pub sum : ℕ
  pub before_is : before ≡ Some sum
  pub after_is : n ≡ sum + units

pub across : (units : ℕ) (t : Bool) (before : Option ℕ) (n : ℕ) →
    cond t (plus units before) None ≡ Some n → Across units t before n
across units t None n e = let found = (taken_some t None n e).1 in absurd (grind arith)
across units t (Some k) n e =
    let found = taken_some t (Some (k + units)) n e in
    record { taken = found.0; sum = k; before_is = refl; after_is = cc found.1 }

-- a list ends at a cell of the board, and each of its steps adds from 1 to 2^24 − 1
pub record Bounded (b : Board) (j steps n : ℕ) : Type 0 where
  pub within : j < area b.size
  pub least : steps ≤ n
  pub greatest : n ≤ steps * (2 ^ 24 - 1)

pub sum_bounded : {units : Step → ℕ} → Moderate units → (b : Board) → Fitting b → (group j : ℕ)
    (cells : List ℕ) (n : ℕ) → plain_sum units b group (j ∷ cells) ≡ Some n →
    Bounded b j (length cells) n
sum_bounded moderate b fitting group j [] n e =
    let start = source_sum (eqb (source_of b group j) 0) 0 n e in
    record { within = source_within b group j (omega (arith, eqb-false (source_of b group j) 0 start.0)); least = omega arith; greatest = omega arith }
sum_bounded {units} moderate b fitting group j (i ∷ cells) n e =
    let parts = across (units (step b i j)) (open_neighbour b i j) (plain_sum units b group (i ∷ cells)) n e in
    let before = sum_bounded moderate b fitting group i cells parts.sum parts.before_is in
    let genuine = genuine_step b fitting i j before.within parts.taken in
    record {
      within = neighbour_within b i j parts.taken;
      least = omega (arith, moderate.some _ genuine);
      greatest = omega (arith, moderate.few _ genuine);
    }
