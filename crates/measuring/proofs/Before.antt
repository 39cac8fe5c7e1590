-- The cells before a place, and the part of a sum that comes of them, by any weight. Assumes nothing.
use Rattle.std.proofs.Common.{◌≡◌, ℕ, ◌+◌, ◌*◌, ◌/◌, ◌%◌, ◌<◌, Bool, true, false, cond, ◌⊎◌, sym, refl, ap, ◌∙◌, ⊎_elim, arith}
use Rattle.std.proofs.lemmas.Nat.{div-add-mod', div_below, div-mul-add, mod-mul-add}
use Rattle.std.proofs.lemmas.Bool.{cases_eq}
use Rattle.std.proofs.lemmas.Bool.Decides.{nat_tests}
use Rattle.board.specs.Sizes.{area, cell_at}
use Rattle.board.specs.declared.size.Size.{Size}
use Rattle.measuring.specs.Sums.{before, sum_before, sum_below}
use Rattle.measuring.proofs.Sums.{sum_more, sum_none, sum_same}

module _ (size : Size) (row column : ℕ) where
  abbrev place : ℕ
  place = cell_at size row column

  pub before_not_here : column < size.columns → before size row column place ≡ false
  before_not_here within =
      let q = div-mul-add row size.columns column within in
      let r = mod-mul-add row size.columns column within in
      grind (arith, nat_tests)

  pub before_then : column < size.columns → before size row (column + 1) place ≡ true
  before_then within =
      let q = div-mul-add row size.columns column within in
      let r = mod-mul-add row size.columns column within in
      grind (arith, nat_tests)

  pub before_other : (j : ℕ) → column < size.columns → (j ≡ place → ⊥) →
      before size row (column + 1) j ≡ before size row column j
  before_other j within other =
      let whole = div-add-mod' j size.columns in
      let apart : (j / size.columns ≡ row) → (j % size.columns ≡ column) → ⊥ = λ q r. other (sym whole ∙ (λ i. q i * size.columns + r i)) in
      ⊎_elim
      (λ q. ⊎_elim (λ r. absurd (apart q r)) (λ r. grind (arith, nat_tests)) (cases_eq (j % size.columns) column))
      (λ q. grind (arith, nat_tests))
      (cases_eq (j / size.columns) row)

-- before the first row is nothing, and before the row below the last one everything
pub before_none : (size : Size) (j : ℕ) → before size 0 0 j ≡ false
before_none size j = grind (arith, nat_tests)

pub before_all : (size : Size) (j : ℕ) → j < area size → before size size.rows 0 j ≡ true
before_all size j lt =
    let within = div_below j size.columns size.rows size.some_columns lt in
    grind (arith, nat_tests)

-- by any weight, the part of a sum before a place: none before the first row, all before the row
-- below the last one, and from one place to the next the weight of the cell at the place
pub sum_before_none : (weight : ℕ → ℕ) (size : Size) → sum_before weight size 0 0 ≡ 0
sum_before_none weight size =
    sum_none _ _ (λ j lt. ap (λ t. cond t (weight j) 0) (before_none size j))

pub sum_before_all : (weight : ℕ → ℕ) (size : Size) →
    sum_before weight size size.rows 0 ≡ sum_below weight (area size)
sum_before_all weight size =
    sum_same _ _ _ (λ j lt. ap (λ t. cond t (weight j) 0) (before_all size j lt))

pub sum_before_more : (weight : ℕ → ℕ) (size : Size) (row column : ℕ) → column < size.columns →
    cell_at size row column < area size →
    sum_before weight size row (column + 1) ≡
    sum_before weight size row column + weight (cell_at size row column)
sum_before_more weight size row column within lt =
    let here = cell_at size row column in
    let then = before_then size row column within in
    let not-yet = before_not_here size row column within in
    sum_more _ _ _ here _ lt
    (grind (arith, nat_tests))
    (λ j below other. ap (λ t. cond t (weight j) 0) (before_other size row column j within other))

-- and from one place to a later one nothing, where no cell between has a weight
pub sum_before_skips : (weight : ℕ → ℕ) (size : Size) (row column row' column' : ℕ) →
    ((j : ℕ) → j < area size →
    (before size row column j ≡ before size row' column' j) ⊎ (weight j ≡ 0)) →
    sum_before weight size row column ≡ sum_before weight size row' column'
sum_before_skips weight size row column row' column' skips =
    sum_same _ _ _ (λ j lt.
    ⊎_elim
    (λ e. ap (λ t. cond t (weight j) 0) e)
    (λ none. nothing (before size row column j) none ∙ sym (nothing (before size row' column' j) none))
    (skips j lt))
  where
    nothing : (t : Bool) {n : ℕ} → n ≡ 0 → cond t n 0 ≡ 0
    nothing true none = none
    nothing false none = refl
