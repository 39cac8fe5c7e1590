-- Sums of a weight over the numbers below n, by any weight. Assumes nothing.
use Rattle.std.proofs.Common.{◌≡◌, ℕ, zero, suc, ◌+◌, ◌<◌, ◌≤◌, Bool, true, false, cond, sym, refl, ap, ◌∙◌, ⊎_elim, arith}
use Rattle.std.proofs.lemmas.Bool.{cases_eq}
use Rattle.measuring.specs.Sums.{how_many, sum_below}

pub sum_same : (f g : ℕ → ℕ) (n : ℕ) → ((j : ℕ) → j < n → f j ≡ g j) → sum_below f n ≡ sum_below g n
sum_same f g zero same = refl
sum_same f g (suc n) same =
    let before = sum_same f g n (λ j lt. same j (omega arith)) in
    let here = same n (omega arith) in
    λ i. before i + here i

pub sum_none : (f : ℕ → ℕ) (n : ℕ) → ((j : ℕ) → j < n → f j ≡ 0) → sum_below f n ≡ 0
sum_none f zero none = refl
sum_none f (suc n) none =
    let before = sum_none f n (λ j lt. none j (omega arith)) in
    let here = none n (omega arith) in
    omega arith

-- f is g, but for more at one number
pub sum_more : (f g : ℕ → ℕ) (n i more : ℕ) → i < n → f i ≡ g i + more →
    ((j : ℕ) → j < n → (j ≡ i → ⊥) → f j ≡ g j) → sum_below f n ≡ sum_below g n + more
sum_more f g zero i more lt here same = absurd (omega arith)
sum_more f g (suc n) i more lt here same =
    ⊎_elim
    (λ is.
    let before = sum_same f g n (λ j below. same j (omega arith) (omega arith)) in
    let here' : f n ≡ g n + more = ap f (sym is) ∙ here ∙ ap (λ i. g i + more) is in
    omega (arith, before, here'))
    (λ isnt.
    let before = sum_more f g n i more (omega arith) here (λ j below. same j (omega arith)) in
    let last = same n (omega arith) (λ e. isnt (sym e)) in
    omega (arith, before, last))
    (cases_eq i n)

-- the sum of one weight is at most that of another which is nowhere less, and less where that is
-- more somewhere
pub sum_at_most : (f g : ℕ → ℕ) (n : ℕ) → ((j : ℕ) → j < n → f j ≤ g j) → sum_below f n ≤ sum_below g n
sum_at_most f g zero most = omega arith
sum_at_most f g (suc n) most =
    let before = sum_at_most f g n (λ j lt. most j (omega arith)) in
    let here = most n (omega arith) in
    omega arith

pub sum_less : (f g : ℕ → ℕ) (n i : ℕ) → i < n → f i < g i →
    ((j : ℕ) → j < n → f j ≤ g j) → sum_below f n < sum_below g n
sum_less f g zero i lt less most = absurd (omega arith)
sum_less f g (suc n) i lt less most =
    ⊎_elim
    (λ is.
    let before = sum_at_most f g n (λ j below. most j (omega arith)) in
    let here : f n < g n = omega (arith, ap f is, ap g is, less) in
    omega arith)
    (λ isnt.
    let before = sum_less f g n i (omega arith) less (λ j below. most j (omega arith)) in
    let here = most n (omega arith) in
    omega arith)
    (cases_eq i n)

-- each number counted once
pub sum_ones : (n : ℕ) → sum_below (λ _. 1) n ≡ n
sum_ones zero = refl
sum_ones (suc n) = let before = sum_ones n in omega arith

pub passed_once : (b : Bool) → cond b 1 0 ≤ 1
passed_once true = omega arith
passed_once false = omega arith

pub how_many_at_most : (test : ℕ → Bool) (n : ℕ) → how_many test n ≤ n
how_many_at_most test n =
    omega (arith, sum_ones n, sum_at_most (λ j. cond (test j) 1 0) (λ _. 1) n (λ j _. passed_once (test j)))
