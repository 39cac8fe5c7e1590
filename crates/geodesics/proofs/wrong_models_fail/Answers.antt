use Rattle.std.proofs.Common.{◌≡◌, ℕ, ◌++◌, true, false, List, [], ◌∷◌, refl, ap, nat_le, arith}
use Rattle.std.proofs.lemmas.Bool.Decides.{nat_tests}
use Rattle.std.specs.List.{All}
use Rattle.std.proofs.lemmas.List.Elements.{All-head}
use Rattle.measuring.specs.Maps.{measured_map, record_at}
use Rattle.measuring.specs.Rankings.{Bid, best, first_ranked, is_ranked, next_below}
use Rattle.geodesics.specs.Least.{LeastLengths}
use Rattle.geodesics.specs.Needed.{Grows, Ordered, by, disordered, shrinking}
use Rattle.geodesics.proofs.wrong_models_fail.Goals as goal

far : LeastLengths (by disordered) → ⊥
unfolding measured_map record_at best first_ranked is_ranked next_below
far least =
    let turning-back : nat_le 10 3 ≡ true = (least 2 (omega arith)).least (1 ∷ 0 ∷ 1 ∷ 0 ∷ []) 3 refl in
    grind (arith, nat_tests)

grows : Grows disordered
grows s genuine a = grind (arith, nat_tests)

pub returns-clause-order : goal.returns-clause-order
returns-clause-order c = (grows, far)

near : LeastLengths (by shrinking) → ⊥
unfolding measured_map record_at best first_ranked is_ranked next_below
near least =
    let there-and-back : nat_le 1 0 ≡ true = (least 1 (omega arith)).least (2 ∷ 1 ∷ 0 ∷ []) 0 refl in
    grind (arith, nat_tests)

ordered : Ordered shrinking
ordered s genuine a b le = grind (arith, nat_tests)

pub returns-clause-growth : goal.returns-clause-growth
returns-clause-growth c = (ordered, near)

abbrev at_zero : ℕ → ℕ → Bid ℕ
at_zero cell link = record { cell = cell; length = 0; pad = 1; link = link }

abbrev head_or : Bid ℕ → List (Bid ℕ) → Bid ℕ
head_or d [] = d
head_or d (x ∷ xs) = x

-- the offer of the cell ranked last is not the first of two that are as short
not_first : (before behind : List (Bid ℕ)) → (at_zero 1 0 ∷ at_zero 1 2 ∷ []) ≡ before ++ (at_zero 1 2 ∷ behind) → All (λ y. nat_le y.length 0 ≡ false) before → ⊥
not_first [] behind is longer = omega (arith, ap (λ xs. (head_or (at_zero 9 9) xs).link) is)
not_first (y ∷ ys) behind is longer =
    let same : 0 ≡ y.length = ap (λ xs. (head_or (at_zero 9 9) xs).length) is in
    let above : nat_le y.length 0 ≡ false = All-head (λ y. nat_le y.length 0 ≡ false) y ys longer in
    grind (arith, nat_tests)

pub returns-clause-first : goal.returns-clause-first
returns-clause-first c = λ first. let f = first (at_zero 2 0 ∷ at_zero 0 0 ∷ []) 1 in not_first f.before f.behind f.is f.longer
