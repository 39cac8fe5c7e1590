-- The root bit by bit is the greatest number whose square is at most x. Assumes nothing.
use Rattle.std.proofs.Common.{◌≡◌, ℕ, zero, suc, ◌+◌, ◌*◌, ◌^◌, ◌<◌, ◌≤◌, leb, subst, ⊎_elim, arith}
use native.Mathlib.Nat.{two-pow-succ}
use Rattle.std.proofs.lemmas.Nat.{mul-le}
use Rattle.std.proofs.lemmas.Bool.{cases_lt, cond_both, leb-true, leb-false}
use Rattle.gauges.specs.Steps.{rise, edge}
use Rattle.gauges.specs.Rulers.{Root, root_from, root, euclid_square, euclid_units}
use Rattle.gauges.specs.declared.step.Step.{Step}

-- q is the root where x lies between the squares of q and of q + 1
pub between_root : (x q : ℕ) → q * q ≤ x → x < (q + 1) * (q + 1) → Root x q
between_root x q low high = record {
  at_most = low;
  greatest = λ m is. ⊎_elim (λ lt. absurd (omega (arith, mul-le (q + 1) (q + 1) m m (omega arith) (omega arith)))) (λ le. le) (cases_lt q m);
}

-- a number has one root
pub one_root : {x m n : ℕ} → Root x m → Root x n → m ≡ n
one_root {x} {m} {n} a b = omega (arith, a.greatest n b.at_most, b.greatest m a.at_most)

root_from_is : (k r x : ℕ) → r * r ≤ x → x < (r + 2 ^ k) * (r + 2 ^ k) → Root x (root_from k r x)
unfolding root_from
root_from_is zero r x low high = between_root x r low high
root_from_is (suc k) r x low high =
    let wide : x < ((r + 2 ^ k) + 2 ^ k) * ((r + 2 ^ k) + 2 ^ k) = subst (λ w. x < w * w) (omega (arith, two-pow-succ k)) high in
    cond_both (leb ((r + 2 ^ k) * (r + 2 ^ k)) x) (r + 2 ^ k) r (λ q. Root x (root_from k q x))
    (λ is. root_from_is k (r + 2 ^ k) x (leb-true _ _ is) wide)
    (λ isnt. root_from_is k r x low (leb-false _ _ isnt))

pub root_is : (x : ℕ) → x < 2 ^ 64 → Root x (root x)
unfolding root
root_is x fits = root_from_is 32 0 x (omega arith) fits

-- the root of what a step's length squares to
pub euclid_root : (s : Step) → rise s < 65536 → Root (euclid_square s) (euclid_units s)
euclid_root s small =
    root_is (euclid_square s)
    (cond_both (edge s) 1 2 (λ z. 65536 * (rise s * rise s + z) < 2 ^ 64)
    (λ _. omega (arith, mul-le (rise s) (rise s) 65535 65535 (omega arith) (omega arith)))
    (λ _. omega (arith, mul-le (rise s) (rise s) 65535 65535 (omega arith) (omega arith))))

-- beyond a rise of 255 the width of a cell adds less than a 256th
pub steep_root : (s : Step) → 256 ≤ rise s → Root (euclid_square s) (256 * rise s)
steep_root s steep =
    cond_both (edge s) 1 2 (λ z. Root (65536 * (rise s * rise s + z)) (256 * rise s))
    (λ _. between_root _ _ (omega arith) (omega arith))
    (λ _. between_root _ _ (omega arith) (omega arith))
