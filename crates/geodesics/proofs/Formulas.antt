-- The formulas of the rulers give a genuine step at least one unit and fewer than 2^24, and its
-- reverse as many. Assumes nothing.
use Rattle.std.proofs.Common.{◌≡◌, ℕ, ◌^◌, ◌<◌, ◌≤◌, cond, ⊎_elim, arith}
use Rattle.std.proofs.lemmas.Nat.{mul-le}
use Rattle.std.proofs.lemmas.Bool.{cases_lt, cond_both}
use Rattle.gauges.specs.Steps.{Genuine, reversed, rise, edge}
use Rattle.gauges.specs.Reverses.{rise_back, edge_back}
use Rattle.gauges.specs.Rulers.{chessboard_units, three_four_units, euclid_units}
use Rattle.gauges.specs.declared.step.Step.{Step}
use Rattle.gauges.proofs.Roots.{euclid_root}
use Rattle.geodesics.proofs.PlainSums.{Moderate}

rise_small : (s : Step) → Genuine s → rise s < 65536
rise_small s genuine = omega (arith, genuine.from.height, genuine.to.height)

pub chessboard_moderate : Moderate chessboard_units
chessboard_moderate = record { some = λ s _. omega arith; few = λ s genuine. omega (arith, rise_small s genuine) }

edge_or_corner : (s : Step) (a b : ℕ) → a ≤ b → (a ≤ cond (edge s) a b) × (cond (edge s) a b ≤ b)
edge_or_corner s a b le = cond_both (edge s) a b (λ x. (a ≤ x) × (x ≤ b)) (λ _. omega arith) (λ _. omega arith)

pub three_four_moderate : (w : ℕ) → w ≤ 64 → Moderate (three_four_units w)
three_four_moderate w light = record {
  some = λ s _. omega (arith, edge_or_corner s 3 4 (omega arith));
  few = λ s genuine.
      let small = rise_small s genuine in
      omega (arith, edge_or_corner s 3 4 (omega arith), mul-le w (rise s) 64 65535 light (omega arith));
}

pub euclid_moderate : Moderate euclid_units
euclid_moderate = record {
  some = λ s genuine.
      (euclid_root s (rise_small s genuine)).greatest 1 (omega (arith, edge_or_corner s 1 2 (omega arith)));
  few = λ s genuine.
      let small = rise_small s genuine in
      ⊎_elim
      (λ lt. lt)
      (λ le. absurd (omega (
        arith,
        (euclid_root s small).at_most,
        edge_or_corner s 1 2 (omega arith),
        mul-le (rise s) (rise s) 65535 65535 (omega arith) (omega arith),
        mul-le (2 ^ 24) (2 ^ 24) (euclid_units s) (euclid_units s) le le,
      )))
      (cases_lt (euclid_units s) (2 ^ 24));
}

-- a step and its reverse have the same units
abbrev pub Alike : (Step → ℕ) → Type 0
Alike units = (s : Step) → Genuine s → units (reversed s) ≡ units s

pub chessboard_alike : Alike chessboard_units
chessboard_alike s _ = rw (rise_back s)

pub three_four_alike : (w : ℕ) → Alike (three_four_units w)
three_four_alike w s _ = rw (rise_back s, edge_back s)

pub euclid_alike : Alike euclid_units
euclid_alike s _ = rw (rise_back s, edge_back s)
