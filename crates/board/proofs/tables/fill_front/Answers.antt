use Rattle.std.proofs.Common.{◌≡◌, ◌++◌, length, drop, replicate, refl, ap, ◌∙◌, rules, arith}
use Rattle.std.proofs.lemmas.Grind.{common_steps}
use Rattle.std.proofs.lemmas.Fn.{chained_keeps}
use Rattle.std.proofs.lemmas.List.{length-take-le}
use Rattle.board.proofs.tables.fill_front.Goals as goal

-- every call gives the value
pub returns : goal.returns
returns g c =
    let ran = c.fill_with.ensures.ran in
    let part = c.fill_with.new.self in
    let same : (part ≡ replicate (length part) c.args.value) × (ran.0.0.now ≡ c.args.value) =
    chained_keeps _ (λ xs f. (xs ≡ replicate (length xs) c.args.value) × (f.0.now ≡ c.args.value)) (λ _ _ _ _ kept step. (grind (arith, common_steps), search rules)) _ _ _ (refl, refl) ran.1 in
    let all : length part ≡ c.args.count = omega (arith, c.fill_with.ensures.len, length-take-le c.args.count c.args.table.now c.requires) in
    ap (λ xs. xs ++ drop c.args.count c.args.table.now) (same.0 ∙ ap (λ n. replicate n c.args.value) all)
