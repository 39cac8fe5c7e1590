use Rattle.std.proofs.Common.{◌≡◌, ◌-◌, ◌++◌, drop, arith, rules}
use Rattle.std.proofs.lemmas.Slice.{overwrites}
use Rattle.board.specs.Sizes.{area}
use Rattle.measuring.proofs.measure_group.Goals as goal

pub returns-clause-fills : goal.returns-clause-fills
returns-clause-fills g c =
    let part : c.area-area.result - 0 ≡ area c.args.size = omega arith in
    record {
      map = λ i. c.rank_all.ensures.map i ++ drop (part i) c.args.map.now;
      counts = λ i. record { reached = c.rank_all.ensures.reached i; steps = c.rank_all.ensures.steps i };
      beyond = search (rules, overwrites);
    }
