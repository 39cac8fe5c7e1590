use Rattle.std.proofs.Common.{◌≡◌, ◌-◌, ◌/◌, true, sym, refl, ◌∙◌, subst, arith}
use Rattle.std.proofs.lemmas.List.{get_or_read, length-set}
use Rattle.queue.specs.Heaps.{Above}
use Rattle.queue.proofs.Sifting.{filled, moved_up, below_up, shuffled_moved, not_before}
use Rattle.queue.proofs.heap.sift_up.Goals as goal
use Rattle.queue.proofs.heap.sift_up.Goals.{else-loop-hole-test, then-loop-hole-test+then-at_most}

pub loop-hole-preserved : goal.loop-hole-preserved
loop-hole-preserved g c =
    let laws = g.met.O.Order.lawful in
    let xs = c.loop-hole.entries in
    let h = c.loop-hole.hole in
    let k = (h - 1) / 2 in
    let v = c.index-entries-parent.result in
    let inv = c.loop-hole.invariant in
    let value = get_or_read xs k v (omega arith) c.index-entries-parent.is in
    let some = c.loop-hole-test.true in
    record {
      within = omega (arith, length-set xs h v);
      holed = moved_up laws xs h k v inv.within some refl value inv.holed;
      below = below_up laws xs h k v inv.within some refl value inv.holed c.args.moving (not_before laws v c.args.moving c.if-at_most.ensures);
      shuffled = shuffled_moved xs h v _ k c.args.moving inv.within (omega arith) (omega arith) value inv.shuffled;
    }

pub returns : goal.returns
returns g c =
    let xs = c.loop-hole.entries in
    let h = c.loop-hole.hole in
    let inv = c.loop-hole.invariant in
    let above : Above g.O.Order.le xs h c.args.moving =
    elim c.loop-hole-test.branch [
      | else-loop-hole-test w ↦ λ d some. absurd (omega (arith, w.loop-hole-test))
      | then-loop-hole-test+then-at_most w ↦ λ d some.
          subst (λ y. g.O.Order.le y c.args.moving ≡ true) (get_or_read xs ((h - 1) / 2) w.index-entries-parent.result (omega arith) w.index-entries-parent.is d) (sym w.at_most.ensures ∙ w.if-at_most.true)
    ] in
    record { ordered = filled g.met.O.Order.lawful xs h c.args.moving inv.within inv.holed above inv.below; shuffled = inv.shuffled }
