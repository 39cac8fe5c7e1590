use Rattle.std.proofs.Common.{◌≡◌, ◌+◌, ◌*◌, ◌<◌, length, get_or, arith}
use Rattle.std.proofs.lemmas.List.{get_or_read, length-set}
use Rattle.queue.specs.Heaps.{parent}
use Rattle.queue.proofs.Sifting.{each_child, itself, moved_down, shuffled_moved}
use Rattle.queue.proofs.heap.sift_down.Goals as goal

pub loop-hole-preserved : goal.loop-hole-preserved
loop-hole-preserved g c =
    let laws = g.met.O.Order.lawful in
    let xs = c.loop-hole.entries in
    let h = c.loop-hole.hole in
    let k = c.lesser-child.result in
    let v = c.index-entries-child.result in
    let inv = c.loop-hole.invariant in
    let told = c.lesser-child.ensures in
    let down : parent k ≡ h = omega (arith, told.beside) in
    let later : h < k = omega (arith, told.beside) in
    let within : k < length xs = omega (arith, told.beside) in
    let value = get_or_read xs k v within c.index-entries-child.is in
    let least = each_child laws xs h k (λ d. told.at_most_left d) (λ d _. told.at_most_right d) in
    record {
      within = omega (arith, length-set xs h v);
      holed = moved_down laws xs h k v later within down value least inv.holed;
      shuffled = λ x. shuffled_moved xs h v _ k x inv.within within (omega arith) value (inv.shuffled x);
    }

-- an only child
pub returns-then-hole-len : goal.returns-then-hole-len
returns-then-hole-len g c =
    let laws = g.met.O.Order.lawful in
    let xs = c.loop-hole.entries in
    let h = c.loop-hole.hole in
    let k = 2 * h + 1 in
    let v = c.index-entries-child-then-hole-len.result in
    let inv = c.loop-hole.invariant in
    let within : k < length xs = omega arith in
    let value = get_or_read xs k v within c.index-entries-child-then-hole-len.is in
    let least = each_child laws xs h k (λ d. itself laws (get_or xs k d)) (λ d more. absurd (omega arith)) in
    record {
      within = omega (arith, length-set xs h v);
      leaf = omega (arith, length-set xs h v);
      holed = moved_down laws xs h k v (omega arith) within (omega arith) value least inv.holed;
      shuffled = λ x. shuffled_moved xs h v _ k x inv.within within (omega arith) value (inv.shuffled x);
    }
