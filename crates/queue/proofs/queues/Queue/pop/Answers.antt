use Rattle.std.proofs.Common.{◌≡◌, ◌+◌, ◌-◌, ◌<◌, ◌∷◌, ◌++◌, length, get_or, take, drop, set, Some, sym, refl, subst, arith, rules}
use Rattle.std.specs.List.Sorted.{IsPermutation}
use Rattle.std.proofs.lemmas.List.{length-take-le}
use Rattle.std.proofs.lemmas.Slice.{overwrites}
use Rattle.queue.specs.Queues.{Pops}
use Rattle.queue.proofs.Parts.{holed_part, popped_off, last_off, least_of}
use Rattle.queue.proofs.queues.Queue.pop.Goals as goal
use Rattle.queue.proofs.queues.Queue.pop.Goals.{then-len-gt0, else-len-gt0}

pub replace_first-requires-clause-holed : goal.replace_first-requires-clause-holed
replace_first-requires-clause-holed g c =
    let q = c.args.self.now in
    holed_part q.entries.now q.len (q.len - 1 - 0) 0 (omega (arith, q.within)) q.within (λ i lt _. omega arith) (λ some. omega arith) q.ordered

-- both ways: with entries left to sift, and with the last one out
pub returns : goal.returns
returns g c =
    let le = g.O.Order.le in
    let laws = g.met.O.Order.lawful in
    let q = c.args.self.now in
    let xs = q.entries.now in
    let n = q.len in
    let k = n - 1 in
    let first = c.index-self-0.result in
    let is = c.index-self-0.is in
    let some : 0 < n = omega (arith, c.if-self-eq0.false) in
    let back : n ≡ k + 1 = omega arith in
    let least = least_of xs xs n k first back q.within is laws q.ordered in
    let after : Pops le q c.if-len-gt0.self (Some first) =
    elim c.if-len-gt0.branch [
      | then-len-gt0 w ↦
          let ys = w.replace_first.new.entries in
          let last = w.index-self-len in
          let less : k - 0 ≡ k = omega arith in
          let long : length ys ≡ k = omega (arith, w.replace_first.auto.entries, length-take-le (k - 0) xs (omega (arith, q.within))) in
          let part : take k (ys ++ drop (k - 0) xs) ≡ ys = search (rules, overwrites) in
          let sifted = subst (λ j. IsPermutation (set (take j xs) 0 (get_or xs k last.result)) ys) less w.replace_first.ensures.shuffled in
          let off = popped_off xs ys n k first back q.within is last.result last.is w.if-len-gt0.true
          (subst (λ y. IsPermutation (set (take k xs) 0 y) ys) (sym last.is) sifted) in
          subst (λ q'. Pops le q q' (Some first)) (sym w.self-is) (record {
            len = refl;
            taken = (some, subst (λ l. IsPermutation (take n xs) (first ∷ l)) (sym part) off, least);
            beyond = search (rules, overwrites);
            room = search (rules, overwrites);
          })
      | else-len-gt0 w ↦
          let none : k ≡ 0 = omega (arith, w.if-len-gt0.false) in
          subst (λ q'. Pops le q q' (Some first)) (sym w.self-is) (record {
            len = refl;
            taken = (some, last_off xs xs n k first back q.within is none, least);
            beyond = refl;
            room = refl;
          })
    ] in
    subst (λ y. Pops le q c.if-len-gt0.self (Some y)) is after
