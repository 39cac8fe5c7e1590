use Rattle.std.proofs.Common.{◌≡◌, ◌+◌, ◌-◌, ◌∷◌, ◌++◌, length, take, drop, sym, subst, arith, rules}
use Rattle.std.specs.List.Sorted.{IsPermutation}
use Rattle.std.proofs.lemmas.List.{length-take-le}
use Rattle.std.proofs.lemmas.Slice.{overwrites}
use Rattle.std.proofs.lemmas.Bool.{lt-ltb}
use Rattle.queue.proofs.Parts.{holed_part, pushed_on}
use Rattle.queue.proofs.queues.Queue.push.Goals as goal

pub sift_up-requires-clause-holed : goal.sift_up-requires-clause-holed
sift_up-requires-clause-holed g c =
    let q = c.args.self.now in
    holed_part q.entries.now q.len (q.len + 1 - 0) q.len (omega arith) (omega arith) (λ i lt isnt. omega arith) (λ _. omega arith) q.ordered

pub returns : goal.returns
returns g c =
    let q = c.args.self.now in
    let xs = q.entries.now in
    let n = q.len in
    let ys = c.sift_up.new.entries in
    let long : length ys ≡ n + 1 = omega (arith, c.sift_up.auto.entries, length-take-le (n + 1 - 0) xs (omega arith)) in
    let part : take (n + 1) (ys ++ drop (n + 1 - 0) xs) ≡ ys = search (rules, overwrites) in
    record {
      answer = sym (lt-ltb n (length xs) c.if-len-self.false);
      len = λ _. n + 1;
      added = subst (IsPermutation (c.args.entry ∷ take n xs)) (sym part) (pushed_on xs ys n (n + 1 - 0) c.args.entry (omega arith) c.if-len-self.false c.sift_up.ensures.shuffled);
      beyond = search (rules, overwrites);
      room = search (rules, overwrites);
    }
