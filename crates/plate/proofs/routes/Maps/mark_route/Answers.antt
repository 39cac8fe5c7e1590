use Rattle.std.proofs.Common.{◌≡◌, ℕ, ◌+◌, ◌≤◌, Bool, true, false, cond, refl, ap, ◌∙◌, add-one, arith}
use mir.Val.{bool_byte}
use Rattle.std.proofs.lemmas.List.FromFn.{fill_by_all}
use Rattle.std.proofs.lemmas.List.Edits.{fill_by_more}
use Rattle.measuring.specs.Sums.{how_many}
use Rattle.measuring.specs.MapReadings.{marked, on_route, route_marks, same_length}
use Rattle.measuring.proofs.Sums.{sum_at_most, sum_ones}
use Rattle.plate.proofs.routes.Maps.mark_route.Goals as goal

mark_is : (b : Bool) → bool_byte b ≡ cond b 1 0
mark_is true = refl
mark_is false = refl

mark_small : (b : Bool) → bool_byte b ≤ 1
mark_small true = omega arith
mark_small false = omega arith

one_or_none : (b : Bool) → cond b 1 0 ≤ 1
one_or_none true = omega arith
one_or_none false = omega arith

at_most_all : (test : ℕ → Bool) (n : ℕ) → how_many test n ≤ n
at_most_all test n =
    let few = sum_at_most (λ j. cond (test j) 1 0) (λ _. 1) n (λ j lt. one_or_none (test j)) in
    omega (arith, few, sum_ones n)

pub overflow_add-count : goal.overflow_add-count
overflow_add-count g c =
    let maps = c.args.self.now in
    let on = on_route g.R.Length.Length.kind (g.R.Ruler.ruling maps.ruler.now).sum maps.first.now maps.second.now maps.area in
    let few = at_most_all on c.loop-number.number in
    omega (arith, few, mark_small c.is_same-on_route.result)

pub loop-number-preserved : goal.loop-number-preserved
loop-number-preserved g c =
    let kind = g.R.Length.Length.kind in
    let maps = c.args.self.now in
    let number = c.loop-number.number in
    let on = on_route kind (g.R.Ruler.ruling maps.ruler.now).sum maps.first.now maps.second.now maps.area in
    let same : c.is_same-on_route.result ≡ on number =
    c.is_same-on_route.ensures ∙ (λ i. same_length kind (c.sum_at.ensures i) (c.least_sum-gap.ensures i)) in
    let mark : bool_byte c.is_same-on_route.result ≡ cond (on number) 1 0 = mark_is _ ∙ ap (λ b. cond b 1 0) same in (
      rw mark (fill_by_more (λ k. cond (on k) 1 0) c.loop-number.marks number 0 (omega arith) c.loop-number.invariant.0),
      rw add-one (λ i. c.loop-number.invariant.1 i + mark i),
    )

pub returns : goal.returns
unfolding route_marks marked
returns g c =
    let maps = c.args.self.now in
    let on = on_route g.R.Length.Length.kind (g.R.Ruler.ruling maps.ruler.now).sum maps.first.now maps.second.now maps.area in
    let all : c.loop-number.number ≡ c.args.self.now.area = omega arith in
    record {
      marks = fill_by_all (λ k. cond (on k) 1 0) c.loop-number.marks _ 0 (omega arith) (λ k lt. c.loop-number.invariant.0 k (omega arith));
      count = c.loop-number.invariant.1 ∙ ap (how_many on) all;
    }
