-- A place more for each call. Assumes nothing.
use Rattle.std.proofs.Common.{◌≡◌, ◌+◌, ◌≤◌, ◌∷◌, [], ◌++◌, length, ap, sym, subst, arith}
use Rattle.std.proofs.lemmas.List.{length_push}
use Rattle.runs.specs.Places.{PlaceFor, PlacesFrom}
use Rattle.runs.proofs.Taken.{place_on}
use Rattle.runs.proofs.space.places.Goals as goal

pub loop-i-preserved : goal.loop-i-preserved
loop-i-preserved g c =
    let old = c.loop-i in
    let p = c.in_ok-place.place in
    let items : c.push_reserved.new.self.items ≡ old.places.items ++ p ∷ [] =
    c.push_reserved.ensures.items in (
      omega (arith, length_push old.places.items p, ap length items, old.invariant.0),
      subst (λ cap. length c.args.calls.now ≤ cap)
          (sym c.push_reserved.ensures.capacity) old.invariant.1,
      subst (λ l. PlacesFrom g.C.RunCall.as_call 0 (old.i + 1) c.args.area c.args.calls.now l)
          (sym items)
          (place_on g.C.RunCall.as_call c.args.area c.args.calls.now old.places.items p old.i
          c.index-calls-i.result old.invariant.0 c.loop-i-test.true
          (subst (λ call. PlaceFor c.args.area (g.C.RunCall.as_call call) p) c.index-calls-i.is
          (subst (λ call. PlaceFor c.args.area call p) c.as_ruler_call.ensures
          c.in_ok-place.ensures)) old.invariant.2),
    )

pub returns-clause-fit : goal.returns-clause-fit
returns-clause-fit g c =
    let end = c.loop-i in
    record {
      long = omega (arith, end.invariant.0, end.auto.i-end, c.loop-i-test.false);
      fit = λ i call place from less. end.invariant.2 i call place from
          (omega (arith, less, c.loop-i-test.false, end.invariant.0));
    }
