-- The plate has as many cells as its dimensions ask for. Assumes nothing.
use Rattle.std.proofs.Common.{◌≡◌, ◌*◌, subst, ◌∙◌, arith}
use Rattle.std.proofs.lemmas.Result.{IfOk-weaker}
use Rattle.board.specs.Sizes.{area_asked}
use Rattle.runs.specs.Places.{PlacesFor}
use Rattle.runs.proofs.space.places_on.Goals as goal

pub returns-clause-fit : goal.returns-clause-fit
returns-clause-fit g c =
    let good = c.in-Some.ensures.0 in
    let sized = c.in-Some.ensures.1 in
    let area : c.area.result ≡ area_asked c.args.dimensions = c.area.ensures.value
    ∙ λ k. sized.rows k * sized.columns k in
    IfOk-weaker c.places.result _ _ (λ places fit. record {
      none = λ bad. absurd (grind (arith, good, bad));
      fit = λ _. subst (λ n. PlacesFor g.C.RunCall.as_call n c.args.calls.now places.items) area
          fit;
    }) c.places.ensures.fit
