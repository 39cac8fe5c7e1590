use Rattle.std.proofs.Common.{sym, refl, ap, ◌∙◌}
use Rattle.board.specs.Records.{offered_record}
use Rattle.measuring.specs.Rankings.{offered}
use Rattle.measuring.specs.Tracking.{offerer}
use Rattle.measuring.proofs.Tracks.{offer_kept, offer_none, offer_put, pushed}
use Rattle.measuring.proofs.measurement.Measurement.offer_across.Goals as goal

pub returns-in_default-clause-tracks : goal.returns-in_default-clause-tracks
returns-in_default-clause-tracks g c n view lt pad t =
    offer_none g.met.G.Length.Length.lawful c.args.number _ t (ap (offered (offerer c.args.from) c.args.number) (sym c.carry.ensures ∙ c.in_default.is))

pub returns-then-keeps-clause-tracks : goal.returns-then-keeps-clause-tracks
returns-then-keeps-clause-tracks g c n view lt pad t =
    let some = ap (offered (offerer c.args.from) c.args.number) (sym c.carry.ensures ∙ c.in-Some.is) in
    offer_kept g.met.G.Length.Length.lawful c.args.number _ _ c.index-map-number.result t lt c.index-map-number.is some (sym c.keeps.ensures ∙ c.if-keeps.true)

pub returns-clause-tracks : goal.returns-clause-tracks
returns-clause-tracks g c n view lt pad t =
    let some = ap (offered (offerer c.args.from) c.args.number) (sym c.carry.ensures ∙ c.in-Some.is) in
    let shuffled = rw c.encode-row.ensures at (pushed c.push.ensures c.requires.room) in
    rw (c.offered.ensures ∙ ap (λ row. offered_record row c.args.from.pad c.args.from.number) c.encode-row.ensures) (offer_put g.met.G.Length.Length.lawful c.args.number _ _ c.index-map-number.result t lt c.requires.within c.index-map-number.is some refl pad (sym c.keeps.ensures ∙ c.if-keeps.false) shuffled)
