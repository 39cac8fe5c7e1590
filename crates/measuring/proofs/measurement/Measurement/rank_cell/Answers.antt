use Rattle.std.proofs.Common.{◌≡◌, ◌/◌, ◌%◌, ◌<◌, true, length, set, sym, ap, ◌∙◌, subst, arith}
use Rattle.std.proofs.lemmas.List.{get_or_default}
use Rattle.board.specs.Sizes.{area}
use Rattle.board.specs.Tables.{barred_cell}
use Rattle.queue.specs.Queues.{queued}
use Rattle.measuring.specs.Maps.{ranked_record}
use Rattle.measuring.specs.Measurements.{meant}
use Rattle.measuring.specs.Tracking.{Tracks, placed, raised, shown, updated, waiting}
use Rattle.measuring.proofs.Tracks.{place, tracks_same}
use Rattle.measuring.proofs.Turns.{offer_alike}
use Rattle.measuring.proofs.measurement.Measurement.rank_cell.Goals as goal

pub offer_around-requires-clause-placed : goal.offer_around-requires-clause-placed
offer_around-requires-clause-placed g c =
    let job = c.args.self.now in
    let cell = c.args.offer.cell in
    let lt : cell < length job.cells.now = omega (arith, job.within) in
    let read = get_or_default job.cells.now cell _ barred_cell lt in
    λ k. record { row = cell / job.size.columns; column = cell % job.size.columns; height = (read k).height }

pub returns-clause-tracks : goal.returns-clause-tracks
returns-clause-tracks g c view x waits level t =
    let job = c.args.self.now in
    let number = c.args.offer.cell in
    let kind = g.G.Length.Length.kind in
    let m = meant kind g.G.Gauge.crossing job in
    let named = t.named number x c.requires.cell waits in
    let known : c.index-map-number.result ≡ shown kind (waiting x) = c.index-map-number.is ∙ t.records number _ c.requires.cell ∙ ap (shown kind) waits in
    let ranked : ranked_record kind c.args.rank x ≡ record { length = c.index-map-number.result.length; reached = true; pad = c.index-map-number.result.pad; link = c.index-map-number.result.link; rank = c.args.rank } =
    λ k. record { length = (sym known k).length; reached = true; pad = (sym known k).pad; link = (sym known k).link; rank = c.args.rank } in
    let pad = ap (λ r. r.pad) known in
    tracks_same
    (λ j lt. ap (raised kind (updated view number (placed c.args.rank x) j)) (offer_alike m (record { cell = number; length = c.decode.result; pad = c.index-map-number.result.pad; link = number }) x j (sym named.0) (c.decode.ensures ∙ level) pad))
    (c.offer_around.ensures.tracks (updated view number (placed c.args.rank x))
    (omega (arith, pad, named.1))
    (subst (λ r. Tracks kind (area job.size) (updated view number (placed c.args.rank x)) (set c.args.map.now number r) (queued c.args.queue.now)) ranked (place c.args.offer c.args.rank x t (omega arith))))
