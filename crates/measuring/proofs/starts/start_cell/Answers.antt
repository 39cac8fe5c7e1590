use Rattle.std.proofs.Common.{refl, ap, ◌∙◌, arith}
use Rattle.board.specs.Records.{offered_record, unreached_record}
use Rattle.std.proofs.lemmas.Bool.Decides.{nat_tests}
use Rattle.measuring.proofs.Tracks.{pushed, start_none, start_put}
use Rattle.measuring.proofs.starts.start_cell.Goals as goal

pub returns-then-pad-eq0-clause-tracks : goal.returns-then-pad-eq0-clause-tracks
returns-then-pad-eq0-clause-tracks g c view is t =
    let row = c.encode-zero.ensures ∙ ap g.K.Length.kind.encode c.zero.ensures in
    rw (c.unreached.ensures ∙ ap unreached_record row)
    (start_none g.met.K.Length.lawful t c.requires.within (let none = c.if-pad-eq0.true in grind (arith, nat_tests)))

pub returns-clause-tracks : goal.returns-clause-tracks
returns-clause-tracks g c view is t =
    let row = c.encode-zero.ensures ∙ ap g.K.Length.kind.encode c.zero.ensures in
    let shuffled = rw row at (pushed c.push.ensures c.requires.room) in
    rw (c.offered.ensures ∙ ap (λ r. offered_record r c.args.pad c.args.number) row)
    (start_put g.met.K.Length.lawful _ t c.requires.within (let some = c.if-pad-eq0.false in grind (arith, nat_tests)) refl (omega arith) shuffled)
