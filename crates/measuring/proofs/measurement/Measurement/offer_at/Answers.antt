use Rattle.std.proofs.Common.{◌+◌, ◌<◌, not, length, sym, refl, ap, ◌∙◌, arith, rules}
use Rattle.std.proofs.lemmas.List.{get_or_default}
use Rattle.board.specs.Sizes.{cell_at}
use Rattle.board.specs.Tables.{barred_cell}
use Rattle.board.proofs.Areas.{cell_within}
use Rattle.queue.specs.Queues.{queued}
use Rattle.measuring.specs.Measurements.{board_of, meant}
use Rattle.measuring.specs.Tracking.{Walked, offerer}
use Rattle.measuring.proofs.Places.{across_is, beside_is, numbered, counted_one, offered_one, skipped, skips_one, stood}
use Rattle.measuring.proofs.Tracks.{tracks_same}
use Rattle.measuring.proofs.measurement.Measurement.offer_at.Goals as goal

pub returns-then-passed_over : goal.returns-then-passed_over
returns-then-passed_over g c =
    let job = c.args.self.now in
    let b = board_of job in
    let row = c.args.row in
    let column = c.args.column in
    let within : column < job.size.columns = c.requires.column in
    let on-board = cell_within job.size row column c.requires.row within in
    let lt : cell_at job.size row column < length job.cells.now = omega (arith, job.within) in
    let told = beside_is b c.args.from.number row column within c.args.from.at _ _ c.requires.placed (get_or_default job.cells.now _ barred_cell _ lt) c.requires.beside on-board (rw c.number-number.ensures at c.passed_over.ensures) in
    let walked : Walked (meant g.G.Length.Length.kind g.G.Gauge.crossing job) c.args.from row column row (column + 1) 0 c.args.map.now (queued c.args.queue.now) c.args.map.now (queued c.args.queue.now) =
    skipped stood (skips_one b c.args.from.number row column within (told ∙ ap not c.if-passed_over.true)) in
    record { few = search rules; one = search rules; room = search rules; walked = walked }

pub returns : goal.returns
returns g c =
    let job = c.args.self.now in
    let b = board_of job in
    let i = c.args.from.number in
    let row = c.args.row in
    let column = c.args.column in
    let within : column < job.size.columns = c.requires.column in
    let on-board = cell_within job.size row column c.requires.row within in
    let lt : cell_at job.size row column < length job.cells.now = omega (arith, job.within) in
    let read = get_or_default job.cells.now _ barred_cell _ lt in
    let at = c.requires.placed in
    let opens = beside_is b i row column within c.args.from.at _ _ at read c.requires.beside on-board (rw c.number-number.ensures at c.passed_over.ensures) ∙ ap not c.if-passed_over.false in
    let not-itself = numbered b i row column within c.args.from.at at in
    record {
      few = search rules;
      one = search rules;
      room = search rules;
      walked = record {
        counts = counted_one b i row column within on-board opens;
        tracks = λ view pad t.
            tracks_same
            (λ j below. offered_one (meant g.G.Length.Length.kind g.G.Gauge.crossing job) (offerer c.args.from) view row column _ within (across_is b i row column within g.G.Length.Length.kind (g.G.Gauge.crossing job.gauge.now) job.group c.args.from _ refl at (sym (ap (λ x. x.height) read)) opens) j)
            ((rw c.number-number.ensures at c.offer_across.ensures.tracks) _ _ on-board pad t);
      };
    }
