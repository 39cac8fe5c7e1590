-- Each step keeps that the tables hold the ledger and the maps of it. Assumes nothing.
use Rattle.runs.proofs.Laws.{gauge_runs}
use Rattle.runs.proofs.calls_tell_the_truth.Goals as goal

pub returns : goal.returns
returns g c = gauge_runs g.met.K.Length.lawful
