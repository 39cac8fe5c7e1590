-- Every answer is true, and by the four rulers the least lengths of paths are least plain sums. Assumes nothing.
use Rattle.runs.proofs.Sums.{published_runs}
use Rattle.runs.proofs.answers_are_least_sums.Goals as goal

pub returns : goal.returns
returns c = published_runs
