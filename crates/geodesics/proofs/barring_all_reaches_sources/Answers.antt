-- Without a step to cross no cell but a source has an offer. Assumes nothing.
use Rattle.geodesics.proofs.SourcesOnly.{sources_only}
use Rattle.geodesics.proofs.barring_all_reaches_sources.Goals as goal

pub returns : goal.returns
returns g c = sources_only g.met.K.Length.lawful
