use Rattle.gauges.specs.RulerLaw.{ruler_lawful}
use Rattle.gauges.proofs.rulers.rulers_serve_as_gauges.Goals as goal

pub returns : goal.returns
returns g c = λ r laws. ruler_lawful g.met.K.Length.lawful laws
