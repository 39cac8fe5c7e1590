use Rattle.geodesics.proofs.Transforms.{published_transform}
use Rattle.geodesics.proofs.rulers_give_the_transform.Goals as goal

pub returns : goal.returns
returns c = published_transform
