use Rattle.name_resolution.proofs.LeastPlaces.{least_least}
use Rattle.name_resolution.proofs.laws.least_is_least.Goals as goal

pub returns : goal.returns
returns c = least_least
