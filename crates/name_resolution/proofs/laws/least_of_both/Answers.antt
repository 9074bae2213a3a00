use Rattle.name_resolution.proofs.LeastPlaces.{least_append}
use Rattle.name_resolution.proofs.laws.least_of_both.Goals as goal

pub returns : goal.returns
returns c = least_append
