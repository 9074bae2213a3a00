use Rattle.listing_laws.proofs.Once.{same_counting}
use Rattle.listing_laws.proofs.countings.one_counting.Goals as goal

pub returns : goal.returns
returns c = same_counting
