use Rattle.listing_laws.proofs.Beginning as law
use Rattle.listing_laws.proofs.one_ending.Goals as goal

pub returns : goal.returns
returns c = law.one_ending
