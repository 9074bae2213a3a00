use Rattle.listing_laws.proofs.Beginning as law
use Rattle.listing_laws.proofs.it_begins.Goals as goal

pub returns : goal.returns
returns c = law.begins
