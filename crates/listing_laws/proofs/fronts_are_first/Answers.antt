use Rattle.listing_laws.proofs.Fronts as law
use Rattle.listing_laws.proofs.fronts_are_first.Goals as goal

pub returns-clause-whole : goal.returns-clause-whole
returns-clause-whole c = law.all_whole

pub returns-clause-stopped : goal.returns-clause-stopped
returns-clause-stopped c = law.all_stopped

pub returns-clause-to : goal.returns-clause-to
returns-clause-to c = law.up_to_first

pub returns-clause-below : goal.returns-clause-below
returns-clause-below c = law.below_first
