use Rattle.listing_laws.proofs.Fronts as law
use Rattle.listing_laws.proofs.fronts_grow.Goals as goal

pub returns-clause-start : goal.returns-clause-start
returns-clause-start c = law.start

pub returns-clause-fresh : goal.returns-clause-fresh
returns-clause-fresh c = law.fresh

pub returns-clause-resumed : goal.returns-clause-resumed
returns-clause-resumed c = law.resumed

pub returns-clause-first : goal.returns-clause-first
returns-clause-first c = law.first

pub returns-clause-next : goal.returns-clause-next
returns-clause-next c = law.next

pub returns-clause-none : goal.returns-clause-none
returns-clause-none c = law.none

pub returns-clause-end : goal.returns-clause-end
returns-clause-end c = law.end
