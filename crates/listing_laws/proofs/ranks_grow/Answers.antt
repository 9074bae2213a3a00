use Rattle.listing_laws.proofs.Ranks.{rank_less, rank_small}
use Rattle.listing_laws.proofs.ranks_grow.Goals as goal

pub returns-clause-less : goal.returns-clause-less
returns-clause-less c = rank_less

pub returns-clause-small : goal.returns-clause-small
returns-clause-small c = rank_small
