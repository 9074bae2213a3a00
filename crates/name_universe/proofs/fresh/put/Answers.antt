-- The map has one name more.
use Rattle.name_universe.proofs.NameSets.{puts_one}
use Rattle.name_universe.proofs.fresh.put.Goals as goal

pub returns : goal.returns
returns c = puts_one c.args.names.now c.insert.new.self c.args.name c.args.origin c.in_ok-insert.ensures.updates
