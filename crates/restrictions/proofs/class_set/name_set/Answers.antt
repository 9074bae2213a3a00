use Rattle.restrictions.proofs.Windows.{only_is, none_is}
use Rattle.restrictions.proofs.class_set.name_set.Goals as goal

pub returns-in-Some : goal.returns-in-Some
returns-in-Some c = only_is c.args.names.now c.requires c.in-Some.position c.args.name.now _ c.in-Some.ensures.found c.only.ensures.itself c.only.ensures.others

pub returns-in-None : goal.returns-in-None
returns-in-None c = none_is c.args.names.now c.requires c.args.name.now _ c.in-None.ensures.absent c.none.ensures
