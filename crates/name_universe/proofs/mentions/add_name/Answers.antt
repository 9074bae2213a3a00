-- A name that is there, and one that is inserted.
use Rattle.rng_model.proofs.Orders.{name_order, name_cmp-same}
use Rattle.name_universe.proofs.NameSets.{adds_held, adds_one}
use Rattle.name_universe.proofs.mentions.add_name.Goals as goal

pub returns-in_ok-insert : goal.returns-in_ok-insert
returns-in_ok-insert c = adds_one name_order name_cmp-same _ _ _ (rw c.in_ok-copy.ensures at c.in_ok-insert.ensures.updates)

pub returns-else-not-contains : goal.returns-else-not-contains
returns-else-not-contains c = adds_held name_order name_cmp-same _ _ c.if-not-contains.ensures
