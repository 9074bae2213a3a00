-- A namespace that is there, and one that is inserted.
use Rattle.std.specs.Cmp.Lexicographic.{nat_list_cmp_total}
use Rattle.std.proofs.lemmas.Map.Lookups.{exact_bytes}
use Rattle.name_universe.proofs.NameSets.{adds_held, adds_one}
use Rattle.name_universe.proofs.mentions.add_space.Goals as goal

pub returns-in_ok-insert : goal.returns-in_ok-insert
returns-in_ok-insert c = adds_one nat_list_cmp_total exact_bytes _ _ _ (rw c.in_ok-copy.ensures at c.in_ok-insert.ensures.updates)

pub returns-else-not-contains : goal.returns-else-not-contains
returns-else-not-contains c = adds_held nat_list_cmp_total exact_bytes _ _ c.if-not-contains.ensures
