use Rattle.std.proofs.Common.{arith}
use Rattle.schema_tree.specs.Trees.{declaration_of}
use Rattle.name_resolution.proofs.Again.{twice_step}
use Rattle.name_resolution.proofs.declaration_faults.twice_in.Goals as goal

pub loop-declaration-preserved : goal.loop-declaration-preserved
loop-declaration-preserved c =
    twice_step declaration_of c.args.declarations.now c.loop-declaration.declaration-index c.declaration-item.result (omega arith) c.declaration-item.is
    c.args.inherited.now c.loop-declaration.bound.namespaces c.loop-declaration.bound.libraries c.add.new.self.namespaces c.add.new.self.libraries
    c.loop-declaration.bound.has_default c.add.new.self.has_default c.loop-declaration.found c.lesser-found.result c.place_if.result c.has-is_again.result c.place.result
    c.loop-declaration.invariant c.has-is_again.ensures c.place.ensures c.place_if.ensures c.lesser-found.ensures
    c.in_ok-add.ensures.namespaces c.in_ok-add.ensures.libraries c.in_ok-add.ensures.default
