use Rattle.std.proofs.Common.{arith}
use Rattle.schema_tree.specs.Trees.{declaration_of}
use Rattle.name_resolution.specs.Places.{reserved_place}
use Rattle.name_resolution.proofs.Loops.{least_more, least_all}
use Rattle.name_resolution.proofs.Within.{lowered}
use Rattle.name_resolution.proofs.declaration_faults.reserved_in.Goals as goal

pub loop-declaration-preserved : goal.loop-declaration-preserved
loop-declaration-preserved c =
    least_more (λ d. reserved_place c.args.inherited.now (declaration_of d)) c.args.declarations.now c.loop-declaration.declaration-index c.declaration-item.result
    c.loop-declaration.found c.lesser-found.result (omega arith) c.declaration-item.is c.loop-declaration.invariant
    (lowered c.loop-declaration.found c.lesser-found.result c.place_if.result c.binds_reserved-is_reserved.result _ c.place.result _ c.lesser-found.ensures c.place_if.ensures c.binds_reserved-is_reserved.ensures c.place.ensures)

pub returns : goal.returns
returns c =
    least_all (reserved_place c.args.inherited.now) declaration_of c.args.declarations.now c.loop-declaration.declaration-index c.loop-declaration.found (omega arith) c.loop-declaration.invariant
