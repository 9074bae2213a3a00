use Rattle.std.proofs.Common.{◌≤◌, arith}
use Rattle.std.proofs.lemmas.List.{take_all}
use Rattle.std.proofs.lemmas.List.Elements.{All-more, All-map}
use Rattle.schema_tree.specs.Trees.{declaration_of}
use Rattle.simple_form_laws.specs.Faults.{declaration_place}
use Rattle.schema_tests.proofs.names.are_within.Goals as goal

pub loop-declaration-preserved : goal.loop-declaration-preserved
loop-declaration-preserved c =
    All-more (λ d. declaration_place (declaration_of d) ≤ c.args.length) c.args.declarations.now c.loop-declaration.declaration-index c.declaration-item.result (omega arith)
    c.loop-declaration.invariant (rw (← c.declaration-item.is) (omega arith))

pub returns : goal.returns
returns c = λ h. All-map (λ d. declaration_place d ≤ c.args.length) declaration_of c.args.declarations.now
    (rw (take_all c.loop-declaration.declaration-index c.args.declarations.now (omega arith)) at c.loop-declaration.invariant)
