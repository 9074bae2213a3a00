use Rattle.std.proofs.Common.{arith, ◌∙◌}
use Rattle.schema_tree.specs.Trees.{declaration_of}
use Rattle.simple_form_laws.specs.Prefixes.{defaults}
use Rattle.name_resolution.proofs.Loops.{first_found, none_found}
use Rattle.name_resolution.proofs.file.default.Goals as goal

pub returns-in-Some : goal.returns-in-Some
returns-in-Some c =
    first_found (defaults c.args.inherited.now) declaration_of c.args.inherited.now c.in-Some.uri.now c.args.declarations.now c.loop-declaration.declaration-index c.declaration-item.result
    (omega arith) c.declaration-item.is c.loop-declaration.invariant c.in-Some.ensures

pub returns : goal.returns
returns c = c.as_str.ensures ∙ none_found (defaults c.args.inherited.now) declaration_of c.args.inherited.now c.args.declarations.now c.loop-declaration.declaration-index (omega arith) c.loop-declaration.invariant
