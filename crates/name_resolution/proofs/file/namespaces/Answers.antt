use Rattle.std.proofs.Common.{arith}
use Rattle.std.specs.Prelude.{codes}
use Rattle.schema_tree.specs.Trees.{declaration_of}
use Rattle.simple_form_laws.specs.Prefixes.{prefixes, xml_uri}
use Rattle.name_resolution.proofs.Loops.{more_bindings, all_bindings}
use Rattle.name_resolution.proofs.file.namespaces.Goals as goal

pub loop-declaration-preserved : goal.loop-declaration-preserved
loop-declaration-preserved c =
    more_bindings (λ d. prefixes c.args.inherited.now (declaration_of d)) (codes "xml", xml_uri) _ _ _ c.args.declarations.now c.loop-declaration.declaration-index c.declaration-item.result
    (omega arith) c.declaration-item.is c.loop-declaration.invariant c.in_ok-add-2.ensures c.namespace_prefix.ensures

pub returns : goal.returns
returns c = all_bindings (prefixes c.args.inherited.now) declaration_of (codes "xml", xml_uri) _ c.args.declarations.now c.loop-declaration.declaration-index (omega arith) c.loop-declaration.invariant
