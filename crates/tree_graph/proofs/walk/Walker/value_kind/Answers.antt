use Rattle.std.proofs.Common.{[], option_map, sym, subst}
use Rattle.schema_tree.specs.Trees.{type_of}
use Rattle.schema_graph.specs.Shown.{IsKind}
use Rattle.schema_graph.specs.Shown as by
use Rattle.tree_graph.proofs.walk.Walker.value_kind.Goals as goal

pub returns-in-Some : goal.returns-in-Some
returns-in-Some c = subst (λ o. IsKind c.args.self.now.names.now [] [] (option_map type_of o) c.kind.result) (sym c.in-Some.is) (by.typed c.kind.ensures)

pub returns-in-None : goal.returns-in-None
returns-in-None c = subst (λ o. IsKind c.args.self.now.names.now [] [] (option_map type_of o) _) (sym c.in-None.is) by.untyped
