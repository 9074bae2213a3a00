use Rattle.std.proofs.Common.{take}
use Rattle.schema_tree.specs.Trees.{class_of as tree_class}
use Rattle.name_resolution.specs.Owners.{use_of}
use Rattle.name_resolution.proofs.Simple.{AreMade}
use Rattle.name_resolution.proofs.namespaces.Namespaces.+class.Given as goal

-- the members so far
abbrev pub invariant-choice-loop-member : goal.invariant-choice-loop-member
invariant-choice-loop-member l = AreMade l.self (use_of l.owner) tree_class (take l.member-index l.members) l.made.items
