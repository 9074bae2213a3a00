use Rattle.std.proofs.Common.{map, drop}
use Rattle.grammar_laws.specs.Trees.{patterns_of, items_of}
use Rattle.schema_tree.specs.Features.{InPatterns, InItems}
use Rattle.schema_tree.specs.Files.{file_of}
use Rattle.schema_tree.specs.Trees.{pattern_of, item_of}
use Rattle.schema_tree.proofs.Leasts.{Gathered}
use Rattle.schema_tree.proofs.features.+walk.Given as goal

abbrev pub invariant-in_patterns-loop-member : goal.invariant-in_patterns-loop-member
invariant-in_patterns-loop-member l =
    Gathered l.fn.references (InPatterns (map file_of l.fn.files) (patterns_of (map pattern_of l.fn.members))) (InPatterns (map file_of l.fn.files) (patterns_of (map pattern_of (drop l.member-index l.fn.members)))) l.found

abbrev pub invariant-in_items-loop-item : goal.invariant-in_items-loop-item
invariant-in_items-loop-item l =
    Gathered l.fn.references (InItems (map file_of l.fn.files) (items_of (map item_of l.fn.items))) (InItems (map file_of l.fn.files) (items_of (map item_of (drop l.item-index l.fn.items)))) l.found
