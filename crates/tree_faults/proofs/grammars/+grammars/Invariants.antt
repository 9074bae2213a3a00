use Rattle.std.proofs.Common.{◌≡◌, map, take, option_map}
use Rattle.grammar_laws.specs.Trees.{patterns_of, items_of}
use Rattle.schema_tree.specs.Trees.{pattern_of, item_of}
use Rattle.simple_form_laws.specs.Parts.{Scope, parts_of_list, parts_of_items}
use Rattle.tree_faults.specs.Grammars.{Fits, joined, grammar_faults}
use Rattle.tree_faults.proofs.grammars.+grammars.Given as goal

-- the faults in the members so far
abbrev pub invariant-in_members-loop-member : goal.invariant-in_members-loop-member
invariant-in_members-loop-member l = (s : Scope) → Fits (option_map (λ d. d.now) l.inner) (option_map (λ d. d.now) l.outer) s → l.found ≡ joined l.initial.found (grammar_faults (parts_of_list s (patterns_of (map pattern_of (take l.member-index l.members)))))

abbrev pub invariant-in_items-loop-item : goal.invariant-in_items-loop-item
invariant-in_items-loop-item l = (s : Scope) → Fits (option_map (λ d. d.now) l.inner) (option_map (λ d. d.now) l.outer) s → l.found ≡ joined l.initial.found (grammar_faults (parts_of_items s (items_of (map item_of (take l.item-index l.items)))))
