use Rattle.std.proofs.Common.{map, sym, ap, ◌∙◌, ◌⊎◌, subst}
use Rattle.grammar_laws.specs.Trees.{patterns_of, items_of}
use Rattle.schema_tree.specs.Features.{Is, InPassed, InPattern, InPatterns, InItem, InItems}
use Rattle.schema_tree.specs.Files.{file_of}
use Rattle.schema_tree.specs.Least.{IsLeast}
use Rattle.schema_tree.specs.Trees.{pattern_of, item_of, passed_of}
use Rattle.schema_tree.specs.declared.features.Feature.{Feature}
use Rattle.std.specs.Prelude.{option_map}
use Rattle.schema_tree.proofs.Folds as fold
use Rattle.schema_tree.proofs.Leasts.{least_two}
use Rattle.schema_tree.proofs.features.+walk.Goals as goal

pub in_pattern-returns-in-Group : goal.in_pattern-returns-in-Group
in_pattern-returns-in-Group t c =
    subst (λ p. IsLeast c.args.references (InPattern (map file_of c.args.files.now) p) c.in_patterns.result) (sym (ap pattern_of c.in-Group.is ∙ fold.pattern_group _))
    (subst (λ xs. IsLeast c.args.references (InPatterns (map file_of c.args.files.now) (patterns_of (map pattern_of xs))) c.in_patterns.result) c.as_slice.ensures c.in_patterns.ensures)

pub in_pattern-returns-in-Choice : goal.in_pattern-returns-in-Choice
in_pattern-returns-in-Choice t c =
    subst (λ p. IsLeast c.args.references (InPattern (map file_of c.args.files.now) p) c.in_patterns-in-Choice.result) (sym (ap pattern_of c.in-Choice.is ∙ fold.pattern_choice _))
    (subst (λ xs. IsLeast c.args.references (InPatterns (map file_of c.args.files.now) (patterns_of (map pattern_of xs))) c.in_patterns-in-Choice.result) c.as_slice-in-Choice.ensures c.in_patterns-in-Choice.ensures)

pub in_pattern-returns-in-Interleave : goal.in_pattern-returns-in-Interleave
in_pattern-returns-in-Interleave t c =
    subst (λ p. IsLeast c.args.references (InPattern (map file_of c.args.files.now) p) c.in_patterns-in-Interleave.result) (sym (ap pattern_of c.in-Interleave.is ∙ fold.pattern_interleave _))
    (subst (λ xs. IsLeast c.args.references (InPatterns (map file_of c.args.files.now) (patterns_of (map pattern_of xs))) c.in_patterns-in-Interleave.result) c.as_slice-in-Interleave.ensures c.in_patterns-in-Interleave.ensures)

pub in_pattern-returns-in-Grammar : goal.in_pattern-returns-in-Grammar
in_pattern-returns-in-Grammar t c =
    subst (λ p. IsLeast c.args.references (InPattern (map file_of c.args.files.now) p) c.in_items.result) (sym (ap pattern_of c.in-Grammar.is ∙ fold.pattern_grammar _))
    (subst (λ xs. IsLeast c.args.references (InItems (map file_of c.args.files.now) (items_of (map item_of xs))) c.in_items.result) c.as_slice-in-Grammar.ensures c.in_items.ensures)

pub in_item-returns-in-Div : goal.in_item-returns-in-Div
in_item-returns-in-Div t c =
    subst (λ i. IsLeast c.args.references (InItem (map file_of c.args.files.now) i) c.in_items.result) (sym (ap item_of c.in-Div.is ∙ fold.item_div _))
    (subst (λ xs. IsLeast c.args.references (InItems (map file_of c.args.files.now) (items_of (map item_of xs))) c.in_items.result) c.as_slice.ensures c.in_items.ensures)

pub in_pattern-returns-in-List : goal.in_pattern-returns-in-List
in_pattern-returns-in-List t c =
    subst (λ p. IsLeast c.args.references (InPattern (map file_of c.args.files.now) p) c.earlier.result) (sym (ap pattern_of c.in-List.is ∙ fold.pattern_list _ _))
    (least_two c.args.references (Is Feature.List c.in-List.at) (InPattern (map file_of c.args.files.now) (pattern_of c.in-List.content)) c.alone-here.result c.in_pattern-in-List.result c.earlier.result c.alone-here.ensures
    (subst (λ q. IsLeast c.args.references (InPattern (map file_of c.args.files.now) (pattern_of q)) c.in_pattern-in-List.result) c.get-in-List.ensures c.in_pattern-in-List.ensures) c.earlier.ensures)

pub in_item-returns-in-Include : goal.in_item-returns-in-Include
in_item-returns-in-Include t c =
    let passed = option_map passed_of c.in-Include.passed in
    let here = least_two c.args.references (Is Feature.Include c.in-Include.at) (InPassed passed) c.alone.result c.in_passed.result c.earlier-here.result c.alone.ensures c.in_passed.ensures c.earlier-here.ensures in
    let inner = subst (λ xs. IsLeast c.args.references (InItems (map file_of c.args.files.now) (items_of (map item_of xs))) c.in_items-in-Include.result) c.as_slice-in-Include.ensures c.in_items-in-Include.ensures in
    subst (λ i. IsLeast c.args.references (InItem (map file_of c.args.files.now) i) c.earlier.result) (sym (ap item_of c.in-Include.is ∙ fold.item_include _ _ _ _))
    (least_two c.args.references (λ f a. Is Feature.Include c.in-Include.at f a ⊎ InPassed passed f a) (InItems (map file_of c.args.files.now) (items_of (map item_of c.in-Include.inner))) c.earlier-here.result c.in_items-in-Include.result c.earlier.result here inner c.earlier.ensures)
