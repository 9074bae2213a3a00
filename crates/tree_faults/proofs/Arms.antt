-- The pattern or item of an arm.
use Rattle.std.proofs.Common.{◌≡◌, ℕ, List, map, Option, Some, ap, sym, ◌∙◌}
use Rattle.grammar_laws.specs.Trees.{patterns_of, items_of}
use Rattle.grammar_laws.specs.Trees as full
use Rattle.schema_tree.specs.declared.tree.TypeName.{TypeName}
use Rattle.schema_tree.specs.declared.tree.Parameter.{Parameter}
use Rattle.schema_tree.specs.declared.tree.Class.{Class}
use Rattle.schema_tree.specs.declared.tree.Pattern.{Pattern}
use Rattle.schema_tree.specs.declared.tree.Item.{Item}
use Rattle.schema_tree.specs.declared.tree.Item.TheViews as view
use Rattle.schema_tree.specs.Trees.{class_of, pattern_of, item_of, type_of, parameter_of}
use Rattle.schema_tree.proofs.Folds.{pattern_element, pattern_attribute, pattern_group, pattern_choice, pattern_interleave, pattern_data_except, pattern_grammar, item_div}

pub group_is : (q : Pattern) (ms xs : List Pattern) → q ≡ view.Group ms → xs ≡ ms → pattern_of q ≡ full.group (patterns_of (map pattern_of xs))
group_is q ms xs h i = ap pattern_of h ∙ pattern_group ms ∙ ap (λ l. full.group (patterns_of (map pattern_of l))) (sym i)

pub choice_is : (q : Pattern) (ms xs : List Pattern) → q ≡ view.Choice ms → xs ≡ ms → pattern_of q ≡ full.choice (patterns_of (map pattern_of xs))
choice_is q ms xs h i = ap pattern_of h ∙ pattern_choice ms ∙ ap (λ l. full.choice (patterns_of (map pattern_of l))) (sym i)

pub interleave_is : (q : Pattern) (ms xs : List Pattern) → q ≡ view.Interleave ms → xs ≡ ms → pattern_of q ≡ full.interleave (patterns_of (map pattern_of xs))
interleave_is q ms xs h i = ap pattern_of h ∙ pattern_interleave ms ∙ ap (λ l. full.interleave (patterns_of (map pattern_of l))) (sym i)

pub grammar_is : (q : Pattern) (ms xs : List Item) → q ≡ view.Grammar ms → xs ≡ ms → pattern_of q ≡ full.grammar (items_of (map item_of xs))
grammar_is q ms xs h i = ap pattern_of h ∙ pattern_grammar ms ∙ ap (λ l. full.grammar (items_of (map item_of l))) (sym i)

pub div_is : (j : Item) (ms xs : List Item) → j ≡ view.Div ms → xs ≡ ms → item_of j ≡ full.div (items_of (map item_of xs))
div_is j ms xs h i = ap item_of h ∙ item_div ms ∙ ap (λ l. full.div (items_of (map item_of l))) (sym i)

pub element_is : (q : Pattern) (c : Class) (p g : Pattern) (at : ℕ) → q ≡ view.Element c p at → g ≡ p → pattern_of q ≡ full.element (class_of c) (pattern_of g) at
element_is q c p g at h i = ap pattern_of h ∙ pattern_element c p at ∙ ap (λ x. full.element (class_of c) (pattern_of x) at) (sym i)

pub attribute_is : (q : Pattern) (c : Class) (p g : Pattern) (at : ℕ) → q ≡ view.Attribute c p at → g ≡ p → pattern_of q ≡ full.attribute (class_of c) (pattern_of g) at
attribute_is q c p g at h i = ap pattern_of h ∙ pattern_attribute c p at ∙ ap (λ x. full.attribute (class_of c) (pattern_of x) at) (sym i)

pub except_is : (q : Pattern) (k : TypeName) (ps : List Parameter) (o : Option Pattern) (e g : Pattern) → q ≡ view.DataType k ps o → o ≡ Some e → g ≡ e
    → pattern_of q ≡ full.data_except (type_of k) (map parameter_of ps) (pattern_of g)
except_is q k ps o e g h i j =
    ap pattern_of h ∙ ap (λ x. pattern_of (view.DataType k ps x)) i ∙ pattern_data_except k ps e ∙ ap (λ x. full.data_except (type_of k) (map parameter_of ps) (pattern_of x)) (sym j)
