-- The trees of src/, level by level.
use Rattle.std.proofs.Common.{◌≡◌, ℕ, List, [], ◌∷◌, ◌++◌, map, Option, Some, None, refl, ap}
use Rattle.std.specs.Prelude.{option_map}
use Rattle.rng_model.specs.Texts.{Text}
use Rattle.grammar_laws.specs.Trees.{classes_of, patterns_of, items_of}
use Rattle.grammar_laws.specs.Trees as tree
use Rattle.schema_tree.specs.declared.tree.Method.{Method}
use Rattle.schema_tree.specs.declared.tree.TypeName.{TypeName}
use Rattle.schema_tree.specs.declared.tree.Parameter.{Parameter}
use Rattle.schema_tree.specs.declared.tree.Passed.{Passed}
use Rattle.schema_tree.specs.declared.tree.Class.{Class}
use Rattle.schema_tree.specs.declared.tree.Class.TheOpen.{Class-F}
use Rattle.schema_tree.specs.declared.tree.Class.TheFolds.{fold-roll-Class}
use Rattle.schema_tree.specs.declared.tree.Class.{Plain, Prefixed}
use Rattle.schema_tree.specs.declared.tree.Class.TheViews.{roll-Class}
use Rattle.schema_tree.specs.declared.tree.Class.TheViews as open_class
use Rattle.schema_tree.specs.declared.tree.Pattern.{Pattern, Ref, Parent, Empty, AnyText, NotAllowed, Value, External}
use Rattle.schema_tree.specs.declared.tree.Item.{Item, Start, Define}
use Rattle.schema_tree.specs.declared.tree.Item.TheOpen.{Pattern-F, Item-F}
use Rattle.schema_tree.specs.declared.tree.Item.TheFolds.{fold-roll-Pattern, fold-roll-Item}
use Rattle.schema_tree.specs.declared.tree.Item.TheViews.{roll-Pattern, roll-Item}
use Rattle.schema_tree.specs.declared.tree.Item.TheViews as view
use Rattle.schema_tree.specs.Trees.{class_of, class_step, pattern_of, pattern_step, item_of, item_step, type_of, parameter_of, passed_of, method_of}
use denote.Hole.Carrier.{roll}

pub class_choice : (cs : List Class) → class_of (open_class.Choice cs) ≡ tree.Class.choice_class (classes_of (map class_of cs))
unfolding roll-Class roll
class_choice cs = fold-roll-Class tree.Class class_step (Class-F.Choice cs)

pub class_plain : (n : Text) (a : ℕ) → class_of (Plain n a) ≡ tree.Class.plain n a
unfolding roll-Class roll
class_plain n a = fold-roll-Class tree.Class class_step (Class-F.Plain n a)

pub class_prefixed : (p : Text) (n : Text) (a : ℕ) → class_of (Prefixed p n a) ≡ tree.Class.prefixed p n a
unfolding roll-Class roll
class_prefixed p n a = fold-roll-Class tree.Class class_step (Class-F.Prefixed p n a)

pub class_any : (a : ℕ) → class_of (open_class.Any None a) ≡ tree.Class.any a
unfolding roll-Class roll
class_any a = fold-roll-Class tree.Class class_step (Class-F.Any None a)

pub class_any_except : (c : Class) (a : ℕ) → class_of (open_class.Any (Some c) a) ≡ tree.Class.any_except (class_of c) a
unfolding roll-Class roll
class_any_except c a = fold-roll-Class tree.Class class_step (Class-F.Any (Some c) a)

pub class_namespace : (p : Text) (a : ℕ) → class_of (open_class.Namespace p None a) ≡ tree.Class.namespace p a
unfolding roll-Class roll
class_namespace p a = fold-roll-Class tree.Class class_step (Class-F.Namespace p None a)

pub class_namespace_except : (p : Text) (c : Class) (a : ℕ) → class_of (open_class.Namespace p (Some c) a) ≡ tree.Class.namespace_except p (class_of c) a
unfolding roll-Class roll
class_namespace_except p c a = fold-roll-Class tree.Class class_step (Class-F.Namespace p (Some c) a)

pub pattern_element : (c : Class) (q : Pattern) (a : ℕ) → pattern_of (view.Element c q a) ≡ tree.Pattern.element (class_of c) (pattern_of q) a
unfolding roll-Pattern roll
pattern_element c q a = fold-roll-Pattern tree.Item tree.Pattern item_step pattern_step (Pattern-F.Element c q a)

pub pattern_attribute : (c : Class) (q : Pattern) (a : ℕ) → pattern_of (view.Attribute c q a) ≡ tree.Pattern.attribute (class_of c) (pattern_of q) a
unfolding roll-Pattern roll
pattern_attribute c q a = fold-roll-Pattern tree.Item tree.Pattern item_step pattern_step (Pattern-F.Attribute c q a)

pub pattern_group : (qs : List Pattern) → pattern_of (view.Group qs) ≡ tree.Pattern.group (patterns_of (map pattern_of qs))
unfolding roll-Pattern roll
pattern_group qs = fold-roll-Pattern tree.Item tree.Pattern item_step pattern_step (Pattern-F.Group qs)

pub pattern_choice : (qs : List Pattern) → pattern_of (view.Choice qs) ≡ tree.Pattern.choice (patterns_of (map pattern_of qs))
unfolding roll-Pattern roll
pattern_choice qs = fold-roll-Pattern tree.Item tree.Pattern item_step pattern_step (Pattern-F.Choice qs)

pub pattern_interleave : (qs : List Pattern) → pattern_of (view.Interleave qs) ≡ tree.Pattern.interleave (patterns_of (map pattern_of qs))
unfolding roll-Pattern roll
pattern_interleave qs = fold-roll-Pattern tree.Item tree.Pattern item_step pattern_step (Pattern-F.Interleave qs)

pub pattern_optional : (q : Pattern) → pattern_of (view.Optional q) ≡ tree.Pattern.optional (pattern_of q)
unfolding roll-Pattern roll
pattern_optional q = fold-roll-Pattern tree.Item tree.Pattern item_step pattern_step (Pattern-F.Optional q)

pub pattern_zero_or_more : (q : Pattern) → pattern_of (view.ZeroOrMore q) ≡ tree.Pattern.zero_or_more (pattern_of q)
unfolding roll-Pattern roll
pattern_zero_or_more q = fold-roll-Pattern tree.Item tree.Pattern item_step pattern_step (Pattern-F.ZeroOrMore q)

pub pattern_one_or_more : (q : Pattern) → pattern_of (view.OneOrMore q) ≡ tree.Pattern.one_or_more (pattern_of q)
unfolding roll-Pattern roll
pattern_one_or_more q = fold-roll-Pattern tree.Item tree.Pattern item_step pattern_step (Pattern-F.OneOrMore q)

pub pattern_mixed : (q : Pattern) → pattern_of (view.Mixed q) ≡ tree.Pattern.mixed (pattern_of q)
unfolding roll-Pattern roll
pattern_mixed q = fold-roll-Pattern tree.Item tree.Pattern item_step pattern_step (Pattern-F.Mixed q)

pub pattern_list : (q : Pattern) (a : ℕ) → pattern_of (view.List q a) ≡ tree.Pattern.list (pattern_of q) a
unfolding roll-Pattern roll
pattern_list q a = fold-roll-Pattern tree.Item tree.Pattern item_step pattern_step (Pattern-F.List q a)

pub pattern_ref : (n : Text) (a : ℕ) → pattern_of (Ref n a) ≡ tree.Pattern.ref n a
unfolding roll-Pattern roll
pattern_ref n a = fold-roll-Pattern tree.Item tree.Pattern item_step pattern_step (Pattern-F.Ref n a)

pub pattern_parent : (n : Text) (a : ℕ) → pattern_of (Parent n a) ≡ tree.Pattern.parent n a
unfolding roll-Pattern roll
pattern_parent n a = fold-roll-Pattern tree.Item tree.Pattern item_step pattern_step (Pattern-F.Parent n a)

pub pattern_empty : pattern_of (Empty) ≡ tree.Pattern.empty
unfolding roll-Pattern roll
pattern_empty = fold-roll-Pattern tree.Item tree.Pattern item_step pattern_step (Pattern-F.Empty)

pub pattern_any_text : pattern_of (AnyText) ≡ tree.Pattern.any_text
unfolding roll-Pattern roll
pattern_any_text = fold-roll-Pattern tree.Item tree.Pattern item_step pattern_step (Pattern-F.AnyText)

pub pattern_not_allowed : pattern_of (NotAllowed) ≡ tree.Pattern.not_allowed
unfolding roll-Pattern roll
pattern_not_allowed = fold-roll-Pattern tree.Item tree.Pattern item_step pattern_step (Pattern-F.NotAllowed)

pub pattern_value : (t : Option TypeName) (l : Text) → pattern_of (Value t l) ≡ tree.Pattern.value (option_map type_of t) l
unfolding roll-Pattern roll
pattern_value t l = fold-roll-Pattern tree.Item tree.Pattern item_step pattern_step (Pattern-F.Value t l)

pub pattern_data_type : (t : TypeName) (ps : List Parameter) → pattern_of (view.DataType t ps None) ≡ tree.Pattern.data_type (type_of t) (map parameter_of ps)
unfolding roll-Pattern roll
pattern_data_type t ps = fold-roll-Pattern tree.Item tree.Pattern item_step pattern_step (Pattern-F.DataType t ps None)

pub pattern_data_except : (t : TypeName) (ps : List Parameter) (q : Pattern) → pattern_of (view.DataType t ps (Some q)) ≡ tree.Pattern.data_except (type_of t) (map parameter_of ps) (pattern_of q)
unfolding roll-Pattern roll
pattern_data_except t ps q = fold-roll-Pattern tree.Item tree.Pattern item_step pattern_step (Pattern-F.DataType t ps (Some q))

pub pattern_external : (l : Text) (h : Option Passed) (a : ℕ) → pattern_of (External l h a) ≡ tree.Pattern.external l (option_map passed_of h) a
unfolding roll-Pattern roll
pattern_external l h a = fold-roll-Pattern tree.Item tree.Pattern item_step pattern_step (Pattern-F.External l h a)

pub pattern_grammar : (is : List Item) → pattern_of (view.Grammar is) ≡ tree.Pattern.grammar (items_of (map item_of is))
unfolding roll-Pattern roll
pattern_grammar is = fold-roll-Pattern tree.Item tree.Pattern item_step pattern_step (Pattern-F.Grammar is)

pub item_start : (m : Method) (q : Pattern) (a : ℕ) → item_of (Start m q a) ≡ tree.Item.start (method_of m) (pattern_of q) a
unfolding roll-Item roll
item_start m q a = fold-roll-Item tree.Item tree.Pattern item_step pattern_step (Item-F.Start m q a)

pub item_define : (n : Text) (m : Method) (q : Pattern) (a : ℕ) → item_of (Define n m q a) ≡ tree.Item.define n (method_of m) (pattern_of q) a
unfolding roll-Item roll
item_define n m q a = fold-roll-Item tree.Item tree.Pattern item_step pattern_step (Item-F.Define n m q a)

pub item_div : (is : List Item) → item_of (view.Div is) ≡ tree.Item.div (items_of (map item_of is))
unfolding roll-Item roll
item_div is = fold-roll-Item tree.Item tree.Pattern item_step pattern_step (Item-F.Div is)

pub item_include : (l : Text) (h : Option Passed) (is : List Item) (a : ℕ) → item_of (view.Include l h is a) ≡ tree.Item.include l (option_map passed_of h) (items_of (map item_of is)) a
unfolding roll-Item roll
item_include l h is a = fold-roll-Item tree.Item tree.Pattern item_step pattern_step (Item-F.Include l h is a)

pub map_push : {A B : Type 0} (f : A → B) (xs : List A) (x : A) → map f (xs ++ x ∷ []) ≡ map f xs ++ f x ∷ []
map_push f [] x = refl
map_push f (y ∷ xs) x = ap (λ z. f y ∷ z) (map_push f xs x)
