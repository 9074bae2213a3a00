-- The trees of src/ as those of the definitions.
use Rattle.std.specs.Prelude.{map, Some, None, option_map}
use Rattle.grammar_laws.specs.Trees.{classes_of, patterns_of, items_of}
use Rattle.grammar_laws.specs.Trees as tree
use Rattle.schema_tree.specs.declared.tree.Uri.{Uri}
use Rattle.schema_tree.specs.declared.tree.Declaration.{Declaration}
use Rattle.schema_tree.specs.declared.tree.TypeName.{TypeName}
use Rattle.schema_tree.specs.declared.tree.Parameter.{Parameter}
use Rattle.schema_tree.specs.declared.tree.Passed.{Passed}
use Rattle.schema_tree.specs.declared.tree.Method.{Method}
use Rattle.schema_tree.specs.declared.tree.Class.{Class}
use Rattle.schema_tree.specs.declared.tree.Class.TheOpen.{Class-F}
use Rattle.schema_tree.specs.declared.tree.Class.TheFolds.{fold-Class}
use Rattle.schema_tree.specs.declared.tree.Pattern.{Pattern}
use Rattle.schema_tree.specs.declared.tree.Item.TheOpen.{Pattern-F, Item-F}
use Rattle.schema_tree.specs.declared.tree.Item.TheFolds.{fold-Pattern, fold-Item}
use Rattle.schema_tree.specs.declared.tree.Item.{Item}
use Rattle.schema_tree.specs.declared.tree.Body.{Body}

abbrev pub uri_of : Uri → tree.Uri
uri_of (Uri.Literal l) = tree.Uri.literal l
uri_of (Uri.Inherit a) = tree.Uri.inherit a

abbrev pub declaration_of : Declaration → tree.Declaration
declaration_of (Declaration.Namespace p u a) = tree.Declaration.namespace_prefix p (uri_of u) a
declaration_of (Declaration.DefaultNamespace p u a) = tree.Declaration.default_namespace p (uri_of u) a
declaration_of (Declaration.Datatypes p l a) = tree.Declaration.datatypes p l a

abbrev pub type_of : TypeName → tree.TypeName
type_of (TypeName.BuiltString a) = tree.built_string a
type_of (TypeName.BuiltToken a) = tree.built_token a
type_of (TypeName.Prefixed p n a) = tree.prefixed_type p n a

abbrev pub parameter_of : Parameter → tree.Parameter
parameter_of p = record { name = p.name; literal = p.literal; place = p.at }

abbrev pub passed_of : Passed → tree.Passed
passed_of p = record { prefix = p.prefix; place = p.at }

abbrev pub method_of : Method → tree.Method
method_of Method.Plain = tree.Method.Plain
method_of Method.Choice = tree.Method.Choice
method_of Method.Interleave = tree.Method.Interleave

-- one level of a name class
abbrev pub class_step : Class-F tree.Class → tree.Class
class_step (Class-F.Plain n a) = tree.Class.plain n a
class_step (Class-F.Prefixed p n a) = tree.Class.prefixed p n a
class_step (Class-F.Any None a) = tree.Class.any a
class_step (Class-F.Any (Some c) a) = tree.Class.any_except c a
class_step (Class-F.Namespace p None a) = tree.Class.namespace p a
class_step (Class-F.Namespace p (Some c) a) = tree.Class.namespace_except p c a
class_step (Class-F.Choice cs) = tree.Class.choice_class (classes_of cs)

abbrev pub class_of : Class → tree.Class
class_of = fold-Class tree.Class class_step

-- one level of a pattern
abbrev pub pattern_step : Pattern-F tree.Item tree.Pattern → tree.Pattern
pattern_step (Pattern-F.Element c p a) = tree.Pattern.element (class_of c) p a
pattern_step (Pattern-F.Attribute c p a) = tree.Pattern.attribute (class_of c) p a
pattern_step (Pattern-F.Group ps) = tree.Pattern.group (patterns_of ps)
pattern_step (Pattern-F.Choice ps) = tree.Pattern.choice (patterns_of ps)
pattern_step (Pattern-F.Interleave ps) = tree.Pattern.interleave (patterns_of ps)
pattern_step (Pattern-F.Optional p) = tree.Pattern.optional p
pattern_step (Pattern-F.ZeroOrMore p) = tree.Pattern.zero_or_more p
pattern_step (Pattern-F.OneOrMore p) = tree.Pattern.one_or_more p
pattern_step (Pattern-F.List p a) = tree.Pattern.list p a
pattern_step (Pattern-F.Mixed p) = tree.Pattern.mixed p
pattern_step (Pattern-F.Ref n a) = tree.Pattern.ref n a
pattern_step (Pattern-F.Parent n a) = tree.Pattern.parent n a
pattern_step Pattern-F.Empty = tree.Pattern.empty
pattern_step Pattern-F.AnyText = tree.Pattern.any_text
pattern_step Pattern-F.NotAllowed = tree.Pattern.not_allowed
pattern_step (Pattern-F.Value t l) = tree.Pattern.value (option_map type_of t) l
pattern_step (Pattern-F.DataType t ps None) = tree.Pattern.data_type (type_of t) (map parameter_of ps)
pattern_step (Pattern-F.DataType t ps (Some p)) = tree.Pattern.data_except (type_of t) (map parameter_of ps) p
pattern_step (Pattern-F.External l h a) = tree.Pattern.external l (option_map passed_of h) a
pattern_step (Pattern-F.Grammar is) = tree.Pattern.grammar (items_of is)

-- one level of an item
abbrev pub item_step : Item-F tree.Item tree.Pattern → tree.Item
item_step (Item-F.Start m p a) = tree.Item.start (method_of m) p a
item_step (Item-F.Define n m p a) = tree.Item.define n (method_of m) p a
item_step (Item-F.Div is) = tree.Item.div (items_of is)
item_step (Item-F.Include l h is a) = tree.Item.include l (option_map passed_of h) (items_of is) a

abbrev pub pattern_of : Pattern → tree.Pattern
pattern_of = fold-Pattern tree.Item tree.Pattern item_step pattern_step

abbrev pub item_of : Item → tree.Item
item_of = fold-Item tree.Item tree.Pattern item_step pattern_step

abbrev pub body_of : Body → tree.Body
body_of (Body.Pattern p) = tree.Body.pattern (pattern_of p)
body_of (Body.Items is) = tree.Body.items (items_of (map item_of is))
