-- The faults of simplification: the sections Simplification and Restrictions (name classes, attribute names) of the standard; their numbers and places are this project's own.
use Rattle.std.specs.Prelude.{◌≡◌, ℕ, suc, ◌+◌, ◌<◌, ◌≤◌, ◌⊎◌, Bool, true, false, not, ◌&&◌, ◌||◌, if◌then◌else◌, List, [], ◌∷◌, ◌++◌, Option, Some, None, filter_map, flat_map, codes, Contains, IsTrue, ⊤}
use Rattle.std.specs.List.{list_any}
use Rattle.std.specs.Str.{bytes_eq}
use Rattle.rng_model.specs.Texts.{Text}
use Rattle.rng_model.specs.Kinds.{Kind, allows}
use Rattle.rng_model.specs.Classes as class
use Rattle.rng_model.specs.Patterns.{Schema, Definition, Defines}
use Rattle.rng_model.specs.Universe.{IsElementClass, IsAttributeClass}
use Rattle.rng_model.specs.Depths.{depth, class_depth}
use Rattle.grammar_laws.specs.Trees.{Class, Classes, no_classes, more_classes, TypeName, built_string, built_token, prefixed_type, Pattern, Patterns, no_pattern, more_patterns, Method, Plain, Choice, Interleave, Declaration, namespace_prefix, default_namespace, datatypes}
use Rattle.grammar_laws.specs.Files.{SchemaFile, Full}
use Rattle.grammar_laws.specs.Trees as full
use Rattle.simple_form_laws.specs.Prefixes.{Table, look_up, prefixes, defaults, libraries, library_table, file_at, namespace_of, kind_of, library_kind, xml_uri, xmlns_uri, xsd_uri}
use Rattle.simple_form_laws.specs.ClassForms.{class_parts}
use Rattle.simple_form_laws.specs.Parts.{Scope, Part, part, Entry, entries, entries_of, same_key, defined, parts_of}
use Rattle.simple_form_laws.specs.Forms.{IsFormOf, tree}

-- the place, where the test is passed
abbrev pub place_if : Bool → ℕ → List ℕ
place_if b at = if b then at ∷ [] else []

-- the place, where nothing is found
abbrev pub place_unless : Option Text → ℕ → List ℕ
place_unless None at = at ∷ []
place_unless (Some u) at = []

-- all parts of the tree
abbrev pub parts : Full → List Part
parts f = parts_of [] (tree f)

-- the name classes of elements and of attributes
abbrev pub element_class : Pattern → Option Class
element_class (full.element c p at) = Some c
element_class p = None

abbrev pub attribute_class : Pattern → Option Class
attribute_class (full.attribute c p at) = Some c
attribute_class p = None

abbrev pub element_classes : Full → List Class
element_classes f = flat_map class_parts (filter_map (λ x. element_class x.pattern) (parts f))

abbrev pub attribute_classes : Full → List Class
attribute_classes f = flat_map class_parts (filter_map (λ x. attribute_class x.pattern) (parts f))

-- 31: a prefix of a class or of a type isn't bound
abbrev pub unbound_in_class : List SchemaFile → Class → List ℕ
unbound_in_class fs (full.prefixed p l at) = place_unless (namespace_of fs p at) at
unbound_in_class fs (full.namespace p at) = place_unless (namespace_of fs p at) at
unbound_in_class fs (full.namespace_except p c at) = place_unless (namespace_of fs p at) at
unbound_in_class fs c = []

abbrev pub type_of : Pattern → Option TypeName
type_of (full.value k t) = k
type_of (full.data_type k xs) = Some k
type_of (full.data_except k xs p) = Some k
type_of p = None

abbrev pub unbound_in_type : List SchemaFile → TypeName → List ℕ
unbound_in_type fs (prefixed_type p l at) = place_unless (look_up (library_table (file_at fs at)) p) at
unbound_in_type fs k = []

abbrev pub unbound_prefixes : Full → List ℕ
unbound_prefixes f =
    flat_map (unbound_in_class f.files) (element_classes f ++ attribute_classes f)
    ++ flat_map (unbound_in_type f.files) (filter_map (λ x. type_of x.pattern) (parts f))

-- the places of those that meet the test with an earlier one
abbrev pub later_places : {X : Type 0} → (X → X → Bool) → (X → ℕ) → List X → List X → List ℕ
later_places test place before [] = []
later_places test place before (x ∷ xs) = place_if (list_any (λ y. test y x) before) (place x) ++ later_places test place (before ++ x ∷ []) xs

abbrev pub share_name : Table → Table → Bool
share_name xs ys = list_any (λ x. list_any (λ y. bytes_eq (x.0) (y.0)) ys) xs

abbrev pub is_some_default : List Text → Bool
is_some_default [] = false
is_some_default (u ∷ us) = true

-- both bind a prefix of one table, or the default
abbrev pub bind_one : Declaration → Declaration → Bool
bind_one d e =
    share_name (prefixes [] d) (prefixes [] e) || share_name (libraries d) (libraries e)
    || (is_some_default (defaults [] d) && is_some_default (defaults [] e))

abbrev pub declaration_place : Declaration → ℕ
declaration_place (namespace_prefix p uri at) = at
declaration_place (default_namespace p uri at) = at
declaration_place (datatypes p t at) = at

-- the places that a file's faults have, with its base
abbrev pub in_files : (SchemaFile → List Declaration → List ℕ) → ℕ → List SchemaFile → List ℕ
in_files faults base [] = []
in_files faults base (f ∷ fs) = based base (faults f f.declarations) ++ in_files faults (base + suc f.length) fs
  where
    based : ℕ → List ℕ → List ℕ
    based b [] = []
    based b (at ∷ ats) = (b + at) ∷ based b ats

-- 32: a declaration binds what an earlier one of the same table bound
abbrev pub prefixes_twice : Full → List ℕ
prefixes_twice f = in_files (λ g ds. later_places bind_one declaration_place [] ds) 0 f.files

-- 33: `xml` with another URI, the URI of `xml` with another prefix, `xmlns`, `xsd` with another URI
abbrev pub is_reserved : Text × Text → Bool
is_reserved b =
    bytes_eq (b.0) (codes "xmlns")
    || (bytes_eq (b.0) (codes "xml") && not (bytes_eq (b.1) xml_uri))
    || (not (bytes_eq (b.0) (codes "xml")) && bytes_eq (b.1) xml_uri)

abbrev pub is_reserved_library : Text × Text → Bool
is_reserved_library b = bytes_eq (b.0) (codes "xsd") && not (bytes_eq (b.1) xsd_uri)

abbrev pub reserved_prefixes : Full → List ℕ
reserved_prefixes f =
    in_files (λ g ds. flat_map (λ d. place_if (list_any is_reserved (prefixes g.inherited d) || list_any is_reserved_library (libraries d)) (declaration_place d)) ds) 0 f.files

-- 34: `*` in an except of `*`, and `*` or all names of a namespace in an except of the latter
abbrev pub any_place : Class → List ℕ
any_place (full.any at) = at ∷ []
any_place (full.any_except c at) = at ∷ []
any_place c = []

abbrev pub wild_place : Class → List ℕ
wild_place (full.any at) = at ∷ []
wild_place (full.any_except c at) = at ∷ []
wild_place (full.namespace p at) = at ∷ []
wild_place (full.namespace_except p c at) = at ∷ []
wild_place c = []

abbrev pub constraint_places : Class → List ℕ
constraint_places (full.any_except c at) = flat_map any_place (class_parts c)
constraint_places (full.namespace_except p c at) = flat_map wild_place (class_parts c)
constraint_places c = []

abbrev pub class_constraints : Full → List ℕ
class_constraints f = flat_map constraint_places (element_classes f ++ attribute_classes f)

-- 35: the name `xmlns` without namespace, or its namespace
abbrev pub is_xmlns_uri : Text → Bool
is_xmlns_uri u = bytes_eq u xmlns_uri || bytes_eq u (xmlns_uri ++ 47 ∷ [])

abbrev pub is_xmlns_name : Text → Text → Bool
is_xmlns_name u l = is_xmlns_uri u || (bytes_eq u [] && bytes_eq l (codes "xmlns"))

abbrev pub place_if_some : (Text → Bool) → Option Text → ℕ → List ℕ
place_if_some test None at = []
place_if_some test (Some u) at = place_if (test u) at

abbrev pub xmlns_in_class : List SchemaFile → Class → List ℕ
xmlns_in_class fs (full.plain l at) = place_if (is_xmlns_name [] l) at
xmlns_in_class fs (full.prefixed p l at) = place_if_some (λ u. is_xmlns_name u l) (namespace_of fs p at) at
xmlns_in_class fs (full.namespace p at) = place_if_some is_xmlns_uri (namespace_of fs p at) at
xmlns_in_class fs (full.namespace_except p c at) = place_if_some is_xmlns_uri (namespace_of fs p at) at
xmlns_in_class fs c = []

abbrev pub xmlns_attributes : Full → List ℕ
xmlns_attributes f = flat_map (xmlns_in_class f.files) (attribute_classes f)

-- 36: a grammar has no start
abbrev pub is_empty_list : List Entry → Bool
is_empty_list [] = true
is_empty_list (e ∷ es) = false

abbrev pub lacks_start : Pattern → Bool
lacks_start (full.grammar is) = is_empty_list (entries_of None is)
lacks_start p = false

abbrev pub has_no_start : Full → Bool
has_no_start f = list_any (λ x. lacks_start x.pattern) (parts f)

-- 37: a reference whose grammar exists has no definition there, or a plain one stands in no grammar
abbrev pub undefined_in : Scope → Pattern → List ℕ
undefined_in [] (full.ref name at) = at ∷ []
undefined_in (is ∷ s) (full.ref name at) = place_if (is_empty_list (entries_of (Some name) is)) at
undefined_in (inner ∷ is ∷ s) (full.parent name at) = place_if (is_empty_list (entries_of (Some name) is)) at
undefined_in s p = []

abbrev pub undefined_names : Full → List ℕ
undefined_names f = flat_map (λ x. undefined_in x.scope x.pattern) (parts f)

-- 38: `parent` where there is no next grammar outwards
abbrev pub parent_in : Scope → Pattern → List ℕ
parent_in [] (full.parent name at) = at ∷ []
parent_in (is ∷ []) (full.parent name at) = at ∷ []
parent_in s p = []

abbrev pub parents_outside : Full → List ℕ
parents_outside f = flat_map (λ x. parent_in x.scope x.pattern) (parts f)

-- 39, 40: in the order of the tree, `|=` behind `&=` or the reverse, and `=` behind `=`
abbrev pub are_mixed : Method → Method → Bool
are_mixed Choice Interleave = true
are_mixed Interleave Choice = true
are_mixed m n = false

abbrev pub are_plain : Method → Method → Bool
are_plain Plain Plain = true
are_plain m n = false

abbrev pub clashes : (Method → Method → Bool) → Pattern → List ℕ
clashes test (full.grammar is) = later_places (λ d e. same_key d.name e.name && test d.method e.method) (λ e. e.at) [] (entries is)
clashes test p = []

abbrev pub combine_mixed : Full → List ℕ
combine_mixed f = flat_map (λ x. clashes are_mixed x.pattern) (parts f)

abbrev pub defined_twice : Full → List ℕ
defined_twice f = flat_map (λ x. clashes are_plain x.pattern) (parts f)

-- 41: where a pattern leads without an element between
abbrev pub each_part : Scope → Patterns → List Part
each_part s no_pattern = []
each_part s (more_patterns p ps) = part s p ∷ each_part s ps

abbrev pub leads : Scope → Pattern → List Part
leads s (full.attribute c p at) = part s p ∷ []
leads s (full.group ps) = each_part s ps
leads s (full.choice ps) = each_part s ps
leads s (full.interleave ps) = each_part s ps
leads s (full.optional p) = part s p ∷ []
leads s (full.zero_or_more p) = part s p ∷ []
leads s (full.one_or_more p) = part s p ∷ []
leads s (full.list p at) = part s p ∷ []
leads s (full.mixed p) = part s p ∷ []
leads s (full.data_except k xs p) = part s p ∷ []
leads s (full.grammar is) = part (is ∷ s) (defined None is) ∷ []
leads (is ∷ s) (full.ref name at) = part (is ∷ s) (defined (Some name) is) ∷ []
leads (inner ∷ is ∷ s) (full.parent name at) = part (is ∷ s) (defined (Some name) is) ∷ []
leads s p = []

abbrev pub inside : Scope → Pattern → List Part
inside s (full.element c p at) = part s p ∷ []
inside s p = []

-- what can be reached from a pattern, through contents of elements too, as they stand in the tree
pub data IsVisited (p : Pattern) : Part → Type 0 where
  whole : IsVisited p (part [] p)
  lead : {x y : Part} → IsVisited p x → Contains (leads x.scope x.pattern) y → IsVisited p y
  content : {x y : Part} → IsVisited p x → Contains (inside x.scope x.pattern) y → IsVisited p y

-- one leads to another, in one step or more
pub data LeadsTo : Part → Part → Type 0 where
  once : {x y : Part} → Contains (leads x.scope x.pattern) y → LeadsTo x y
  more : {x y z : Part} → Contains (leads x.scope x.pattern) y → LeadsTo y z → LeadsTo x z

-- the pattern is a reference that stands at the place
abbrev pub IsReferenceAt : ℕ → Pattern → Type 0
IsReferenceAt at p = (name : Text) × ((p ≡ full.ref name at) ⊎ (p ≡ full.parent name at))

-- a reference that can be reached leads back to itself
pub record IsLoop (f : Full) (at : ℕ) : Type 0 where
  pub place : Part
  pub reference : IsReferenceAt at place.pattern
  pub visited : IsVisited (tree f) place
  pub back : LeadsTo place place

-- 42: a pattern or a name class that is too deep
abbrev pub IsTooDeep : Schema → Type 0
IsTooDeep g =
    (1024 < depth g.start)
    ⊎ ((d : ℕ) × (e : Definition) × Defines g d e × (1024 < depth e.content))
    ⊎ ((c : class.Class) × (IsElementClass g c ⊎ IsAttributeClass g c) × (1024 < class_depth c))

-- 44: a value's kind doesn't allow its literal
abbrev pub type_place : TypeName → ℕ
type_place (built_string at) = at
type_place (built_token at) = at
type_place (prefixed_type p l at) = at

abbrev pub refuses : Option Kind → Text → Bool
refuses None t = false
refuses (Some k) t = not (allows k t)

abbrev pub bad_value_in : List SchemaFile → Pattern → List ℕ
bad_value_in fs (full.value (Some k) t) = place_if (refuses (kind_of fs k) t) (type_place k)
bad_value_in fs p = []

abbrev pub bad_values : Full → List ℕ
bad_values f = flat_map (λ x. bad_value_in f.files x.pattern) (parts f)

pub data Fault : Type 0 where
  UnboundPrefix : ℕ → Fault
  PrefixTwice : ℕ → Fault
  ReservedPrefix : ℕ → Fault
  ClassConstraint : ℕ → Fault
  XmlnsAttribute : ℕ → Fault
  NoStart : Fault
  UndefinedName : ℕ → Fault
  ParentOutside : ℕ → Fault
  CombineMixed : ℕ → Fault
  DefinedTwice : ℕ → Fault
  Loop : ℕ → Fault
  ExpandedTooDeep : Fault
  BadValue : ℕ → Fault

abbrev pub fault_number : Fault → ℕ
fault_number (UnboundPrefix at) = 31
fault_number (PrefixTwice at) = 32
fault_number (ReservedPrefix at) = 33
fault_number (ClassConstraint at) = 34
fault_number (XmlnsAttribute at) = 35
fault_number NoStart = 36
fault_number (UndefinedName at) = 37
fault_number (ParentOutside at) = 38
fault_number (CombineMixed at) = 39
fault_number (DefinedTwice at) = 40
fault_number (Loop at) = 41
fault_number ExpandedTooDeep = 42
fault_number (BadValue at) = 44

-- two faults have no place
abbrev pub fault_place : Fault → ℕ
fault_place (UnboundPrefix at) = at
fault_place (PrefixTwice at) = at
fault_place (ReservedPrefix at) = at
fault_place (ClassConstraint at) = at
fault_place (XmlnsAttribute at) = at
fault_place NoStart = 0
fault_place (UndefinedName at) = at
fault_place (ParentOutside at) = at
fault_place (CombineMixed at) = at
fault_place (DefinedTwice at) = at
fault_place (Loop at) = at
fault_place ExpandedTooDeep = 0
fault_place (BadValue at) = at

-- the tree has the fault
abbrev pub HasFault : Full → Fault → Type 0
HasFault f (UnboundPrefix at) = Contains (unbound_prefixes f) at
HasFault f (PrefixTwice at) = Contains (prefixes_twice f) at
HasFault f (ReservedPrefix at) = Contains (reserved_prefixes f) at
HasFault f (ClassConstraint at) = Contains (class_constraints f) at
HasFault f (XmlnsAttribute at) = Contains (xmlns_attributes f) at
HasFault f NoStart = IsTrue (has_no_start f)
HasFault f (UndefinedName at) = Contains (undefined_names f) at
HasFault f (ParentOutside at) = Contains (parents_outside f) at
HasFault f (CombineMixed at) = Contains (combine_mixed f) at
HasFault f (DefinedTwice at) = Contains (defined_twice f) at
HasFault f (Loop at) = IsLoop f at
HasFault f ExpandedTooDeep = (g : Schema) × IsFormOf f g × IsTooDeep g
HasFault f (BadValue at) = Contains (bad_values f) at

-- by number, then by place
abbrev pub IsNoLater : Fault → Fault → Type 0
IsNoLater x y = (fault_number x < fault_number y) ⊎ ((fault_number x ≡ fault_number y) × (fault_place x ≤ fault_place y))

-- the fault with the least number, and of these with the least place
pub record SimplifyRefusal (f : Full) (x : Fault) : Type 0 where
  pub fault : HasFault f x
  pub first : (y : Fault) → HasFault f y → IsNoLater x y

-- the simple form of a tree without faults
pub record Simple (f : Full) (g : Schema) : Type 0 where
  pub form : IsFormOf f g
  pub sound : (x : Fault) → HasFault f x → ⊥

-- a type of a library that has it
abbrev pub IsKnownType : List SchemaFile → TypeName → Type 0
IsKnownType fs (prefixed_type p name at) = (u : Text) → look_up (library_table (file_at fs at)) p ≡ Some u → (k : Kind) × (library_kind name u ≡ Some k)
IsKnownType fs k = ⊤

abbrev pub IsMany : Patterns → Type 0
IsMany no_pattern = ⊥
IsMany (more_patterns p ps) = ⊤

abbrev pub IsManyClasses : Classes → Type 0
IsManyClasses no_classes = ⊥
IsManyClasses (more_classes c cs) = ⊤

-- each choice in the class has members
abbrev mutual
  pub IsWholeClass : Class → Type 0
  IsWholeClass (full.any_except c at) = IsWholeClass c
  IsWholeClass (full.namespace_except p c at) = IsWholeClass c
  IsWholeClass (full.choice_class cs) = IsManyClasses cs × AreWholeClasses cs
  IsWholeClass c = ⊤

  pub AreWholeClasses : Classes → Type 0
  AreWholeClasses no_classes = ⊤
  AreWholeClasses (more_classes c cs) = IsWholeClass c × AreWholeClasses cs

-- The pattern itself has none of the features that are refused by name, is no reference to a file, and its lists have members.
abbrev pub IsSimplifiablePart : List SchemaFile → Pattern → Type 0
IsSimplifiablePart fs (full.element c p at) = IsWholeClass c
IsSimplifiablePart fs (full.attribute c p at) = IsWholeClass c
IsSimplifiablePart fs (full.group ps) = IsMany ps
IsSimplifiablePart fs (full.choice ps) = IsMany ps
IsSimplifiablePart fs (full.interleave ps) = IsMany ps
IsSimplifiablePart fs (full.list p at) = ⊥
IsSimplifiablePart fs (full.value (Some of) t) = IsKnownType fs of
IsSimplifiablePart fs (full.data_type of xs) = (xs ≡ []) × IsKnownType fs of
IsSimplifiablePart fs (full.data_except of xs p) = (xs ≡ []) × IsKnownType fs of
IsSimplifiablePart fs (full.external t passed at) = ⊥
IsSimplifiablePart fs p = ⊤

-- What is asked of a tree that is to be simplified. Of an `include` among its items nothing is asked: it counts as no item.
abbrev pub IsSimplifiable : Full → Type 0
IsSimplifiable f = (x : Part) → Contains (parts f) x → IsSimplifiablePart f.files x.pattern
