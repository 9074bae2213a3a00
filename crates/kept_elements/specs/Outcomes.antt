-- The schema of a graph's forms.
use Rattle.std.specs.Prelude.{◌≡◌, ℕ, ◌<◌, ◌⊎◌, ◌↔◌, List, Option, Some, length, slice_get, Contains, ⊤}
use Rattle.std.specs.Ordering.{nat_cmp}
use Rattle.std.specs.List.Sorted.{IsStrictlySortedBy}
use Rattle.rng_model.specs.Patterns.{Pattern, Schema, ref, attribute}
use Rattle.rng_model.specs.Depths.{depth, class_depth}
use Rattle.grammar_laws.specs.Files.{Full}
use Rattle.simple_form_laws.specs.Forms.{IsFormOf, new_number, renumbered}
use Rattle.simple_form_laws.specs.Faults.{IsTooDeep}
use Rattle.name_classes.specs.Views.{class_of}
use Rattle.name_classes.specs.declared.class.NameClass.{NameClass}
use Rattle.schema_graph.specs.Shown.{IsGraph}
use Rattle.schema_graph.specs.declared.graph.Graph.{Graph}
use Rattle.pattern_intern.specs.Schemas.{Entry}
use Rattle.pattern_intern.specs.Stored.{Stored, count, tree_at}
use Rattle.pattern_intern.specs.declared.id.PatternId.{PatternId}
use Rattle.pattern_forms.specs.Outcomes.{HasForm, AreForms, AreReached}
use Rattle.kept_elements.specs.Wanted.{HasContent, IsWanted}
use Rattle.kept_elements.specs.declared.fault.SchemaFault.{SchemaFault}

-- The forms are those of a schema's graph: what can be reached in it has one.
pub record AreFormsOfGraph (g : Graph) (pool : Stored) (table : List (Option PatternId)) : Type 0 where
  pub tree : Full
  pub graph : IsGraph tree g
  pub forms : AreForms g pool table
  pub reached : AreReached g table

-- the numbers of the elements that are wanted, in their order
pub record AreKept (g : Graph) (pool : Stored) (forms : List (Option PatternId)) (kept : List ℕ) : Type 0 where
  pub ascending : IsStrictlySortedBy nat_cmp kept
  pub each : (n : ℕ) → Contains kept n ↔ IsWanted g pool forms (ref n)

-- a definition for each kept element, in their order
pub record IsEntry (g : Graph) (old new : Stored) (forms : List (Option PatternId)) (kept : List ℕ) (n : ℕ) (x : Entry) : Type 0 where
  pub class : NameClass
  pub form : PatternId
  pub is : HasContent g forms n class form
  pub same : x.0 ≡ class_of class
  pub within : x.1 < count new
  pub content : tree_at new x.1 ≡ renumbered (new_number kept) (tree_at old form.0)

pub record AreEntries (g : Graph) (old new : Stored) (forms : List (Option PatternId)) (kept : List ℕ) (entries : List Entry) : Type 0 where
  pub each : length entries ≡ length kept
  pub are : (k n : ℕ) → slice_get kept k ≡ Some n → (x : Entry) × (slice_get entries k ≡ Some x) × IsEntry g old new forms kept n x

-- the first i of them
pub record AreSomeEntries (g : Graph) (old new : Stored) (forms : List (Option PatternId)) (kept : List ℕ) (i : ℕ) (entries : List Entry) : Type 0 where
  pub each : length entries ≡ i
  pub are : (k n : ℕ) → k < i → slice_get kept k ≡ Some n → (x : Entry) × (slice_get entries k ≡ Some x) × IsEntry g old new forms kept n x

-- the class of the element or its content's form is deeper than 1,024
abbrev pub IsDeepElement : Graph → Stored → List (Option PatternId) → ℕ → Type 0
IsDeepElement g pool forms n =
    (d : NameClass) × (id : PatternId) × HasContent g forms n d id × ((1024 < depth (tree_at pool id.0)) ⊎ (1024 < class_depth (class_of d)))

-- the pattern is an attribute with such a class
abbrev pub IsDeepAttribute : Pattern → Type 0
IsDeepAttribute (attribute c p) = 1024 < class_depth c
IsDeepAttribute p = ⊥

-- something in the schema is too deep
abbrev pub IsDeep : Graph → Stored → List (Option PatternId) → Type 0
IsDeep g pool forms =
    ((id : PatternId) × HasForm forms g.root id × (1024 < depth (tree_at pool id.0)))
    ⊎ ((n : ℕ) × IsWanted g pool forms (ref n) × IsDeepElement g pool forms n)
    ⊎ ((p : Pattern) × IsWanted g pool forms p × IsDeepAttribute p)

-- The schema is the simple form of each tree that has the graph, and nothing in it is too deep.
pub record IsSchemaOf (g : Graph) (s : Schema) : Type 0 where
  pub form : (f : Full) → IsGraph f g → IsFormOf f s
  pub shallow : IsTooDeep s → ⊥

-- each fault has its cause
abbrev pub IsCause : Graph → SchemaFault → Type 0
IsCause g SchemaFault.ExpandedTooDeep = (f : Full) → IsGraph f g → (s : Schema) × IsFormOf f s × IsTooDeep s
IsCause g SchemaFault.OutOfMemory = ⊤
