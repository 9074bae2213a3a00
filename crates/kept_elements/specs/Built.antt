-- A schema built of forms with new numbers.
use Rattle.std.specs.Prelude.{◌≡◌, ℕ, List, Option, Some, length, slice_get}
use Rattle.rng_model.specs.Patterns.{Schema, Definition}
use Rattle.simple_form_laws.specs.Forms.{new_number, renumbered}
use Rattle.name_classes.specs.Views.{class_of}
use Rattle.name_classes.specs.declared.class.NameClass.{NameClass}
use Rattle.schema_graph.specs.declared.graph.Graph.{Graph}
use Rattle.pattern_intern.specs.Stored.{Stored, tree_at}
use Rattle.pattern_intern.specs.declared.id.PatternId.{PatternId}
use Rattle.pattern_forms.specs.Outcomes.{HasForm}
use Rattle.kept_elements.specs.Wanted.{HasContent}

module _ (g : Graph) (pool : Stored) (forms : List (Option PatternId)) (kept : List ℕ) where
  pub record IsBuiltDefinition (n : ℕ) (e : Definition) : Type 0 where
    pub class : NameClass
    pub form : PatternId
    pub is : HasContent g forms n class form
    pub same : e.class ≡ class_of class
    pub content : e.content ≡ renumbered (new_number kept) (tree_at pool form.0)

  -- a definition for each of the numbers, in their order
  pub record AreBuilt (ns : List ℕ) (es : List Definition) : Type 0 where
    pub each : length es ≡ length ns
    pub are : (k n : ℕ) → slice_get ns k ≡ Some n → (e : Definition) × (slice_get es k ≡ Some e) × IsBuiltDefinition n e

  pub record IsBuilt (s : Schema) : Type 0 where
    pub root : PatternId
    pub form : HasForm forms g.root root
    pub start : s.start ≡ renumbered (new_number kept) (tree_at pool root.0)
    pub elements : AreBuilt kept s.elements
