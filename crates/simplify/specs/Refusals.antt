-- For which fault a tree is refused.
use Rattle.std.specs.Prelude.{◌≡◌, ⊤}
use Rattle.rng_model.specs.Patterns.{Schema}
use Rattle.grammar_laws.specs.Files.{Full}
use Rattle.simple_form_laws.specs.Forms.{IsFormOf}
use Rattle.simple_form_laws.specs.Faults as of
use Rattle.simple_form_laws.specs.Faults.{SimplifyRefusal, HasFault}
use Rattle.tree_faults.specs.Firsts.{IsFreeOfLoops}
use Rattle.pattern_forms.specs.declared.fault.FormsFault.{FormsFault}
use Rattle.kept_elements.specs.declared.fault.SchemaFault.{SchemaFault}
use Rattle.simplify.specs.declared.fault.SimplifyFault.{SimplifyFault}

-- the fault is the one for which the tree is refused; want of memory is no fault of the tree
abbrev pub IsRefusal : Full → SimplifyFault → Type 0
IsRefusal f (SimplifyFault.UnboundPrefix at) = SimplifyRefusal f (of.UnboundPrefix at)
IsRefusal f (SimplifyFault.PrefixTwice at) = SimplifyRefusal f (of.PrefixTwice at)
IsRefusal f (SimplifyFault.ReservedPrefix at) = SimplifyRefusal f (of.ReservedPrefix at)
IsRefusal f (SimplifyFault.ClassConstraint at) = SimplifyRefusal f (of.ClassConstraint at)
IsRefusal f (SimplifyFault.XmlnsAttribute at) = SimplifyRefusal f (of.XmlnsAttribute at)
IsRefusal f SimplifyFault.NoStart = SimplifyRefusal f of.NoStart
IsRefusal f (SimplifyFault.UndefinedName at) = SimplifyRefusal f (of.UndefinedName at)
IsRefusal f (SimplifyFault.ParentOutside at) = SimplifyRefusal f (of.ParentOutside at)
IsRefusal f (SimplifyFault.CombineMixed at) = SimplifyRefusal f (of.CombineMixed at)
IsRefusal f (SimplifyFault.DefinedTwice at) = SimplifyRefusal f (of.DefinedTwice at)
IsRefusal f (SimplifyFault.Loop at) = SimplifyRefusal f (of.Loop at)
IsRefusal f SimplifyFault.ExpandedTooDeep = SimplifyRefusal f of.ExpandedTooDeep
IsRefusal f (SimplifyFault.BadValue at) = SimplifyRefusal f (of.BadValue at)
IsRefusal f SimplifyFault.OutOfMemory = ⊤

-- The schema is the tree's simple form, no reference leads back to itself, and nothing is too deep.
pub record IsFormed (f : Full) (g : Schema) : Type 0 where
  pub form : IsFormOf f g
  pub loops : IsFreeOfLoops f
  pub shallow : HasFault f of.ExpandedTooDeep → ⊥

-- what becomes of a fault of forms, and of one of a schema
abbrev pub IsOfForms : FormsFault → SimplifyFault → Type 0
IsOfForms (FormsFault.Loop at) x = x ≡ SimplifyFault.Loop at
IsOfForms FormsFault.OutOfMemory x = x ≡ SimplifyFault.OutOfMemory

abbrev pub IsOfSchema : SchemaFault → SimplifyFault → Type 0
IsOfSchema SchemaFault.ExpandedTooDeep x = x ≡ SimplifyFault.ExpandedTooDeep
IsOfSchema SchemaFault.OutOfMemory x = x ≡ SimplifyFault.OutOfMemory
