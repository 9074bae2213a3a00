-- What is asked of a class that is resolved: each local name in it is an NCName (Namespaces in XML, section 3).
use Rattle.std.specs.Prelude.{IsTrue, ⊤}
use Rattle.rng_model.specs.Names.{is_ncname}
use Rattle.grammar_laws.specs.Trees.{Class, Classes, plain, prefixed, any, any_except, namespace, namespace_except, choice_class, no_classes, more_classes}

abbrev mutual
  pub HasNcNames : Class → Type 0
  HasNcNames (plain l at) = IsTrue (is_ncname l)
  HasNcNames (prefixed p l at) = IsTrue (is_ncname l)
  HasNcNames (any at) = ⊤
  HasNcNames (any_except c at) = HasNcNames c
  HasNcNames (namespace p at) = ⊤
  HasNcNames (namespace_except p c at) = HasNcNames c
  HasNcNames (choice_class cs) = HaveNcNames cs

  pub HaveNcNames : Classes → Type 0
  HaveNcNames no_classes = ⊤
  HaveNcNames (more_classes c cs) = HasNcNames c × HaveNcNames cs
