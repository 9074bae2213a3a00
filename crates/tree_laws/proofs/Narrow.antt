-- Where each node passes one test it passes another that follows from it.
use Rattle.grammar_laws.specs.Trees.{Class, Classes, no_classes, more_classes, Pattern, Patterns, no_pattern, more_patterns, Item, Items, no_item, more_items, Body}
use Rattle.grammar_laws.specs.Trees as full
use Rattle.tree_laws.specs.WholeBodies.{Tests, PassesClass, PassClasses, Passes, PassPatterns, PassesItem, PassItems, PassesBody}

-- the tests of u follow from those of t
pub record Follow (t u : Tests) : Type 0 where
  pub pattern : (p : Pattern) → t.pattern p → u.pattern p
  pub class : (c : Class) → t.class c → u.class c
  pub item : (i : Item) → t.item i → u.item i

module _ (t u : Tests) (f : Follow t u) where
  mutual
    narrow_class : (c : Class) → PassesClass t c → PassesClass u c
    narrow_class (full.plain l at) h = f.class (full.plain l at) h
    narrow_class (full.prefixed p l at) h = f.class (full.prefixed p l at) h
    narrow_class (full.any at) h = f.class (full.any at) h
    narrow_class (full.any_except c at) h = (f.class (full.any_except c at) h.0, narrow_class c h.1)
    narrow_class (full.namespace p at) h = f.class (full.namespace p at) h
    narrow_class (full.namespace_except p c at) h = (f.class (full.namespace_except p c at) h.0, narrow_class c h.1)
    narrow_class (full.choice_class cs) h = (f.class (full.choice_class cs) h.0, narrow_classes cs h.1)

    narrow_classes : (cs : Classes) → PassClasses t cs → PassClasses u cs
    narrow_classes no_classes h = tt
    narrow_classes (more_classes c cs) h = (narrow_class c h.0, narrow_classes cs h.1)

  mutual
    narrow_pattern : (p : Pattern) → Passes t p → Passes u p
    narrow_pattern (full.element c p at) h = (f.pattern (full.element c p at) h.0, narrow_class c h.1, narrow_pattern p h.2)
    narrow_pattern (full.attribute c p at) h = (f.pattern (full.attribute c p at) h.0, narrow_class c h.1, narrow_pattern p h.2)
    narrow_pattern (full.group ps) h = (f.pattern (full.group ps) h.0, narrow_patterns ps h.1)
    narrow_pattern (full.choice ps) h = (f.pattern (full.choice ps) h.0, narrow_patterns ps h.1)
    narrow_pattern (full.interleave ps) h = (f.pattern (full.interleave ps) h.0, narrow_patterns ps h.1)
    narrow_pattern (full.optional p) h = (f.pattern (full.optional p) h.0, narrow_pattern p h.1)
    narrow_pattern (full.zero_or_more p) h = (f.pattern (full.zero_or_more p) h.0, narrow_pattern p h.1)
    narrow_pattern (full.one_or_more p) h = (f.pattern (full.one_or_more p) h.0, narrow_pattern p h.1)
    narrow_pattern (full.list p at) h = (f.pattern (full.list p at) h.0, narrow_pattern p h.1)
    narrow_pattern (full.mixed p) h = (f.pattern (full.mixed p) h.0, narrow_pattern p h.1)
    narrow_pattern (full.ref n at) h = f.pattern (full.ref n at) h
    narrow_pattern (full.parent n at) h = f.pattern (full.parent n at) h
    narrow_pattern full.empty h = f.pattern full.empty h
    narrow_pattern full.any_text h = f.pattern full.any_text h
    narrow_pattern full.not_allowed h = f.pattern full.not_allowed h
    narrow_pattern (full.value of l) h = f.pattern (full.value of l) h
    narrow_pattern (full.data_type of xs) h = f.pattern (full.data_type of xs) h
    narrow_pattern (full.data_except of xs p) h = (f.pattern (full.data_except of xs p) h.0, narrow_pattern p h.1)
    narrow_pattern (full.external l g at) h = f.pattern (full.external l g at) h
    narrow_pattern (full.grammar is) h = (f.pattern (full.grammar is) h.0, narrow_items is h.1)

    narrow_patterns : (ps : Patterns) → PassPatterns t ps → PassPatterns u ps
    narrow_patterns no_pattern h = tt
    narrow_patterns (more_patterns p ps) h = (narrow_pattern p h.0, narrow_patterns ps h.1)

    narrow_item : (i : Item) → PassesItem t i → PassesItem u i
    narrow_item (full.start m p at) h = (f.item (full.start m p at) h.0, narrow_pattern p h.1)
    narrow_item (full.define n m p at) h = (f.item (full.define n m p at) h.0, narrow_pattern p h.1)
    narrow_item (full.div is) h = (f.item (full.div is) h.0, narrow_items is h.1)
    narrow_item (full.include l g is at) h = (f.item (full.include l g is at) h.0, narrow_items is h.1)

    narrow_items : (is : Items) → PassItems t is → PassItems u is
    narrow_items no_item h = tt
    narrow_items (more_items i is) h = (narrow_item i h.0, narrow_items is h.1)

  pub narrow_body : (b : Body) → PassesBody t b → PassesBody u b
  narrow_body (full.pattern p) h = narrow_pattern p h
  narrow_body (full.items is) h = narrow_items is h
