-- Worked examples of overlaps and representatives.
use Rattle.std.specs.Prelude.{[], ◌∷◌, codes, false}
use Rattle.rng_model.specs.Atoms.{Literals}
use Rattle.rng_model.specs.Names.{Name}
use Rattle.rng_model.specs.Classes.{any_except, one}
use Rattle.rng_model.specs.Patterns.{Schema, ref, choice, one_or_more, attribute}
use Rattle.rng_model.specs.Patterns as pattern
use Rattle.rng_model.specs.Hedges.{Attributes, Skeleton, none}
use Rattle.rng_model.specs.Examples.{named, a_name, b_name, defined}

-- {u}q
abbrev pub foreign : Name
foreign = record { ns = codes "u"; local = codes "q" }

-- element * - a { empty }
abbrev pub not_a : Schema
not_a = record { start = ref 0; elements = record { class = any_except (one a_name); content = pattern.empty } ∷ [] }

-- element a { attribute * - b { text }* }
abbrev pub open_a : Schema
open_a = record {
  start = ref 0;
  elements = defined a_name (choice pattern.empty (one_or_more (attribute (any_except (one b_name)) pattern.text))) ∷ [];
}

abbrev pub no_literals : Literals
no_literals = record { members = []; has_empty = false; kinds = [] }

-- the element a with these attributes and no children
abbrev pub with_attributes : Attributes → Skeleton
with_attributes a = record { name = a_name; attributes = a; children = none }

-- it with the attributes p and q
abbrev pub p_and_q : Skeleton
p_and_q = with_attributes ((named (codes "p"), codes "1") ∷ (named (codes "q"), codes "2") ∷ [])
