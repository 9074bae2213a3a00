-- The schema of one empty element, and the one document that it allows.
use Rattle.std.specs.Prelude.{[], ◌∷◌}
use Rattle.rng_model.specs.Names.{Name}
use Rattle.rng_model.specs.Classes.{one}
use Rattle.rng_model.specs.Patterns.{Schema, ref, empty}
use Rattle.rng_model.specs.Hedges.{Skeleton, none}

-- element n { empty }
abbrev pub one_element : Name → Schema
one_element n = record { start = ref 0; elements = (record { class = one n; content = empty }) ∷ [] }

-- the element n without attributes and children
abbrev pub root : Name → Skeleton
root n = record { name = n; attributes = []; children = none }
