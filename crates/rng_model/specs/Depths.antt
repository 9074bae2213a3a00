-- The depth of patterns and of name classes: 1 for a leaf, for a choice of patterns 1 more than the greatest of its members, for another 1 more than the greatest of its parts.
-- The standard bounds no depth; the bound is this project's own.
use Rattle.std.specs.Prelude.{ℕ, suc, max}
use Rattle.rng_model.specs.Classes.{Class, any_except, namespace_except, either}
use Rattle.rng_model.specs.Patterns.{Pattern, data_except, attribute, one_or_more, choice, group, interleave, after}

-- the depth that a choice has from its last members, whose depth as a pattern is d
abbrev pub in_choice : Pattern → ℕ → ℕ
in_choice (choice p q) d = d
in_choice p d = suc d

abbrev pub depth : Pattern → ℕ
depth (data_except k e) = suc (depth e)
depth (attribute c p) = suc (depth p)
depth (one_or_more p) = suc (depth p)
depth (choice p q) = max (suc (depth p)) (in_choice q (depth q))
depth (group p q) = suc (max (depth p) (depth q))
depth (interleave p q) = suc (max (depth p) (depth q))
depth (after p q) = suc (max (depth p) (depth q))
depth p = 1

abbrev pub class_depth : Class → ℕ
class_depth (any_except c) = suc (class_depth c)
class_depth (namespace_except u c) = suc (class_depth c)
class_depth (either a b) = suc (max (class_depth a) (class_depth b))
class_depth c = 1
