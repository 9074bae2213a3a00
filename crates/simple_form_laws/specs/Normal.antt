-- A choice of a simple form is the strictly ascending list of its members: this project's own.
use Rattle.std.specs.Prelude.{◌∷◌, ⊤}
use Rattle.std.specs.List.Sorted.{IsStrictlySortedBy}
use Rattle.rng_model.specs.Patterns.{Pattern, not_allowed, data_except, attribute, one_or_more, choice, group, interleave, after, pattern_cmp}
use Rattle.rng_model.specs.Constructors.{members}
use Rattle.derivative_laws.specs.Choices.{IsMember}

-- any pattern but notAllowed
abbrev pub IsNotNothing : Pattern → Type 0
IsNotNothing not_allowed = ⊥
IsNotNothing p = ⊤

-- each choice in the pattern is ascending, its first part is a member, and there is a second
abbrev pub HasNormalChoices : Pattern → Type 0
HasNormalChoices (choice p q) = IsStrictlySortedBy pattern_cmp (p ∷ members q) × IsMember p × IsNotNothing q × HasNormalChoices p × HasNormalChoices q
HasNormalChoices (data_except k e) = HasNormalChoices e
HasNormalChoices (attribute c p) = HasNormalChoices p
HasNormalChoices (one_or_more p) = HasNormalChoices p
HasNormalChoices (group p q) = HasNormalChoices p × HasNormalChoices q
HasNormalChoices (interleave p q) = HasNormalChoices p × HasNormalChoices q
HasNormalChoices (after p q) = HasNormalChoices p × HasNormalChoices q
HasNormalChoices p = ⊤
