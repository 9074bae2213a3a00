-- The rules by name, and the least that is broken.
use Rattle.std.specs.Prelude.{◌≡◌, ◌≢◌, ℕ, ◌<◌, ◌⊎◌, Option, Some, None}
use Rattle.rng_model.specs.Patterns.{Pattern, Schema, Definition, Defines, not_allowed}
use Rattle.rng_model.specs.Inside.{Within, InAttribute, InOneOrMore, InGroup, InInterleave, InExcept, IsRef, IsAttribute}
use Rattle.rng_model.specs.Restrictions.{IsNoData, IsNoStart, content_type, SidesOverlap, HasLooseAttribute, RefsOverlap, BothHaveText, IsBroken, BreaksNoRule}
use Rattle.restrictions.specs.declared.rule.Rule.{Rule}
use Rattle.restrictions.specs.declared.rule.Rule.TheVariants.{AttributeRef, AttributeAttribute, OneOrMoreGroupAttribute, OneOrMoreInterleaveAttribute, DataExcept, Start, StringSequence, DuplicateAttributes, InfiniteAttribute, InterleaveElements, InterleaveText}

abbrev pub number_of : Rule → ℕ
number_of AttributeRef = 1
number_of AttributeAttribute = 2
number_of OneOrMoreGroupAttribute = 3
number_of OneOrMoreInterleaveAttribute = 4
number_of DataExcept = 5
number_of Start = 6
number_of StringSequence = 7
number_of DuplicateAttributes = 8
number_of InfiniteAttribute = 9
number_of InterleaveElements = 10
number_of InterleaveText = 11

-- no rule is broken, or the rule is the least that is
abbrev pub IsLeastBroken : Schema → Option Rule → Type 0
IsLeastBroken g None = BreaksNoRule g
IsLeastBroken g (Some r) = IsBroken g (number_of r) × ((k : ℕ) → k < number_of r → IsBroken g k → ⊥)

-- what the rule forbids in a start pattern and in a content
abbrev pub BreaksIn : Schema → Rule → Pattern → Type 0
BreaksIn g AttributeRef p = Within (InAttribute IsRef) p
BreaksIn g AttributeAttribute p = Within (InAttribute IsAttribute) p
BreaksIn g OneOrMoreGroupAttribute p = Within (InOneOrMore (InGroup IsAttribute)) p
BreaksIn g OneOrMoreInterleaveAttribute p = Within (InOneOrMore (InInterleave IsAttribute)) p
BreaksIn g DataExcept p = Within (InExcept IsNoData) p
BreaksIn g Start p = ⊥
BreaksIn g StringSequence p = ⊥
BreaksIn g DuplicateAttributes p = Within SidesOverlap p
BreaksIn g InfiniteAttribute p = HasLooseAttribute p
BreaksIn g InterleaveElements p = Within (RefsOverlap g) p
BreaksIn g InterleaveText p = Within BothHaveText p

-- in a start pattern
abbrev pub BreaksStart : Schema → Rule → Pattern → Type 0
BreaksStart g Start p = Within IsNoStart p
BreaksStart g r p = BreaksIn g r p

-- in a content
abbrev pub BreaksContent : Schema → Rule → Pattern → Type 0
BreaksContent g StringSequence p = (p ≢ not_allowed) × (content_type p ≡ None)
BreaksContent g r p = BreaksIn g r p

-- the rule is broken, as `IsBroken` says by its number
abbrev pub Breaks : Schema → Rule → Type 0
Breaks g r = BreaksStart g r g.start ⊎ ((d : ℕ) × (e : Definition) × Defines g d e × BreaksContent g r e.content)
