-- What becomes of what follows an element, when what stands before or beside it is opened.
use Rattle.std.specs.Prelude.{ℕ}
use Rattle.rng_model.specs.Patterns.{Pattern}
use Rattle.rng_model.specs.Constructors.{after_of, group_of, interleave_of}
use Rattle.derivatives.specs.declared.grow.Grow.{Grow}
use Rattle.derivatives.specs.declared.grow.Grow.TheVariants.{InGroup, Before, Behind, InAfter}

-- what y becomes, by the other pattern
abbrev pub grown : Grow → Pattern → Pattern → Pattern
grown (InGroup other) q y = group_of y q
grown (Before other) q y = interleave_of y q
grown (Behind other) q y = interleave_of q y
grown (InAfter other) q y = after_of y q

-- the number of the other pattern
abbrev pub part : Grow → ℕ
part (InGroup other) = other.0
part (Before other) = other.0
part (Behind other) = other.0
part (InAfter other) = other.0
