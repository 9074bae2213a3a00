-- The place is below the set's length.
use Rattle.std.proofs.Common.{arith, refl}
use Rattle.name_universe.proofs.Places.{taken}
use Rattle.name_universe.proofs.Splitting.{split_same, split_tells}
use Rattle.name_universe.specs.contracts.split.SplitPartialEq.TheImpl as split_eq
use Rattle.name_universe.proofs.split.block_of.Goals as goal

pub overflow_add-result : goal.overflow_add-result
overflow_add-result c = omega (arith, c.in_ok-place.ensures.within, c.len-count.ensures.len, c.len-count.type_inv)

pub returns : goal.returns
returns c =
    let (key, stored, equal) = c.in_ok-place.ensures.stored in
    (c.in_ok-place.place, refl, taken split_eq.eq-value.it split_same split_tells _ _ c.args.split c.in_ok-place.place c.in_ok-place.ensures.keys c.in_ok-place.ensures.index key stored equal)
