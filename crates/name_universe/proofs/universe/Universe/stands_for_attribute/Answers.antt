-- The position in the list of names for attributes.
use Rattle.std.proofs.Common.{subst, sym}
use Rattle.rng_model.specs.Universe.{IsAttributeClass}
use Rattle.name_universe.specs.Tables.{NameTables, IsUniverse, StandsAt}
use Rattle.name_universe.proofs.universe.Universe.stands_for_attribute.Goals as goal

pub returns-clause-stands : goal.returns-clause-stands
returns-clause-stands c g fresh u =
    let is = subst (IsUniverse g fresh) (sym c.self.view_is) u in
    subst (λ (v : NameTables). StandsAt (IsAttributeClass g) v.attributes.names c.args.name.now c.stands_for.result) c.self.view_is (c.stands_for.ensures.attributes g fresh is.attributes)
