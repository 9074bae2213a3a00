-- The position in the list of names for elements.
use Rattle.std.proofs.Common.{subst, sym}
use Rattle.rng_model.specs.Universe.{IsElementClass}
use Rattle.name_universe.specs.Tables.{NameTables, IsUniverse, StandsAt}
use Rattle.name_universe.proofs.universe.Universe.stands_for_element.Goals as goal

pub returns-clause-stands : goal.returns-clause-stands
returns-clause-stands c g fresh u =
    let is = subst (IsUniverse g fresh) (sym c.self.view_is) u in
    subst (λ (v : NameTables). StandsAt (IsElementClass g) v.elements.names c.args.name.now c.stands_for.result) c.self.view_is (c.stands_for.ensures.elements g fresh is.elements)
