-- A name that isn't in the list, or whose origin is another, isn't mentioned.
use Rattle.rng_model.specs.Universe.{IsElementClass, IsAttributeClass}
use Rattle.name_universe.proofs.Standing.{not_listed, no_element, no_attribute}
use Rattle.name_universe.proofs.names.Names.find_mentioned.Goals as goal

pub returns-in-Some-clause-no_element : goal.returns-in-Some-clause-no_element
returns-in-Some-clause-no_element c = no_element c.args.self.now c.if_mentioned.result c.in-Some.position c.args.name.now c.in-Some.ensures.found c.if_mentioned.ensures.other

pub returns-in-Some-clause-no_attribute : goal.returns-in-Some-clause-no_attribute
returns-in-Some-clause-no_attribute c = no_attribute c.args.self.now c.if_mentioned.result c.in-Some.position c.args.name.now c.in-Some.ensures.found c.if_mentioned.ensures.other

pub returns-in-None-clause-no_element : goal.returns-in-None-clause-no_element
returns-in-None-clause-no_element c g fresh of = not_listed (IsElementClass g) fresh c.args.self.now of c.args.name.now c.in-None.ensures.absent

pub returns-in-None-clause-no_attribute : goal.returns-in-None-clause-no_attribute
returns-in-None-clause-no_attribute c g fresh of = not_listed (IsAttributeClass g) fresh c.args.self.now of c.args.name.now c.in-None.ensures.absent
