-- A mentioned name stands for itself, and another for its stand-in.
use Rattle.rng_model.specs.Universe.{IsElementClass, IsAttributeClass}
use Rattle.name_universe.proofs.Standing.{mentioned_stands, stand_in_stands, below_length}
use Rattle.name_universe.proofs.names.Names.stands_for.Goals as goal

pub returns-in-Some-clause-elements : goal.returns-in-Some-clause-elements
returns-in-Some-clause-elements c g fresh of = mentioned_stands (IsElementClass g) fresh c.args.self.now of c.in-Some.position c.args.name.now c.in-Some.ensures.found.0 c.in-Some.ensures.found.1

pub returns-in-Some-clause-attributes : goal.returns-in-Some-clause-attributes
returns-in-Some-clause-attributes c g fresh of = mentioned_stands (IsAttributeClass g) fresh c.args.self.now of c.in-Some.position c.args.name.now c.in-Some.ensures.found.0 c.in-Some.ensures.found.1

pub returns-in-None-clause-elements : goal.returns-in-None-clause-elements
returns-in-None-clause-elements c g fresh of =
    let (m, at, is) = c.find_stand_in.ensures in
    stand_in_stands (IsElementClass g) fresh c.args.self.now of c.find_stand_in.result c.args.name.now m at (c.in-None.ensures.no_element g fresh of) is

pub returns-in-None-clause-attributes : goal.returns-in-None-clause-attributes
returns-in-None-clause-attributes c g fresh of =
    let (m, at, is) = c.find_stand_in.ensures in
    stand_in_stands (IsAttributeClass g) fresh c.args.self.now of c.find_stand_in.result c.args.name.now m at (c.in-None.ensures.no_attribute g fresh of) is

pub returns-in-None-clause-within : goal.returns-in-None-clause-within
returns-in-None-clause-within c = let (m, at, is) = c.find_stand_in.ensures in below_length c.args.self.now.names c.find_stand_in.result m at
