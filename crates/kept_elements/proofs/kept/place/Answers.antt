use Rattle.kept_elements.proofs.Ascending.{found_place, always_found}
use Rattle.kept_elements.proofs.kept.place.Goals as goal

pub returns-clause-place : goal.returns-clause-place
returns-clause-place c = (found_place c.args.kept.now c.args.number c.requires.ascending c.requires.kept c.binary_search.result c.in-Ok.place c.binary_search.ensures.position c.in-Ok.is).0

pub unreachable-requires : goal.unreachable-requires
unreachable-requires c = always_found c.args.kept.now c.args.number c.requires.ascending c.requires.kept c.binary_search.result c.in-Err.field-0 c.binary_search.ensures.position c.in-Err.is
