use Rattle.simple_form_laws.proofs.Kept.{in_its_place, ascends}
use Rattle.simple_form_laws.proofs.new_numbers.Goals as goal

pub returns-clause-place : goal.returns-clause-place
returns-clause-place c = in_its_place

pub returns-clause-ascending : goal.returns-clause-ascending
returns-clause-ascending c = ascends
