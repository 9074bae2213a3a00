use Rattle.simple_form_laws.proofs.DepthExample.{deep-refused, shallow-accepted}
use Rattle.simple_form_laws.proofs.joined_by_commas.Goals as goal

pub returns-clause-refused : goal.returns-clause-refused
returns-clause-refused c = deep-refused

pub returns-clause-accepted : goal.returns-clause-accepted
returns-clause-accepted c = shallow-accepted
