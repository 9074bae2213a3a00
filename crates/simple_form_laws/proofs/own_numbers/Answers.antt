use Rattle.simple_form_laws.proofs.Numbers.{own_number}
use Rattle.simple_form_laws.proofs.own_numbers.Goals as goal

pub returns : goal.returns
returns c = own_number
