use Rattle.simple_form_laws.proofs.NoLoop.{no_loop}
use Rattle.simple_form_laws.proofs.no_form_in_a_loop.Goals as goal

pub returns : goal.returns
returns c = no_loop
