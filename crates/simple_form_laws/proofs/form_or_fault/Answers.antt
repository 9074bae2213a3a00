use Rattle.simple_form_laws.proofs.Faultless.{has_simple}
use Rattle.simple_form_laws.proofs.form_or_fault.Goals as goal

pub returns : goal.returns
returns c = has_simple
