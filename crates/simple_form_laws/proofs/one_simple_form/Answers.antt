use Rattle.simple_form_laws.proofs.OneForm.{simple-same}
use Rattle.simple_form_laws.proofs.one_simple_form.Goals as goal

pub returns : goal.returns
returns c = simple-same
