use Rattle.simple_form_laws.proofs.OneForm.{not_both}
use Rattle.simple_form_laws.proofs.no_form_with_a_refusal.Goals as goal

pub returns : goal.returns
returns c = not_both
